-- One field: it passes and the count goes on behind it, or it shows the refusal and the count ends; and what each refusal's tests
-- come to.
use mathlib.Core.Path.{◌≡◌, refl}
use mathlib.Core.Bool.{Bool, true, false, cond, not, ◌&&◌}
use mathlib.Core.List.{List}
use mathlib.Core.Option.{Option, none, some}
use Prim.Native.Nat.{ℕ, zero, suc}
use native.Mathlib.Omega.{arith}
use borrow.Author.Tests.{ne_eqb, lt-ltb, le-ltb, lt-leb, le-leb}
use lib.Dec.{eqb, leb, ltb}
use Rattle.lists.specs.Split.{by_test, by_order}
use Rattle.paper.specs.Text.{Bytes, Name}
use Rattle.paper.specs.Sheet.{Sheet}
use Rattle.paper.specs.Refusals.{Read, next, name_beyond, onward, passing, within, name_within, rising}
use Rattle.fields.specs.Fields.{fields_behind}
use Rattle.records.specs.Records.{Next}
use Rattle.columns.specs.Columns.{Shown, Passed}

module _ {A : Type 0} {read : Bytes → Option A} {test : A → Bool} {s : Bytes} {at : ℕ} where
  pub unread : next read (fields_behind s at) ≡ none → Shown read test s at
  unfolding passing onward
  unread e = record { stops = λ more. rw e }

  pub shown_by : {v : A} {after : ℕ} → Next read s at v after → test v ≡ false → Shown read test s at
  unfolding passing onward
  shown_by n e = record { stops = λ more. rw (n.says, e) }

  pub passed_on : {v : A} {after : ℕ} {n : ℕ} → Passed read test s at v after → (more : A → List Bytes → ℕ)
      → more v (fields_behind s after) ≡ n → passing read test (fields_behind s at) more ≡ suc n
  unfolding passing onward
  passed_on p more e = rw (p.field.says, p.passes, e)

  -- a second test behind the first
  module _ (also : A → Bool) where
    pub shown_first : Shown read test s at → Shown read (λ a. test a && also a) s at
    unfolding passing onward
    shown_first h = record { stops = λ more. go more (next read (fields_behind s at)) (h.stops (λ a fs. 0)) }
      where
        go : (more : A → List Bytes → ℕ) (o : Option (Read A)) → onward test (λ a fs. 0) o ≡ 0 → onward (λ a. test a && also a) more o ≡ 0
        go more none e = refl
        go more (some x) e = by_test (test x.value) (λ t. absurd (let z : ◌≡◌ {A = ℕ} 1 0 = rw t at e in omega arith)) λ t. rw t

    pub shown_second : {v : A} {after : ℕ} → Passed read test s at v after → also v ≡ false → Shown read (λ a. test a && also a) s at
    unfolding passing onward
    shown_second p e = record { stops = λ more. rw (p.field.says, p.passes, e) }

    pub passed_both : {v : A} {after : ℕ} → Passed read test s at v after → also v ≡ true → Passed read (λ a. test a && also a) s at v after
    passed_both p e = record { field = p.field; passes = rw (p.passes, e) }

-- the tests

below_as : (limit v : ℕ) → ltb v limit ≡ not (leb limit v)
below_as limit v = by_order v limit (λ h. rw (lt-ltb v limit h, lt-leb limit v h)) λ h. rw (le-ltb v limit h, le-leb limit v h)

module _ (number : ℕ) where
  pub within_as : (limit v : ℕ) → within number limit v ≡ not (eqb number 5 && leb limit v)
  unfolding within
  within_as limit v = go (eqb number 5)
    where
      go : (b : Bool) → cond b (ltb v limit) true ≡ not (b && leb limit v)
      go true = below_as limit v
      go false = refl

  pub name_within_as : (S : Sheet) (name : Name) → name_within number S name ≡ not (eqb number 5 && name_beyond S name)
  unfolding name_within
  name_within_as S name = go (eqb number 5)
    where
      go : (b : Bool) → cond b (not (name_beyond S name)) true ≡ not (b && name_beyond S name)
      go true = refl
      go false = refl

  pub rising_as : (least v : ℕ) → rising number least v ≡ not (eqb number 6 && ltb v least)
  unfolding rising
  rising_as least v = go (eqb number 6)
    where
      leb_as : leb least v ≡ not (ltb v least)
      leb_as = by_order v least (λ h. rw (lt-ltb v least h, lt-leb least v h)) λ h. rw (le-ltb v least h, le-leb least v h)

      go : (b : Bool) → cond b (leb least v) true ≡ not (b && ltb v least)
      go true = leb_as
      go false = refl

  -- `blocks` is not 0
  pub some_as : (v : ℕ) → within number v 0 ≡ not (eqb number 5 && eqb v 0)
  unfolding within
  some_as v = go (eqb number 5)
    where
      positive : (v : ℕ) → ltb 0 v ≡ not (eqb v 0)
      positive zero = refl
      positive (suc v) = rw (lt-ltb 0 (suc v) (omega arith), ne_eqb (suc v) 0 (λ e. omega arith))

      go : (b : Bool) → cond b (ltb 0 v) true ≡ not (b && eqb v 0)
      go true = positive v
      go false = refl
