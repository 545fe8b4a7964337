-- Numbers to the line's end, and at most eight of them.
use mathlib.Core.Path.{◌≡◌, refl, sym, ◌∙◌}
use mathlib.Core.Bool.{true, false, ◌&&◌}
use mathlib.Core.List.{List, [], ◌∷◌}
use mathlib.Core.Option.{Option, none, some}
use Prim.Native.Nat.{ℕ, zero, suc, ◌+◌, ◌≤◌, ◌<◌, min}
use native.Mathlib.Nat.{zero-min, min-zero, suc-min-suc, min-eq_left, min-eq_right}
use native.Mathlib.Numerals.{add-one}
use native.Mathlib.Omega.{arith}
use lib.Dec.{eqb, ltb}
use lib.ListN.{get_or, take}
use Rattle.lists.specs.Split.{by_test}
use Rattle.paper.specs.Text.{Bytes, line_feed, number_of}
use Rattle.paper.specs.Refusals.{next, onward, passing, within, rising, numbers_passing}
use Rattle.fields.specs.Fields.{fields_behind}
use Rattle.fields.specs.Cursor.{fields_behind_none}
use Rattle.records.specs.Records.{Behind}
use Rattle.columns.specs.Columns.{Shown, Passed}
use Rattle.columns.specs.Bounds.{before_others, number_test}
use Rattle.columns.proofs.LawsPassing.{shown_first, shown_second, passed_both, passed_on, rising_as}

module _ (number limit : ℕ) where
  -- one number, and then those behind it
  numbers_step : (least : ℕ) (fs : List Bytes)
      → numbers_passing number limit least fs
      ≡ passing number_of (number_test number limit least) fs (λ n rest. numbers_passing number limit (suc n) rest)
  unfolding numbers_passing passing onward next
  numbers_step least [] = refl
  numbers_step least (f ∷ fs) = go (number_of f)
    where
      go : (o : Option ℕ)
          → onward (number_test number limit least) (λ n rest. numbers_passing number limit (suc n) fs) (before_others fs o)
          ≡ onward (number_test number limit least) (λ n rest. numbers_passing number limit (suc n) rest) (before_others fs o)
      go none = refl
      go (some n) = refl

  -- at most `most` of them
  numbers_few : (most least : ℕ) (fs : List Bytes) → numbers_passing number limit least (take most fs) ≡ min most (numbers_passing number limit least fs)
  unfolding numbers_passing passing onward next
  numbers_few zero least fs = sym (zero-min _)
  numbers_few (suc most) least [] = sym (min-zero (suc most))
  numbers_few (suc most) least (f ∷ fs) = go (number_of f) (λ n. numbers_few most (suc n) fs)
    where
      go : (o : Option ℕ) → ((n : ℕ) → numbers_passing number limit (suc n) (take most fs) ≡ min most (numbers_passing number limit (suc n) fs))
          → onward (number_test number limit least) (λ n rest. numbers_passing number limit (suc n) (take most fs)) (before_others (take most fs) o)
          ≡ min (suc most) (onward (number_test number limit least) (λ n rest. numbers_passing number limit (suc n) fs) (before_others fs o))
      go none more = sym (min-zero (suc most))
      go (some n) more =
          by_test (within number limit n && rising number least n)
          (λ t. rw (t, more n) (sym (suc-min-suc most _)))
          λ t. rw t (sym (min-zero (suc most)))

  pub numbers_many : (most : ℕ) (fs : List Bytes) {n : ℕ} → n ≡ numbers_passing number limit 0 fs → most < n → most
      ≡ numbers_passing number limit 0 (take most fs)
  numbers_many most fs {n} e h = sym (numbers_few most 0 fs ∙ rw (← e) (min-eq_left (omega arith)))

  pub numbers_all : (most : ℕ) (fs : List Bytes) {n : ℕ} → n ≡ numbers_passing number limit 0 fs → n ≤ most → n ≡ numbers_passing number limit 0 (take most fs)
  numbers_all most fs {n} e h = sym (numbers_few most 0 fs ∙ rw (← e) (min-eq_right (omega arith)))

-- the numbers from `at` on pass as far as i, and `least` is the least that may come next
pub record Counting (s : Bytes) (at number limit least count i : ℕ) : Type 0 where
  pub gives : numbers_passing number limit 0 (fields_behind s at) ≡ count + numbers_passing number limit least (fields_behind s i)
  pub behind : Behind s i
  pub few : count ≤ i
  pub small : least ≤ 100000

pub counting_none : {s : Bytes} {at : ℕ} (number limit : ℕ) → Behind s at → Counting s at number limit 0 0 at
counting_none number limit b = record { gives = omega arith; behind = b; few = omega arith; small = omega arith }

module _ {s : Bytes} {at number limit least count i : ℕ} (c : Counting s at number limit least count i) where
  -- a field that shows it ends the count
  stopped : Shown number_of (number_test number limit least) s i → count ≡ numbers_passing number limit 0 (fields_behind s at)
  stopped h =
      let e : numbers_passing number limit least (fields_behind s i) ≡ 0 = numbers_step number limit least (fields_behind s i) ∙ h.stops _ in
      sym (c.gives ∙ rw e (omega arith))

  pub counting_bad : Shown number_of (within number limit) s i → count ≡ numbers_passing number limit 0 (fields_behind s at)
  counting_bad h = stopped (shown_first (rising number least) h)

  pub counting_done : get_or s i 0 ≡ line_feed → count ≡ numbers_passing number limit 0 (fields_behind s at)
  unfolding numbers_passing
  counting_done f = sym (c.gives ∙ rw (fields_behind_none s i (λ t. omega (arith, t, f))) (omega arith))

  module _ {v after : ℕ} (p : Passed number_of (within number limit) s i v after) where
    pub counting_falls : (eqb number 6 && ltb v least) ≡ true → count ≡ numbers_passing number limit 0 (fields_behind s at)
    counting_falls e = stopped (shown_second (rising number least) p (rising_as number least v ∙ rw e))

    pub counting_more : (eqb number 6 && ltb v least) ≡ false → v < 100000 → Counting s at number limit (v + 1) (count + 1) after
    counting_more e small =
        let q : numbers_passing number limit least (fields_behind s i) ≡ suc (numbers_passing number limit (suc v) (fields_behind s after)) =
        numbers_step number limit least (fields_behind s i)
        ∙ passed_on (passed_both (rising number least) p (rising_as number least v ∙ rw e)) _ refl in
        record {
          gives = c.gives ∙ rw (q, add-one v) (omega arith);
          behind = p.field.behind;
          few = omega (arith, c.few, p.field.further);
          small = omega arith;
        }
