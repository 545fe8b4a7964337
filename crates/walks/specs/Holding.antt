-- Where a name comes from: if a cell holds a name after a change of the state, then the cell that it was made from held it, or the
-- name was just put there.
use Rattle.std.specs.Prelude.{◌≡◌, Bool, set}
use Rattle.std.proofs.Math.Path.{refl, ap}
use Rattle.std.proofs.Common.{sym, ◌∙◌, ap₂, subst, arith, get_or-set_other}
use Rattle.std.proofs.Math.Bool.{true, false, cond}
use mathlib.Core.List.{List, [], ◌∷◌, map}
use Prim.Native.Nat.{ℕ, suc, zero}
use Rattle.std.proofs.Math.Decide.{ℕ_discrete}
use Rattle.std.proofs.Math.ListN.{get_or, get_or-map}
use Rattle.paper.specs.Text.{Name, name_same}
use Rattle.paper.specs.Sheet.{safepoint, listed}
use Rattle.paper.specs.Cells.{Cell, absent, unknown, conflicted, named, pick, copied, overwritten, house_changed, collected}
use Rattle.paper.specs.Steps.{State, Location, at, nowhere, slot, cell_at, store_at, get, put, everywhere, by_place, safepoint_row, house_effect, effect}
use Rattle.paper.specs.declared.Rule.TheVariants.{House}
use Rattle.walks.specs.Rows.{getD_placed}

module _ {Q : Type 0} {n : Name} {m : Bool} where
  pub absent_named : absent ≡ named n m → Q
  absent_named e = let z : ◌≡◌ {A = ℕ} 0 1 = cc in absurd (omega arith)

  pub unknown_named : unknown ≡ named n m → Q
  unknown_named e = let z : ◌≡◌ {A = ℕ} 0 1 = cc in absurd (omega arith)

  pub conflicted_named : conflicted ≡ named n m → Q
  conflicted_named e = let z : ◌≡◌ {A = ℕ} 0 1 = cc in absurd (omega arith)

-- what each function of cells makes a name of
pub copied_named : (c : Cell) (n : Name) (m : Bool) → copied c ≡ named n m → c ≡ named n m
unfolding copied
copied_named absent n m e = unknown_named e
copied_named unknown n m e = e
copied_named conflicted n m e = e
copied_named (named k l) n m e = e

pub overwritten_named : (to : Name) (c : Cell) (n : Name) (m : Bool) → overwritten to c ≡ named n m → (c ≡ named n m) × ¬ (n ≡ to)
unfolding overwritten
overwritten_named to absent n m e = absent_named e
overwritten_named to unknown n m e = unknown_named e
overwritten_named to conflicted n m e = conflicted_named e
overwritten_named to (named k l) n m e = go (name_same k to) e
  where
    go : (d : Dec (k ≡ to)) → pick d conflicted (named k l) ≡ named n m → (named k l ≡ named n m) × ¬ (n ≡ to)
    go (yes p) f = conflicted_named f
    go (no p) f = (f, λ q. p (cc))

pub changed_named : (from to : Name) (c : Cell) (n : Name) (m : Bool) → house_changed from to c ≡ named n m → (c ≡ named from m) × (n ≡ to)
unfolding house_changed
changed_named from to absent n m e = absent_named e
changed_named from to unknown n m e = unknown_named e
changed_named from to conflicted n m e = conflicted_named e
changed_named from to (named k l) n m e = go (name_same k from) e
  where
    go : (d : Dec (k ≡ from)) → pick d (named to l) conflicted ≡ named n m → (named k l ≡ named from m) × (n ≡ to)
    go (yes p) f = (cc, cc)
    go (no p) f = conflicted_named f

pub collected_named : (c : Cell) (n : Name) (m : Bool) → collected House c ≡ named n m → (c ≡ named n m) × (m ≡ false)
unfolding collected
collected_named absent n m e = absent_named e
collected_named unknown n m e = unknown_named e
collected_named conflicted n m e = conflicted_named e
collected_named (named k true) n m e = conflicted_named e
collected_named (named k false) n m e = (e, cc)

-- a stored cell is read back, unless its place is beyond the row
set_named : (c : Cell) (row : List Cell) (i : ℕ) (n : Name) (m : Bool) → get_or (set row i c) i absent ≡ named n m → c ≡ named n m
set_named c [] i n m e = absent_named e
set_named c (x ∷ row) zero n m e = e
set_named c (x ∷ row) (suc i) n m e = set_named c row i n m e

store_named : (c : Cell) (s : State) (r i : ℕ) (n : Name) (m : Bool) → cell_at (store_at r i c s) r i ≡ named n m → c ≡ named n m
store_named c [] r i n m e = absent_named e
store_named c (row ∷ s) zero i n m e = set_named c row i n m e
store_named c (row ∷ s) (suc r) i n m e = store_named c s r i n m e

store_other : (c : Cell) (s : State) (r i j : ℕ) → ¬ (j ≡ i) → cell_at (store_at r i c s) r j ≡ cell_at s r j
store_other c [] r i j h = refl
store_other c (row ∷ s) zero i j h = get_or-set_other row i j c absent h
store_other c (row ∷ s) (suc r) i j h = store_other c s r i j h

store_row : (c : Cell) (s : State) (r q i j : ℕ) → ¬ (q ≡ r) → cell_at (store_at r i c s) q j ≡ cell_at s q j
store_row c s r q i j h = ap (λ (row : List Cell). get_or row j absent) (get_or-set_other s r q (set (get_or s r []) i c) [] h)

pub put_named : (l : Location) (c : Cell) (s : State) (n : Name) (m : Bool) → get (put l c s) l ≡ named n m → c ≡ named n m
unfolding get put
put_named (at row place) c s n m e = store_named c s row place n m e
put_named nowhere c s n m e = absent_named e

pub get_put_other : (l k : Location) (c : Cell) (s : State) → ¬ (k ≡ l) → get (put l c s) k ≡ get s k
unfolding get put
get_put_other (at row i) (at other j) c s h = go (ℕ_discrete other row)
  where
    go : Dec (other ≡ row) → cell_at (store_at row i c s) other j ≡ cell_at s other j
    go (yes e) = subst (λ (r : ℕ). cell_at (store_at row i c s) r j ≡ cell_at s r j) (sym e) (store_other c s row i j (λ f. h (ap₂ at e f)))
    go (no d) = store_row c s row other i j d
get_put_other (at row i) nowhere c s h = refl
get_put_other nowhere k c s h = refl

cell_map : (f : Cell → Cell) → f absent ≡ absent → (row : List Cell) (i : ℕ) → get_or (map f row) i absent ≡ f (get_or row i absent)
cell_map f e row i = ap (get_or (map f row) i) (sym e) ∙ get_or-map f row i absent

cell_everywhere : (f : Cell → Cell) → f absent ≡ absent → (s : State) (r i : ℕ) → cell_at (map (map f) s) r i ≡ f (cell_at s r i)
cell_everywhere f e s r i = ap (λ (row : List Cell). get_or row i absent) (get_or-map (map f) s r []) ∙ cell_map f e (get_or s r []) i

pub get_everywhere : (f : Cell → Cell) → f absent ≡ absent → (s : State) (l : Location) → get (everywhere f s) l ≡ f (get s l)
unfolding get everywhere
get_everywhere f e s (at row place) = cell_everywhere f e s row place
get_everywhere f e s nowhere = sym e

-- what a safepoint leaves of a cell in a row that it lists nothing of, and of a slot that it lists or does not
module _ (ref : Name → Bool) (inst : ℕ) (slots : List ℕ) (s : State) (i : ℕ) where
  no_row : (r : ℕ) → safepoint_row House slots r [] ≡ []
  unfolding safepoint_row by_place
  no_row zero = refl
  no_row (suc zero) = refl
  no_row (suc (suc r)) = refl

  row_collected : (r : ℕ) → get_or (by_place (safepoint_row House slots) s) r [] ≡ safepoint_row House slots r (get_or s r [])
  row_collected r = getD_placed (safepoint_row House slots) [] no_row s r

  pub get_unlisted : (r : ℕ) → safepoint_row House slots r (get_or s r []) ≡ map (collected House) (get_or s r []) → get (effect House ref (safepoint inst slots) s) (at r i) ≡ collected House (get s (at r i))
  unfolding get effect house_effect collected
  get_unlisted r e = ap (λ (row : List Cell). get_or row i absent) (row_collected r ∙ e) ∙ cell_map (collected House) refl (get_or s r []) i

  pub get_listed : get (effect House ref (safepoint inst slots) s) (slot i) ≡ cond (listed slots i) (get s (slot i)) (collected House (get s (slot i)))
  unfolding get effect house_effect safepoint_row collected
  get_listed =
      ap (λ (row : List Cell). get_or row i absent) (row_collected 1)
      ∙ getD_placed (λ j c. cond (listed slots j) c (collected House c)) absent (λ j. same (listed slots j)) (get_or s 1 []) i
    where
      same : (b : Bool) → cond b absent absent ≡ absent
      same true = refl
      same false = refl
