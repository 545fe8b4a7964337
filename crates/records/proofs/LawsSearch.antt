-- A search through the elements of a list.
use mathlib.Core.Path.{◌≡◌, refl}
use Rattle.std.specs.List.{list_any}
use mathlib.Core.Bool.{Bool, false}
use mathlib.Core.List.{List, [], ◌∷◌}
use Prim.Native.Nat.{ℕ, zero, suc, ◌≤◌, ◌<◌}
use native.Mathlib.Omega.{arith}
use lib.ListN.{length, get_or, take}
use Rattle.lists.specs.Split.{or_left, or_right}
use Rattle.paper.specs.Refusals.{any}

-- where none of them meets the test, each fails it
pub any_each : {A : Type 0} (l : List A) (count : ℕ) → count ≤ length l → (test : A → Bool) (d : A) → any test (take count l) ≡ false
    → (i : ℕ) → i < count → test (get_or l i d) ≡ false
unfolding any
any_each [] count h test d e i p = absurd (omega arith)
any_each (x ∷ xs) zero h test d e i p = absurd (omega arith)
any_each (x ∷ xs) (suc count) h test d e zero p = or_left (test x) _ e
any_each (x ∷ xs) (suc count) h test d e (suc i) p = any_each xs count (omega arith) test d (or_right (test x) _ e) i (omega arith)

-- the library's search
pub any_list : {A : Type 0} (test : A → Bool) (l : List A) → list_any test l ≡ any test l
unfolding any
any_list test [] = refl
any_list test (x ∷ l) = rw (any_list test l)
