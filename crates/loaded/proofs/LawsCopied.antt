-- A part of the words, copied from a list of as many.
use mathlib.Core.Path.{◌≡◌, sym, ap}
use mathlib.Core.List.{List, [], ◌∷◌}
use Prim.Native.Nat.{ℕ, zero, suc, ◌+◌, ◌≤◌}
use native.Mathlib.Omega.{arith}
use borrow.Rule.Slice.PartMut.{put_mid}
use lib.ListN.{length, get_or}
use Rattle.lists.specs.Over.{over, over_none}

part_is : (at : ℕ) (p l : List ℕ) → at + length p ≤ length l → put_mid at (length p) l p ≡ over at (length p) (λ k x. get_or p k 0) l
unfolding over
part_is zero [] l h = sym (over_none zero _ l)
part_is zero (y ∷ p) [] h = absurd (omega arith)
part_is zero (y ∷ p) (x ∷ l) h = ap (λ (t : List ℕ). y ∷ t) (part_is zero p l (omega arith))
part_is (suc at) p [] h = absurd (omega arith)
part_is (suc at) p (x ∷ l) h = ap (λ (t : List ℕ). x ∷ t) (part_is at p l (omega arith))

-- as the code has it: the part is as long as the list, and then is the list
pub part_over : (at n m : ℕ) (p q l : List ℕ) → q ≡ p → length p ≡ n → m ≡ n → at + n ≤ length l → put_mid at m l q ≡ over at n (λ k x. get_or p k 0) l
part_over at n m p q l eq en em h = rw (em, eq, ← en) (part_is at p l (omega arith))
