-- A store seen through a map and a prefix; a region after a change of that region.
use Rattle.std.specs.Prelude.{◌≡◌, length, get_or, set, take}
use Rattle.std.proofs.Math.Path.{refl, ap}
use Rattle.std.proofs.Common.{sym, zero-add, add-one, arith}
use mathlib.Core.List.{List, [], ◌∷◌, map}
use Prim.Native.Nat.{ℕ, zero, suc, ◌+◌, ◌≤◌}
use Rattle.std.proofs.Math.Seq.{take-nil}
use Rattle.lists.specs.Over.{over, over_none, getD_over_above}
use Rattle.lists.specs.Region.{region}

pub map_set : {A B : Type 0} (f : A → B) (l : List A) (i : ℕ) (v : A) → map f (set l i v) ≡ set (map f l) i (f v)
map_set f [] i v = refl
map_set f (x ∷ l) zero v = refl
map_set f (x ∷ l) (suc i) v = ap (λ t. f x ∷ t) (map_set f l i v)

pub map_take : {A B : Type 0} (f : A → B) (n : ℕ) (l : List A) → map f (take n l) ≡ take n (map f l)
map_take f zero l = refl
map_take f (suc n) [] = refl
map_take f (suc n) (x ∷ l) = ap (λ t. f x ∷ t) (map_take f n l)

pub take_set : {A : Type 0} (n : ℕ) (l : List A) (i : ℕ) (v : A) → take n (set l i v) ≡ set (take n l) i v
take_set zero l i v = refl
take_set (suc n) [] i v = refl
take_set (suc n) (x ∷ l) zero v = refl
take_set (suc n) (x ∷ l) (suc i) v = ap (λ t. x ∷ t) (take_set n l i v)

pub take_over : {A : Type 0} (n m : ℕ) (f : ℕ → A → A) (l : List A) → n ≤ m → take n (over 0 m f l) ≡ over 0 n f (take n l)
unfolding over
take_over zero m f l h = refl
take_over (suc n) zero f l h = absurd (omega arith)
take_over (suc n) (suc m) f [] h = refl
take_over (suc n) (suc m) f (x ∷ l) h = ap (λ t. f 0 x ∷ t) (take_over n m (λ k. f (suc k)) l (omega arith))

pub region_over : (at n : ℕ) (f : ℕ → ℕ → ℕ) (l : List ℕ) → region at n (over at n f l) ≡ over 0 n f (region at n l)
unfolding over region
region_over zero n f l = take_over n n f l (omega arith)
region_over (suc at) n f [] = rw take-nil
region_over (suc at) n f (x ∷ l) = region_over at n f l

-- a row copied over a list of its own length
pub copied_over : {A : Type 0} (n : ℕ) (row l : List A) (d : A) → length l ≡ n → n ≤ length row → over 0 n (λ k x. get_or row k d) l ≡ take n row
unfolding over
copied_over zero row [] d e h = refl
copied_over zero row (x ∷ l) d e h = absurd (omega arith)
copied_over (suc n) row [] d e h = absurd (omega arith)
copied_over (suc n) [] (x ∷ l) d e h = absurd (omega arith)
copied_over (suc n) (y ∷ row) (x ∷ l) d e h = ap (λ t. y ∷ t) (copied_over n row l d (omega arith) (omega arith))

-- `over_step` from the front of a list, whatever the list's length: past the end nothing is stored
module _ {A : Type 0} where
  any_more : (n : ℕ) (f : ℕ → A → A) (l : List A) (d : A) → set (over 0 n f l) n (f n (get_or l n d)) ≡ over 0 (suc n) f l
  unfolding over
  any_more n f [] d = refl
  any_more zero f (x ∷ l) d = ap (λ (t : List A). f 0 x ∷ t) (sym (over_none zero _ l))
  any_more (suc n) f (x ∷ l) d = ap (λ (t : List A). f 0 x ∷ t) (any_more n (λ k. f (suc k)) l d)

  pub any_step : (n : ℕ) (f : ℕ → A → A) (l : List A) (d : A) (row : List A) (v : A) → row ≡ over 0 n f l → v ≡ f n (get_or row n d) → set row n v ≡ over 0 (n + 1) f l
  any_step n f l d row v er ev = rw (ev, er, getD_over_above 0 n f l n d (rw zero-add (omega arith)), add-one) (any_more n f l d)
