-- Laws of lists combined place by place, for any type of elements: a row of cells and a state's list of rows are two instances
-- of the same laws. `both` cuts at the shorter list, so no law needs a length.
use Rattle.std.specs.Prelude.{◌≡◌, get_or, set}
use Rattle.std.proofs.Math.Path.{refl, sym}
use mathlib.Core.List.{List, [], ◌∷◌, map}
use Prim.Native.Nat.{ℕ, zero, suc}
use Rattle.paper.specs.Runs.{pointwise}
use Rattle.paper.specs.Steps.{by_place}

module _ {A : Type 0} (f : A → A → A) where
  pub both_idem : ((x : A) → f x x ≡ x) → (a : List A) → pointwise f a a ≡ a
  unfolding pointwise
  both_idem h [] = refl
  both_idem h (x ∷ a) = cc (h x, both_idem h a)

  pub both_comm : ((x y : A) → f x y ≡ f y x) → (a b : List A) → pointwise f a b ≡ pointwise f b a
  unfolding pointwise
  both_comm h [] [] = refl
  both_comm h [] (y ∷ b) = refl
  both_comm h (x ∷ a) [] = refl
  both_comm h (x ∷ a) (y ∷ b) = cc (h x y, both_comm h a b)

  pub both_assoc : ((x y z : A) → f (f x y) z ≡ f x (f y z)) → (a b c : List A) → pointwise f (pointwise f a b) c ≡ pointwise f a (pointwise f b c)
  unfolding pointwise
  both_assoc h [] b c = refl
  both_assoc h (x ∷ a) [] c = refl
  both_assoc h (x ∷ a) (y ∷ b) [] = refl
  both_assoc h (x ∷ a) (y ∷ b) (z ∷ c) = cc (h x y z, both_assoc h a b c)

  pub both_none : (a : List A) → pointwise f a [] ≡ []
  unfolding pointwise
  both_none [] = refl
  both_none (x ∷ a) = refl

  -- a function distributes over f
  abbrev pub Spreads : (A → A) → Type 0
  Spreads g = (x y : A) → g (f x y) ≡ f (g x) (g y)

  pub both_map : (g : A → A) → Spreads g → (a b : List A) → map g (pointwise f a b) ≡ pointwise f (map g a) (map g b)
  unfolding pointwise
  both_map g h [] b = refl
  both_map g h (x ∷ a) [] = refl
  both_map g h (x ∷ a) (y ∷ b) = cc (h x y, both_map g h a b)

  pub both_placed : (g : ℕ → A → A) → ((i : ℕ) → Spreads (g i)) → (a b : List A) → by_place g (pointwise f a b) ≡ pointwise f (by_place g a) (by_place g b)
  unfolding pointwise by_place
  both_placed g h [] b = refl
  both_placed g h (x ∷ a) [] = refl
  both_placed g h (x ∷ a) (y ∷ b) = cc (h 0 x y, both_placed (λ i. g (suc i)) (λ i. h (suc i)) a b)

  pub both_set : (a b : List A) (i : ℕ) (x y : A) → set (pointwise f a b) i (f x y) ≡ pointwise f (set a i x) (set b i y)
  unfolding pointwise
  both_set [] b i x y = refl
  both_set (u ∷ a) [] zero x y = refl
  both_set (u ∷ a) [] (suc i) x y = refl
  both_set (u ∷ a) (v ∷ b) zero x y = refl
  both_set (u ∷ a) (v ∷ b) (suc i) x y = cc (both_set a b i x y)

  -- where the default wins over all
  pub both_getD : (d : A) → ((x : A) → f d x ≡ d) → ((x : A) → f x d ≡ d) → (a b : List A) (i : ℕ) → get_or (pointwise f a b) i d ≡ f (get_or a i d) (get_or b i d)
  unfolding pointwise
  both_getD d l r [] b i = sym (l (get_or b i d))
  both_getD d l r (u ∷ a) [] i = sym (r (get_or (u ∷ a) i d))
  both_getD d l r (u ∷ a) (v ∷ b) zero = refl
  both_getD d l r (u ∷ a) (v ∷ b) (suc i) = both_getD d l r a b i

pub getD_placed : {A : Type 0} (g : ℕ → A → A) (d : A) → ((i : ℕ) → g i d ≡ d) → (a : List A) (i : ℕ) → get_or (by_place g a) i d ≡ g i (get_or a i d)
unfolding by_place
getD_placed g d h [] i = sym (h i)
getD_placed g d h (x ∷ a) zero = refl
getD_placed g d h (x ∷ a) (suc i) = getD_placed (λ j. g (suc j)) d (λ j. h (suc j)) a i
