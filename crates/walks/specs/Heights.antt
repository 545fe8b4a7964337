-- How far the elements of a list can still fall under a meet, for any type of elements: what is known of elements is lifted to
-- lists of them, so a row of cells and a state's list of rows are lifted by the same law.
use Rattle.std.specs.Prelude.{◌≡◌, refl, ◌⊎◌, List, [], ◌∷◌, map, ℕ, zero, suc, ◌+◌, ◌≤◌, ◌<◌, length, get_or, set}
use Rattle.std.proofs.Math.Path.{ap}
use Rattle.std.proofs.Common.{ap₂, inl, inr}
use mathlib.Core.HLevel.{Discrete}
use native.Mathlib.Omega.{arith}
use Rattle.paper.specs.Runs.{pointwise, list_same}
use Rattle.paper.specs.Steps.{by_place}

-- each element of the second list is what the first list's element at its place allows; so the two are equally long
pub data Each {I A : Type 0} (P : I → A → Type 0) : List I → List A → Type 0 where
  each_nil : Each P [] []
  each_cons : {i : I} {x : A} {is : List I} {xs : List A} → P i x → Each P is xs → Each P (i ∷ is) (x ∷ xs)

module _ {I A : Type 0} {P : I → A → Type 0} where
  each_length : {is : List I} {xs : List A} → Each P is xs → length xs ≡ length is
  each_length each_nil = refl
  each_length (each_cons p ps) = ap suc (each_length ps)

  pub each_map : (g : A → A) → ((i : I) (x : A) → P i x → P i (g x)) → {is : List I} {xs : List A} → Each P is xs → Each P is (map g xs)
  each_map g h each_nil = each_nil
  each_map g h (each_cons {i} {x} p ps) = each_cons (h i x p) (each_map g h ps)

  pub each_placed : (g : ℕ → A → A) → ((k : ℕ) (i : I) (x : A) → P i x → P i (g k x)) → {is : List I} {xs : List A} → Each P is xs → Each P is (by_place g xs)
  unfolding by_place
  each_placed g h each_nil = each_nil
  each_placed g h (each_cons {i} {x} p ps) = each_cons (h 0 i x p) (each_placed (λ k. g (suc k)) (λ k. h (suc k)) ps)

  -- one element changed; and one element changed where all others change too
  pub each_set : (g : A → A) → ((i : I) (x : A) → P i x → P i (g x)) → (d : A) {is : List I} {xs : List A} (k : ℕ) → Each P is xs → Each P is (set xs k (g (get_or xs k d)))
  each_set g h d k each_nil = each_nil
  each_set g h d zero (each_cons {i} {x} p ps) = each_cons (h i x p) ps
  each_set g h d (suc k) (each_cons p ps) = each_cons p (each_set g h d k ps)

  pub each_map_set : (f g : A → A) → ((i : I) (x : A) → P i x → P i (f x)) → ((i : I) (x : A) → P i x → P i (g x)) → (d : A) {is : List I} {xs : List A} (k : ℕ)
      → Each P is xs → Each P is (set (map f xs) k (g (get_or xs k d)))
  each_map_set f g p q d k each_nil = each_nil
  each_map_set f g p q d zero (each_cons {i} {x} e es) = each_cons (q i x e) (each_map f p es)
  each_map_set f g p q d (suc k) (each_cons {i} {x} e es) = each_cons (p i x e) (each_map_set f g p q d k es)

  -- two lists, place by place
  pub each_both : (m : A → A → A) → ((i : I) (x y : A) → P i x → P i y → P i (m x y)) → {is : List I} {a b : List A} → Each P is a → Each P is b
      → Each P is (pointwise m a b)
  unfolding pointwise
  each_both m h each_nil each_nil = each_nil
  each_both m h (each_cons {i} {x} p ps) (each_cons {x = y} q qs) = each_cons (h i x y p q) (each_both m h ps qs)

  -- an element read with a default is one of the list, or the default
  pub each_getD : {is : List I} {xs : List A} (d : A) (k : ℕ) → Each P is xs → (get_or xs k d ≡ d) ⊎ ((i : I) × P i (get_or xs k d))
  each_getD d k each_nil = inl refl
  each_getD d zero (each_cons {i} p ps) = inr (i, p)
  each_getD d (suc k) (each_cons p ps) = each_getD d k ps

pub each_lengths : {I A : Type 0} {P : I → A → Type 0} {iss : List (List I)} {xss : List (List A)} → Each (Each P) iss xss → map length xss ≡ map length iss
each_lengths each_nil = refl
each_lengths (each_cons p ps) = ap₂ (λ (n : ℕ) (l : List ℕ). n ∷ l) (each_length p) (each_lengths ps)

unfoldable pub sum : {A : Type 0} → (A → ℕ) → List A → ℕ
sum f [] = 0
sum f (x ∷ xs) = f x + sum f xs

-- an element has a height, at most what its place allows, and a meet that changes it lowers its height
pub record Graded {I A : Type 0} (m : A → A → A) (P : I → A → Type 0) (height : A → ℕ) (top : I → ℕ) : Type 0 where
  pub same : Discrete A
  pub high : (i : I) (x : A) → P i x → height x ≤ top i
  pub falls : (i : I) (x y : A) → P i x → P i y → ¬ (m x y ≡ x) → height (m x y) < height x
  pub kept : (i : I) (x y : A) → P i x → P i y → P i (m x y)

module _ {I A : Type 0} {m : A → A → A} {P : I → A → Type 0} {height : A → ℕ} {top : I → ℕ} (G : Graded m P height top) where
  under : (i : I) (x y : A) → P i x → P i y → height (m x y) ≤ height x
  under i x y p q = go (G.same (m x y) x)
    where
      go : Dec (m x y ≡ x) → height (m x y) ≤ height x
      go (yes e) = omega (arith, ap height e)
      go (no n) = omega (arith, G.falls i x y p q n)

  both_under : {is : List I} {a b : List A} → Each P is a → Each P is b → sum height (pointwise m a b) ≤ sum height a
  unfolding pointwise sum
  both_under each_nil each_nil = omega arith
  both_under (each_cons {i} {x} p ps) (each_cons {x = y} q qs) = omega (arith, under i x y p q, both_under ps qs)

  both_falls : {is : List I} {a b : List A} → Each P is a → Each P is b → ¬ (pointwise m a b ≡ a) → sum height (pointwise m a b) < sum height a
  unfolding pointwise sum
  both_falls each_nil each_nil n = absurd (n refl)
  both_falls (each_cons {i} {x} {xs = a} p ps) (each_cons {x = y} {xs = b} q qs) n = go (G.same (m x y) x) (both_falls ps qs)
    where
      go : Dec (m x y ≡ x) → (¬ (pointwise m a b ≡ a) → sum height (pointwise m a b) < sum height a) → height (m x y) + sum height (pointwise m a b) < height x + sum height a
      go (yes e) rec = omega (arith, ap height e, rec (λ f. n (cc)))
      go (no f) rec = omega (arith, G.falls i x y p q f, both_under ps qs)

  sum_high : {is : List I} {a : List A} → Each P is a → sum height a ≤ sum top is
  unfolding sum
  sum_high each_nil = omega arith
  sum_high (each_cons {i} {x} p ps) = omega (arith, G.high i x p, sum_high ps)

  -- what holds of elements holds of lists of them
  pub graded_list : Graded (pointwise m) (Each P) (sum height) (sum top)
  graded_list = record {
    same = list_same G.same;
    high = λ is a. sum_high;
    falls = λ is a b. both_falls;
    kept = λ is a b. each_both m G.kept;
  }
