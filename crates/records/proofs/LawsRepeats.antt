-- Numbers that stand twice among those below a limit.
use Rattle.std.specs.List.{list_any}
use mathlib.Core.Path.{◌≡◌, refl, sym}
use mathlib.Core.Bool.{true, false, ◌||◌}
use mathlib.Core.List.{List, [], ◌∷◌, map}
use Prim.Native.Nat.{ℕ, suc, ◌+◌, ◌-◌, ◌≤◌, ◌<◌}
use native.Mathlib.Decide.{ℕ_discrete}
use native.Mathlib.Numerals.{add-one}
use native.Mathlib.Omega.{arith}
use borrow.Author.Tests.{eq-eqb, ne_eqb, eqb-true, eqb-false, lt-ltb, le-ltb, ltb-false}
use lib.Dec.{eqb, ltb}
use lib.ListN.{length, get_or, take, drop, length-drop, drop_of_length-le}
use lib.Seq.{drop-cons, take_all}
use Rattle.lists.specs.Split.{by_test}
use Rattle.paper.specs.Cells.{pick}
use Rattle.paper.specs.Refusals.{any, repeats}
use Rattle.records.specs.declared.OperandCodes.{OperandCodes}
use Rattle.records.specs.Parts.{below, no_codes}

same_eqb : (x y : ℕ) → pick (ℕ_discrete x y) true false ≡ eqb x y
same_eqb x y = go (ℕ_discrete x y)
  where
    go : (d : Dec (x ≡ y)) → pick d true false ≡ eqb x y
    go (yes p) = sym (eq-eqb x y p)
    go (no n) = sym (ne_eqb x y n)

-- a number below the limit is as often among all as among those below it
any_below : (limit x : ℕ) (l : List ℕ) → x < limit → any (λ y. pick (ℕ_discrete x y) true false) (below limit l) ≡ any (eqb x) l
unfolding any below
any_below limit x [] h = refl
any_below limit x (y ∷ l) h =
    by_test (ltb y limit)
    (λ e. rw (e, same_eqb x y, any_below limit x l h))
    λ e. rw (e, ne_eqb x y (λ k. let q : limit ≤ y = ltb-false _ _ e in omega arith), any_below limit x l h)

any_same : (x : ℕ) (l : List ℕ) → any (λ y. pick (ℕ_discrete x y) true false) l ≡ any (eqb x) l
unfolding any
any_same x [] = refl
any_same x (y ∷ l) = rw (same_eqb x y, any_same x l)

same_either_way : (x y : ℕ) → eqb y x ≡ eqb x y
same_either_way x y = by_test (eqb x y) (λ e. rw e (eq-eqb y x (sym (eqb-true x y e)))) λ e. rw e (ne_eqb y x (λ k. eqb-false x y e (sym k)))

-- by their codes
module _ (code : OperandCodes → ℕ) where
  among : (x : ℕ) (l : List OperandCodes) → list_any (λ o. eqb (code o) x) l ≡ any (eqb x) (map code l)
  unfolding any
  among x [] = refl
  among x (o ∷ l) = rw (same_either_way x (code o), among x l)

  -- the library's search for a code behind place i
  pub found_behind : (x i : ℕ) (l : List OperandCodes) → list_any (λ o. eqb (code o) x) (take (length l - (i + 1)) (drop (i + 1) l)) ≡ any (eqb x) (map code (drop (i + 1) l))
  found_behind x i l = rw (take_all (length l - (i + 1)) (drop (i + 1) l) (omega (arith, length-drop (i + 1) l))) (among x (drop (i + 1) l))

  module _ (l : List OperandCodes) (i : ℕ) where
    pub same_past : length l ≤ i → repeats ℕ_discrete (map code (drop i l)) ≡ false
    unfolding repeats
    same_past p = rw (drop_of_length-le l p)

    pub same_step : i < length l
        → repeats ℕ_discrete (map code (drop i l)) ≡ (any (eqb (code (get_or l i no_codes))) (map code (drop (i + 1) l)) || repeats ℕ_discrete (map code (drop (i + 1) l)))
    unfolding repeats
    same_step p = rw (add-one i, drop-cons l i no_codes p, any_same (code (get_or l i no_codes)) (map code (drop (suc i) l)))

    module _ (limit : ℕ) where
      pub below_past : length l ≤ i → repeats ℕ_discrete (below limit (map code (drop i l))) ≡ false
      unfolding repeats below
      below_past p = rw (drop_of_length-le l p)

      module _ (p : i < length l) where
        pub below_above : limit ≤ code (get_or l i no_codes) → repeats ℕ_discrete (below limit (map code (drop i l))) ≡ repeats ℕ_discrete (below limit (map code (drop (i + 1) l)))
        unfolding below
        below_above q = rw (add-one i, drop-cons l i no_codes p, le-ltb (code (get_or l i no_codes)) limit q)

        pub below_step : code (get_or l i no_codes) < limit
            → repeats ℕ_discrete (below limit (map code (drop i l)))
            ≡ (any (eqb (code (get_or l i no_codes))) (map code (drop (i + 1) l)) || repeats ℕ_discrete (below limit (map code (drop (i + 1) l))))
        unfolding below repeats
        below_step q = rw (add-one i, drop-cons l i no_codes p, lt-ltb (code (get_or l i no_codes)) limit q, any_below limit (code (get_or l i no_codes)) (map code (drop (suc i) l)) q)
