-- A region of a list, read after another was changed.
use Rattle.std.specs.Prelude.{◌≡◌, List, ℕ, ◌+◌, ◌≤◌, ◌<◌, length, get_or, take, drop}
use Rattle.std.proofs.Common.{sym, ◌∙◌, zero-add, arith, length-take, length-drop, ext_get_or, get_or-take, get_or-drop}
use Rattle.lists.specs.Over.{over, length_over, getD_over_in, getD_over_below, getD_over_above}

unfoldable pub region : ℕ → ℕ → List ℕ → List ℕ
region at n l = take n (drop at l)

module _ (at n : ℕ) (l : List ℕ) where
  pub length_region : at + n ≤ length l → length (region at n l) ≡ n
  unfolding region
  length_region h = simp (length-take, length-drop) (omega arith)

  pub getD_region : (k : ℕ) → k < n → get_or (region at n l) k 0 ≡ get_or l (at + k) 0
  unfolding region
  getD_region k h = rw (get_or-take, get_or-drop)

-- two lists with the same elements there have the same region
pub same_region : (at n : ℕ) (l m : List ℕ) → at + n ≤ length l → length m ≡ length l
    → ((k : ℕ) → k < n → get_or m (at + k) 0 ≡ get_or l (at + k) 0) → region at n m ≡ region at n l
same_region at n l m h e same =
    let lm : length (region at n m) ≡ n = length_region at n m (omega arith) in
    let ll : length (region at n l) ≡ n = length_region at n l h in
    ext_get_or 0 _ _ (lm ∙ sym ll) λ k hk.
    let hn : k < n = omega arith in
    getD_region at n m k hn ∙ same k hn ∙ sym (getD_region at n l k hn)

module _ (at n : ℕ) (f : ℕ → ℕ → ℕ) (l : List ℕ) (b m : ℕ) (h : b + m ≤ length l) where
  pub region_below : b + m ≤ at → region b m (over at n f l) ≡ region b m l
  region_below q = same_region b m l (over at n f l) h (length_over at n f l) λ k hk. getD_over_below at n f l (b + k) 0 (omega arith)

  pub region_above : at + n ≤ b → region b m (over at n f l) ≡ region b m l
  region_above q = same_region b m l (over at n f l) h (length_over at n f l) λ k hk. getD_over_above at n f l (b + k) 0 (omega arith)

-- a row that was filled from a region
pub filled : (at n : ℕ) (l row : List ℕ) → length row ≡ n → at + n ≤ length l → over 0 n (λ k x. get_or l (at + k) 0) row ≡ region at n l
filled at n l row e h =
    ext_get_or 0 _ _ (length_over 0 n _ row ∙ e ∙ sym (length_region at n l h)) λ k hk.
    let hn : k < n = omega (arith, length_over 0 n (λ k x. get_or l (at + k) 0) row) in
    (rw zero-add at (getD_over_in 0 n (λ k x. get_or l (at + k) 0) row k 0 hn (omega arith))) ∙ sym (getD_region at n l k hn)
