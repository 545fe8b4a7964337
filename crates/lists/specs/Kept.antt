-- A list after a change that stays within a region: the same length, and the same elements below the region and above it.
use Rattle.std.specs.Prelude.{◌≡◌, refl, List, ℕ, ◌+◌, ◌≤◌, ◌<◌, length, get_or, set}
use Rattle.std.proofs.Common.{◌∙◌, arith, length-set, get_or-set_other}
use Rattle.lists.specs.Over.{over, length_over, getD_over_below, getD_over_above}

-- `after` is `before` but for the n elements from `at` on
pub record Kept (at n : ℕ) (before after : List ℕ) : Type 0 where
  pub same_length : length after ≡ length before
  pub below : (k : ℕ) → k < at → get_or after k 0 ≡ get_or before k 0
  pub above : (k : ℕ) → at + n ≤ k → get_or after k 0 ≡ get_or before k 0

pub kept_same : (at n : ℕ) (l : List ℕ) → Kept at n l l
kept_same at n l = record { same_length = refl; below = λ k h. refl; above = λ k h. refl }

-- one change after another, both within a region
pub kept_then : (at n : ℕ) {l l₁ l₂ : List ℕ} {a b m k : ℕ} → Kept a m l l₁ → Kept b k l₁ l₂
    → at ≤ a → a + m ≤ at + n → at ≤ b → b + k ≤ at + n → Kept at n l l₂
kept_then at n p q ha hm hb hk = record {
  same_length = q.same_length ∙ p.same_length;
  below = λ i h. q.below i (omega arith) ∙ p.below i (omega arith);
  above = λ i h. q.above i (omega arith) ∙ p.above i (omega arith);
}

-- what one region keeps, a wider one does
pub kept_wider : (at n : ℕ) {l l₁ : List ℕ} {a m : ℕ} → Kept a m l l₁ → at ≤ a → a + m ≤ at + n → Kept at n l l₁
kept_wider at n p ha hm = record {
  same_length = p.same_length;
  below = λ i h. p.below i (omega arith);
  above = λ i h. p.above i (omega arith);
}

pub kept_over : (at n : ℕ) (f : ℕ → ℕ → ℕ) (l : List ℕ) → Kept at n l (over at n f l)
kept_over at n f l = record {
  same_length = length_over at n f l;
  below = λ k h. getD_over_below at n f l k 0 h;
  above = λ k h. getD_over_above at n f l k 0 h;
}

pub kept_set : (at n : ℕ) (l : List ℕ) (i v : ℕ) → at ≤ i → i < at + n → Kept at n l (set l i v)
kept_set at n l i v hl hr = record {
  same_length = length-set l i v;
  below = λ k h. get_or-set_other l i k v 0 (λ e. omega arith);
  above = λ k h. get_or-set_other l i k v 0 (λ e. omega arith);
}
