-- A loaded sheet with no allocation missing: each step of each block is in range, and its marks are those of `T`.
use Rattle.std.specs.Prelude.{◌≡◌, ℕ, zero, suc, ◌+◌, ◌<◌, get_or}
use mathlib.Core.List.{List, [], map-eq-nil_iff}
use native.Mathlib.Omega.{arith}
use Rattle.paper.specs.Sheet.{Sheet, steps_of, reference_typed}
use Rattle.paper.specs.Report.{missing_names, names_lines, missing_from, missing_blocks, missing_allocations}
use Rattle.layout.specs.Layout.{blocks_word, opened_word, steps_word}
use Rattle.loaded.specs.Actions.{step_of, action_at, steps_at, InRange, DefsMarked}
use Rattle.loaded.specs.Laws.{both_none, allocated}
use Rattle.loaded.specs.Loaded.{first_step, step_total, counts_in, sheet_of, Loaded}
use Rattle.loaded.specs.Blocks.{steps_in_words}

block_none : (S : Sheet) (b i n : ℕ) → i < n → missing_blocks S b n ≡ [] → missing_from (b + i) 0 (steps_of S (b + i)) ≡ []
unfolding missing_blocks
block_none S b i zero h e = absurd (omega arith)
block_none S b zero (suc n) h e = let z : b + 0 ≡ b = omega arith in rw z (both_none _ _ e).0
block_none S b (suc i) (suc n) h e =
    let z : suc b + i ≡ b + suc i = omega arith in
    rw z at (block_none S (suc b) i n (omega arith) (both_none _ _ e).1)

step_none : (words : List ℕ) (b place k i n : ℕ) → i < n → missing_from b place (steps_at words k n) ≡ [] → missing_names (step_of words (action_at words (k + i))) ≡ []
unfolding names_lines missing_from steps_at
step_none words b place k i zero h e = absurd (omega arith)
step_none words b place k zero (suc n) h e = let z : k + 0 ≡ k = omega arith in rw z ((map-eq-nil_iff _).0 (both_none _ _ e).0)
step_none words b place k (suc i) (suc n) h e =
    let z : k + 1 + i ≡ k + suc i = omega arith in
    rw z at (step_none words b (suc place) (k + 1) i n (omega arith) (both_none _ _ e).1)

module _ {words : List ℕ} (L : Loaded words) (b : ℕ) (h : b < get_or words blocks_word 0) where
  pub opened_block : b < get_or words opened_word 0
  opened_block = rw L.whole h

  step_below : (place : ℕ) → place < step_total words b → first_step words b + place < get_or words steps_word 0
  step_below place hp = omega (arith, (L.bounds.each_block b opened_block).steps)

  pub in_range_at : missing_allocations (sheet_of words) ≡ [] → (place : ℕ) → place < step_total words b
      → InRange (counts_in words) words (action_at words (first_step words b + place))
  unfolding missing_allocations sheet_of
  in_range_at e place hp =
      let z : 0 + b ≡ b = omega arith in
      let none = rw (z, steps_in_words words b opened_block) at (block_none (sheet_of words) 0 b _ h e) in
      allocated (counts_in words) words _ (L.bounds.each_step (first_step words b + place) (step_below place hp)).ranged
      (step_none words b 0 (first_step words b) place (step_total words b) hp none)

  pub honest_at : (place : ℕ) → place < step_total words b
      → DefsMarked (reference_typed (sheet_of words)) words (action_at words (first_step words b + place))
  honest_at place hp = (L.bounds.each_step (first_step words b + place) (step_below place hp)).honest
