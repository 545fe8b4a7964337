-- The loaded sheet and its bounds stay where only the words behind it change.
use Rattle.std.specs.Prelude.{◌≡◌, List, ℕ, ◌≤◌, ◌<◌, get_or}
use Rattle.std.proofs.Common.{sym, ◌∙◌, arith}
use Rattle.lists.specs.Kept.{Kept}
use Rattle.paper.specs.Limits.{max_blocks, max_steps}
use Rattle.layout.specs.Layout.{regs_word, slots_word, vregs_word, blocks_word, entry_word, opened_word, steps_word, header_words, state_base}
use Rattle.loaded.specs.Same.{SameSteps}
use Rattle.loaded.specs.Loaded.{step_total, sheet_of, Bounds, Loaded}
use Rattle.loaded.specs.Blocks.{SameHead, SameLinks, same_typed, kept_step_bounds, kept_block_bounds, kept_blocks}

module _ {room : ℕ} {words words' : List ℕ} (kept : Kept state_base room words words') where
  head : SameHead words words'
  head = record { words = λ i h a b. kept.below i (omega arith) }

  steps : (n : ℕ) → n ≤ max_steps → SameSteps words words' n
  steps n h = record {
    operands = record { same_length = kept.same_length; words = λ i low high. kept.below i (omega arith) };
    words = λ i low high. kept.below i (omega arith);
  }

  links : (b : ℕ) → b < max_blocks → SameLinks words words' b
  links b h = record { words = λ i low other. kept.below _ (omega arith) }

  total : (b : ℕ) → b < max_blocks → step_total words' b ≡ step_total words b
  total b h = kept.below _ (omega arith)

  header : (k : ℕ) → k < header_words → get_or words' k 0 ≡ get_or words k 0
  header k h = kept.below k (omega arith)

  module _ (B : Bounds words) where
    few : (b : ℕ) → b < get_or words opened_word 0 → b < max_blocks
    few b h = omega (arith, B.opened, B.blocks)

    pub sheet_stays : sheet_of words' ≡ sheet_of words
    unfolding sheet_of
    sheet_stays =
        let body = kept_blocks B head (steps _ B.steps) (get_or words opened_word 0) (omega arith) (λ b h. links b (few b h)) (λ b h. total b (few b h)) in
        rw (header regs_word (omega arith), header slots_word (omega arith), header vregs_word (omega arith), header blocks_word (omega arith), header entry_word (omega arith), header opened_word (omega arith), same_typed head B.size kept.same_length, body)

    bounds_stay : Bounds words'
    bounds_stay = record {
      size = rw kept.same_length B.size;
      regs = rw (header regs_word (omega arith)) B.regs;
      slots = rw (header slots_word (omega arith)) B.slots;
      vregs = rw (header vregs_word (omega arith)) B.vregs;
      blocks = rw (header blocks_word (omega arith)) B.blocks;
      entry = rw (header blocks_word (omega arith), header entry_word (omega arith)) B.entry;
      opened = rw (header blocks_word (omega arith), header opened_word (omega arith)) B.opened;
      steps = rw (header steps_word (omega arith)) B.steps;
      each_block = λ b h. let o : b < get_or words opened_word 0 = omega (arith, header opened_word (omega arith)) in
          kept_block_bounds B head (steps _ B.steps) b o (links b (few b o)) (total b (few b o)) (omega (arith, header steps_word (omega arith)));
      each_step = λ k h. kept_step_bounds B head (steps _ B.steps) k (omega (arith, header steps_word (omega arith)));
    }

  pub loaded_stays : Loaded words → Loaded words'
  loaded_stays L = record { bounds = bounds_stay L.bounds; whole = header opened_word (omega arith) ∙ L.whole ∙ sym (header blocks_word (omega arith)) }
