-- What loaded words mean: the sheet of the paper that stands in them, and the bounds that its numbers keep. The header has the
-- numbers of `F` and how far reading has come; then the typed names, the blocks, the steps and their operands (layout's Layout).
use Rattle.std.specs.Prelude.{◌≡◌, cond, not, List, [], ◌∷◌, ℕ, zero, suc, ◌+◌, ◌*◌, ◌≤◌, ◌<◌, eqb, length, get_or}
use Rattle.std.proofs.Math.Option.{Option, none, some}
use Rattle.lists.specs.Region.{region}
use Rattle.paper.specs.Sheet.{Block, Sheet, reference_typed}
use Rattle.paper.specs.Limits.{max_regs, max_slots, max_vregs, max_blocks, max_succs, max_steps}
use Rattle.layout.specs.Layout.{regs_word, slots_word, vregs_word, blocks_word, entry_word, opened_word, steps_word, least_typed_word, begun_word, typed_base, typed_words, block_base, step_total_word, succ_total_word, block_words, succ_base, all_words}
use Rattle.loaded.specs.Actions.{action_at, steps_at, Ranged, DefsMarked}
use Rattle.loaded.specs.declared.Counts.{Counts}
use Rattle.loaded.specs.declared.Reached.{Reached}

-- the counts of `F`
abbrev pub counts_of : List ℕ → Counts
counts_of words = record { regs = get_or words regs_word 0; slots = get_or words slots_word 0; vregs = get_or words vregs_word 0; blocks = get_or words blocks_word 0 }

-- how far reading has come, by the header
abbrev pub reached_of : List ℕ → Reached
reached_of words = record {
  begun = not (eqb (get_or words begun_word 0) 0);
  opened = get_or words opened_word 0;
  steps = get_or words steps_word 0;
  least = get_or words least_typed_word 0;
}

-- a block's words: its first step, how many steps, and how many successors
abbrev pub first_step : List ℕ → ℕ → ℕ
first_step words b = get_or words (block_base + b * block_words) 0

abbrev pub step_total : List ℕ → ℕ → ℕ
step_total words b = get_or words (block_base + b * block_words + step_total_word) 0

abbrev pub succ_total : List ℕ → ℕ → ℕ
succ_total words b = get_or words (block_base + b * block_words + succ_total_word) 0

-- how many cells each row of a state has
abbrev pub counts_in : List ℕ → List ℕ
counts_in words = get_or words regs_word 0 ∷ get_or words slots_word 0 ∷ []

unfoldable pub block_at : List ℕ → ℕ → Block
block_at words b = record { succs = region (succ_base b) (succ_total words b) words; steps = steps_at words (first_step words b) (step_total words b) }

-- the n blocks from b on
unfoldable pub blocks_at : List ℕ → ℕ → ℕ → List Block
blocks_at words b zero = []
blocks_at words b (suc n) = block_at words b ∷ blocks_at words (b + 1) n

-- the places, counted from n, of the words that are not 0
unfoldable pub marked_from : ℕ → List ℕ → List ℕ
marked_from n [] = []
marked_from n (w ∷ ws) = let rest = marked_from (suc n) ws in cond (eqb w 0) rest (n ∷ rest)

-- the sheet that stands in the words, as far as it has been read
unfoldable pub sheet_of : List ℕ → Sheet
sheet_of words = record {
  regs = get_or words regs_word 0;
  slots = get_or words slots_word 0;
  vregs = get_or words vregs_word 0;
  blocks = get_or words blocks_word 0;
  entry = get_or words entry_word 0;
  typed = marked_from 0 (region typed_base typed_words words);
  body = blocks_at words 0 (get_or words opened_word 0);
}

unfoldable pub so_far : List ℕ → Option Sheet
so_far words = cond (eqb (get_or words begun_word 0) 0) none (some (sheet_of words))

-- a block's numbers keep their bounds
pub record BlockBounds (words : List ℕ) (b : ℕ) : Type 0 where
  pub steps : first_step words b + step_total words b ≤ get_or words steps_word 0
  pub succs : succ_total words b ≤ max_succs
  pub below : (i : ℕ) → i < succ_total words b → get_or words (succ_base b + i) 0 < get_or words blocks_word 0

-- a step's numbers keep theirs, and the marks of its operands are those of `T`
pub record StepBounds (words : List ℕ) (k : ℕ) : Type 0 where
  pub ranged : Ranged (counts_in words) words (action_at words k)
  pub honest : DefsMarked (reference_typed (sheet_of words)) words (action_at words k)

-- the bounds of what has been read so far
pub record Bounds (words : List ℕ) : Type 0 where
  pub size : all_words ≤ length words
  pub regs : get_or words regs_word 0 ≤ max_regs
  pub slots : get_or words slots_word 0 ≤ max_slots
  pub vregs : get_or words vregs_word 0 ≤ max_vregs
  pub blocks : get_or words blocks_word 0 ≤ max_blocks
  pub entry : get_or words entry_word 0 < get_or words blocks_word 0
  pub opened : get_or words opened_word 0 ≤ get_or words blocks_word 0
  pub steps : get_or words steps_word 0 ≤ max_steps
  pub each_block : (b : ℕ) → b < get_or words opened_word 0 → BlockBounds words b
  pub each_step : (k : ℕ) → k < get_or words steps_word 0 → StepBounds words k

-- the words of a sheet that was read to its end
pub record Loaded (words : List ℕ) : Type 0 where
  pub bounds : Bounds words
  pub whole : get_or words opened_word 0 ≡ get_or words blocks_word 0
