-- Filling the words: how far they have come, what they take next, and what one record more makes of them.
use Rattle.std.specs.Prelude.{◌≡◌, ◌⊎◌, List, [], ◌∷◌, ◌++◌, ℕ, ◌+◌, ◌/◌, ◌≤◌, ◌<◌, leb, length, get_or}
use Rattle.lists.specs.Region.{region}
use Rattle.paper.specs.Sheet.{Sheet, reference_typed}
use Rattle.paper.specs.Limits.{max_regs, max_slots, max_vregs, max_blocks, max_succs, max_operands}
use Rattle.paper.specs.Refusals.{Record, step_count, ascending, add_record}
use Rattle.layout.specs.Layout.{opened_word, steps_word, least_typed_word, begun_word, typed_base, typed_words, block_base, all_words}
use Rattle.cells.specs.Packed.{name_of_word, marked}
use Rattle.loaded.specs.Actions.{no_register, Ranged, DefsMarked, Packs}
use Rattle.loaded.specs.declared.Action.{Action}
use Rattle.loaded.specs.Loaded.{first_step, step_total, counts_in, blocks_at, marked_from, sheet_of, Bounds}

-- how far they have come

-- before the `F`: the words below the blocks are all 0
pub record Blank (words : List ℕ) : Type 0 where
  pub size : all_words ≤ length words
  pub zeros : (i : ℕ) → i < block_base → get_or words i 0 ≡ 0

-- behind it: what the next `T` and the next step are held against
pub record Begun (words : List ℕ) : Type 0 where
  pub begun : get_or words begun_word 0 ≡ 1
  pub bounds : Bounds words
  pub least : (n : ℕ) → ascending (marked_from 0 (region typed_base typed_words words) ++ (n ∷ [])) ≡ leb (get_or words least_typed_word 0) n
  pub counted : step_count (blocks_at words 0 (get_or words opened_word 0)) ≡ get_or words steps_word 0
  pub last : (b : ℕ) → b + 1 ≡ get_or words opened_word 0 → first_step words b + step_total words b ≡ get_or words steps_word 0

-- what they take next

pub record FunctionWithin (regs slots vregs blocks entry : ℕ) : Type 0 where
  pub regs_most : regs ≤ max_regs
  pub slots_most : slots ≤ max_slots
  pub vregs_most : vregs ≤ max_vregs
  pub blocks_most : blocks ≤ max_blocks
  pub entry_below : entry < blocks

pub record BlockWithin (blocks count : ℕ) (succs : List ℕ) : Type 0 where
  pub few : count ≤ max_succs
  pub below : (k : ℕ) → k < count → get_or succs k 0 < blocks

-- the words of a group stand from `from` on: each register is below `regs` or none, each mark is that of its own name
pub record GroupWithin (S : Sheet) (regs from count : ℕ) (words : List ℕ) : Type 0 where
  pub few : count ≤ max_operands
  pub registers : (k : ℕ) → k < count → (get_or words (from + k) 0 / 1024 < regs) ⊎ (get_or words (from + k) 0 / 1024 ≡ no_register)
  pub marks : (k : ℕ) → k < count → reference_typed S (name_of_word (get_or words (from + k) 0)) ≡ marked (get_or words (from + k) 0)

-- the action can be the next step
pub record StepFits (words : List ℕ) (action : Action) : Type 0 where
  pub packs : Packs (get_or words steps_word 0) action
  pub ranged : Ranged (counts_in words) words action
  pub honest : DefsMarked (reference_typed (sheet_of words)) words action

-- the words hold one record more
pub record RecordStored (before after : List ℕ) (r : Record) : Type 0 where
  pub same_length : length after ≡ length before
  pub meaning : sheet_of after ≡ add_record (sheet_of before) r
  pub progress : Begun after
