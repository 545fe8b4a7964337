-- Where everything stands in the lent words: a header, the typed names, the blocks, the steps, the steps' operands, the blocks'
-- states, and a mark for each block. Every place is computed from the limits, so that none is searched for.
use Rattle.std.specs.Prelude.{List, [], ◌∷◌, ℕ, ◌+◌, ◌*◌, ◌≤◌}
use Rattle.std.proofs.Common.{arith}
use Rattle.paper.specs.Limits.{max_regs, max_vregs, max_blocks, max_succs, max_operands, max_steps, words_size}

-- the header: the numbers of `F`
abbrev pub regs_word : ℕ
regs_word = 0

abbrev pub slots_word : ℕ
slots_word = 1

abbrev pub vregs_word : ℕ
vregs_word = 2

abbrev pub blocks_word : ℕ
blocks_word = 3

abbrev pub entry_word : ℕ
entry_word = 4

-- how many `B` lines and how many steps have been read
abbrev pub opened_word : ℕ
opened_word = 5

abbrev pub steps_word : ℕ
steps_word = 6

-- the least number that the next `T` may have, and whether the `F` has been read
abbrev pub least_typed_word : ℕ
least_typed_word = 7

abbrev pub begun_word : ℕ
begun_word = 8

abbrev pub header_words : ℕ
header_words = 16

-- word n of these is 1 where `T` lists the virtual name n
abbrev pub typed_base : ℕ
typed_base = header_words

abbrev pub typed_words : ℕ
typed_words = max_vregs

-- a block: its first step, how many steps, how many successors, and the successors
abbrev pub block_base : ℕ
block_base = typed_base + typed_words

abbrev pub step_total_word : ℕ
step_total_word = 1

abbrev pub succ_total_word : ℕ
succ_total_word = 2

abbrev pub succs_from : ℕ
succs_from = 3

abbrev pub block_words : ℕ
block_words = succs_from + max_succs

abbrev pub succ_base : ℕ → ℕ
succ_base b = block_base + b * block_words + succs_from

-- a step, as steps' Actions packs it
abbrev pub step_base : ℕ
step_base = block_base + max_blocks * block_words

abbrev pub step_words : ℕ
step_words = 4

-- a step's operands: uses first, then defs
abbrev pub operand_base : ℕ
operand_base = step_base + max_steps * step_words

abbrev pub defs_from : ℕ
defs_from = max_operands

abbrev pub operand_words : ℕ
operand_words = defs_from + max_operands

-- a block's state: a row for the registers and one for the slots, each with room for the most of either
abbrev pub state_base : ℕ
state_base = operand_base + max_steps * operand_words

abbrev pub row_words : ℕ
row_words = max_regs

-- how many words each row has
abbrev pub row_widths : List ℕ
row_widths = row_words ∷ row_words ∷ []

abbrev pub state_words : ℕ
state_words = row_words + row_words

abbrev pub state_at : ℕ → ℕ
state_at b = state_base + b * state_words

-- the loaded sheet and the states take these words
abbrev pub all_words : ℕ
all_words = state_base + max_blocks * state_words

-- a block's mark: 0 where it is unvisited
abbrev pub mark_base : ℕ
mark_base = all_words

abbrev pub mark_at : ℕ → ℕ
mark_at b = mark_base + b

-- a run takes these
abbrev pub run_words : ℕ
run_words = mark_base + max_blocks

-- the published size has room for them, and would have for 16 argument cells in each state
pub published : run_words ≤ words_size
published = omega arith

pub published_later : run_words + max_blocks * 16 ≤ words_size
published_later = omega arith
