-- How long the text of entry states can get, what is compared of a sheet, and what the parts of `entry_states` ask of the words
-- and write.
use Rattle.std.specs.Prelude.{◌≡◌, List, [], ◌∷◌, ◌++◌, map, ℕ, ◌+◌, ◌*◌, ◌≤◌, ◌<◌, length, get_or}
use Rattle.lists.specs.Region.{region}
use Rattle.paper.specs.Text.{Bytes, tab, digits}
use Rattle.paper.specs.Limits.{max_regs, max_slots, max_blocks, report_size}
use Rattle.paper.specs.Runs.{analysis, checked_from}
use Rattle.paper.specs.Answer.{answer, written, laid}
use Rattle.paper.specs.declared.Rule.{Rule}
use Rattle.layout.specs.Layout.{blocks_word, state_at, mark_at, run_words}
use Rattle.cells.specs.Packed.{cell_of}
use Rattle.cells.specs.States.{stored_state}
use Rattle.loaded.specs.Loaded.{sheet_of, Loaded, counts_in}
use Rattle.tables.specs.Table.{mark_of}
use Rattle.states.specs.EntryStates.{cell_text, letter_D, entry_states}
use Rattle.states.specs.declared.Part.{Part}
use Rattle.states.specs.declared.Part.TheVariants.{Answer, States}

-- how long the text can get: the longest cell is `v255*`, the longest head `D`, three digits and a mark with their tabs
abbrev pub longest_cell : ℕ
longest_cell = 5

abbrev pub longest_head : ℕ
longest_head = 7

abbrev pub longest_line : ℕ
longest_line = longest_head + (1 + longest_cell) * (max_regs + max_slots) + 1

abbrev pub longest_text : ℕ
longest_text = longest_line * max_blocks

-- what its buffer must hold: room for 16 cells more in each state, which document 02, A11, adds
abbrev pub states_size : ℕ
states_size = longest_text + (1 + longest_cell) * 16 * max_blocks

-- what is compared of a sheet
unfoldable pub part_text : Part → Rule → Bytes → Bytes
part_text Answer rule sheet = written (answer rule sheet)
part_text States rule sheet = entry_states rule sheet

-- and what its buffer must hold
unfoldable pub part_size : Part → ℕ
part_size Answer = report_size
part_size States = states_size

-- the parts

-- the text was written to the start of a buffer; the scratch keeps its lengths
pub record Written (text : Bytes) (out words queue out' words' queue' : List ℕ) (r : ℕ) : Type 0 where
  pub length_is : r ≡ length text
  pub out_is : out' ≡ laid text out
  pub same_words : length words' ≡ length words
  pub same_queue : length queue' ≡ length queue
  pub most : r ≤ longest_text

-- the words hold a sheet, and each block's state and mark behind the analysis
pub record HoldsStates (rule : Rule) (words : List ℕ) : Type 0 where
  pub loaded : Loaded words
  pub room : run_words ≤ length words
  pub states : (b : ℕ) → b < get_or words blocks_word 0
      → stored_state (counts_in words) (state_at b) words ≡ checked_from rule (sheet_of words) b
  pub marks : (b : ℕ) → b < get_or words blocks_word 0 → get_or words (mark_at b) 0 ≡ mark_of ((analysis rule (sheet_of words)).table b)

-- fields, each behind a tab
unfoldable pub tabbed : List Bytes → Bytes
tabbed [] = []
tabbed (f ∷ fs) = tab ∷ (f ++ tabbed fs)

-- the n cells from `from` on
unfoldable pub row_text : ℕ → ℕ → List ℕ → Bytes
row_text from n words = tabbed (map cell_text (map cell_of (region from n words)))

-- `D block visited`
unfoldable pub head_text : ℕ → ℕ → Bytes
head_text b visited = letter_D ∷ tabbed (digits b ∷ (visited ∷ []) ∷ [])
