-- What is asked of the words where faults are looked for, and what is promised: the answer, and the text at the report's start. The
-- lines of the blocks without a mark, which are all lines of a sheet without a fault.
use Rattle.std.specs.Prelude.{◌≡◌, List, [], ◌∷◌, ℕ, zero, suc, ◌≤◌, ◌<◌, length, get_or}
use Rattle.paper.specs.Limits.{max_steps, report_size}
use Rattle.paper.specs.Refusals.{step_count}
use Rattle.paper.specs.Runs.{analysis, checked_from}
use Rattle.paper.specs.Report.{Entry, unreached_entry, by_block, missing_allocations, report_text}
use Rattle.paper.specs.Answer.{said_of, answer_of, report_of}
use Rattle.paper.specs.declared.Rule.{Rule}
use Rattle.paper.specs.declared.Answer.{Answer}
use Rattle.layout.specs.Layout.{blocks_word, state_at, mark_at, run_words}
use Rattle.cells.specs.States.{stored_state}
use Rattle.loaded.specs.Loaded.{sheet_of, Loaded, counts_in}
use Rattle.tables.specs.Table.{mark_of}

-- the words hold a sheet with every operand allocated, and each block's state and mark behind the analysis
pub record Checkable (rule : Rule) (words : List ℕ) : Type 0 where
  pub loaded : Loaded words
  pub room : run_words ≤ length words
  pub few : step_count (sheet_of words).body ≤ max_steps
  pub allocated : missing_allocations (sheet_of words) ≡ []
  pub states : (b : ℕ) → b < get_or words blocks_word 0
      → stored_state (counts_in words) (state_at b) words ≡ checked_from rule (sheet_of words) b
  pub marks : (b : ℕ) → b < get_or words blocks_word 0 → get_or words (mark_at b) 0 ≡ mark_of ((analysis rule (sheet_of words)).table b)

-- the line of a block whose mark is 0, and those of all blocks
unfoldable pub unmarked_at : ℕ → ℕ → List Entry
unmarked_at b zero = unreached_entry b ∷ []
unmarked_at b (suc mark) = []

unfoldable pub unmarked_lines : List ℕ → List Entry
unmarked_lines words = by_block (λ b. unmarked_at b (get_or words (mark_at b) 0)) 0 (get_or words blocks_word 0)

-- the lines es are reported
pub record Reported (rule : Rule) (es : List Entry) (report : List ℕ) (r : Answer) (report' : List ℕ) : Type 0 where
  pub answer : r ≡ answer_of (said_of rule es)
  pub text : report' ≡ report_of (said_of rule es) report
  pub fits : length (report_text rule es) ≤ report_size
