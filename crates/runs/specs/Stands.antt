-- The run that stands in words and in the blocks that wait, and what the code does to it: it begins, a state is pushed, a block is visited, and in
-- the end the analysis of the paper is there.
use Rattle.std.specs.Prelude.{◌≡◌, List, [], ℕ, ◌<◌, length, get_or}
use Rattle.std.proofs.Common.{arith}
use Rattle.paper.specs.Sheet.{Sheet}
use Rattle.paper.specs.Steps.{State, counts_of}
use Rattle.paper.specs.Runs.{Run, begin, analysis, checked_from}
use Rattle.paper.specs.Report.{missing_allocations}
use Rattle.paper.specs.declared.Rule.{Rule}
use Rattle.layout.specs.Layout.{regs_word, slots_word, blocks_word, state_at, mark_at}
use Rattle.walks.specs.Bounds.{Closed}
use Rattle.walks.proofs.Loop.{Standing}
use Rattle.cells.specs.States.{stored_state}
use Rattle.loaded.specs.Loaded.{sheet_of, Loaded, counts_in}
use Rattle.tables.specs.Held.{RunKept, held_state}
use Rattle.tables.specs.Table.{mark_of, Tables}
use Rattle.loaded.specs.Sheets.{sheet_stays, loaded_stays}

-- the sheet S and the run r stand in words and queue
pub record Stands (rule : Rule) (S : Sheet) (words queue : List ℕ) (r : Run State) : Type 0 where
  pub tables : Tables rule S words r.table
  pub waiting : queue ≡ r.queue

-- words and queue hold the run of their sheet as it begins
pub record Begins (rule : Rule) (words words' queue' : List ℕ) : Type 0 where
  pub kept : RunKept words words'
  pub stands : Stands rule (sheet_of words) words' queue' (begin rule (sheet_of words))

-- a run on its way, after so many visits: it keeps the paper's bounds, and what waits has a state
pub record Running (rule : Rule) (S : Sheet) (words queue : List ℕ) (visits : ℕ) (r : Run State) : Type 0 where
  pub closed : Closed S
  pub allocated : missing_allocations S ≡ []
  pub standing : Standing rule S closed visits r
  pub stands : Stands rule S words queue r

-- some run is on its way
pub record Continues (rule : Rule) (words queue : List ℕ) : Type 0 where
  pub sheet : Sheet
  pub visits : ℕ
  pub at : Run State
  pub running : Running rule sheet words queue visits at

-- words and queue after a change that takes each run that stands in them to f of it
pub record Moved (rule : Rule) (words queue : List ℕ) (words' queue' : List ℕ) (f : Sheet → Run State → Run State) : Type 0 where
  pub kept : RunKept words words'
  pub stands : (S : Sheet) (r : Run State) → Stands rule S words queue r → Stands rule S words' queue' (f S r)

-- the words after the analysis
pub record Analysed (rule : Rule) (words queue words' queue' : List ℕ) : Type 0 where
  pub kept : RunKept words words'
  pub states : (b : ℕ) → b < get_or words blocks_word 0 → held_state (sheet_of words) words' b ≡ checked_from rule (sheet_of words) b
  pub marks : (b : ℕ) → b < get_or words blocks_word 0 → get_or words' (mark_at b) 0 ≡ mark_of ((analysis rule (sheet_of words)).table b)
  pub same_length : length queue' ≡ length queue

-- they hold the sheet that they held, and block b's state is read by the counts that they have
module _ {rule : Rule} {words queue words' queue' : List ℕ} (loaded : Loaded words) (a : Analysed rule words queue words' queue') where
  pub analysed_sheet : sheet_of words' ≡ sheet_of words
  analysed_sheet = sheet_stays a.kept loaded.bounds

  pub analysed_loaded : Loaded words'
  analysed_loaded = loaded_stays a.kept loaded

  pub analysed_state : (b : ℕ) → b < get_or words blocks_word 0
      → stored_state (counts_in words') (state_at b) words' ≡ checked_from rule (sheet_of words) b
  unfolding sheet_of counts_of
  analysed_state b h = rw (a.kept.below regs_word (omega arith), a.kept.below slots_word (omega arith)) (a.states b h)
