-- The blocks' states and marks as they stand in the words, without the queue: a table of the paper, and what happens to it where
-- a state comes to a block.
use Rattle.std.specs.Prelude.{◌≡◌, refl, Bool, true, false, cond, List, ℕ, ◌≤◌, ◌<◌, length, get_or}
use Rattle.std.proofs.Math.Option.{Option, none, some}
use Rattle.std.proofs.Common.{arith}
use Rattle.paper.specs.Sheet.{Sheet, steps_of, reference_typed}
use Rattle.paper.specs.Cells.{pick}
use Rattle.paper.specs.Steps.{State, effects, counts_of}
use Rattle.paper.specs.Runs.{update, meet_states, state_same, entered}
use Rattle.paper.specs.declared.Rule.{Rule}
use Rattle.layout.specs.Layout.{mark_at, run_words}
use Rattle.cells.specs.States.{state_of}
use Rattle.loaded.specs.Loaded.{sheet_of, Loaded}
use Rattle.tables.specs.Held.{RunKept, held_state}

-- the words hold a loaded sheet, and have room for its run
pub record Ready (words : List ℕ) : Type 0 where
  pub loaded : Loaded words
  pub room : run_words ≤ length words

-- that sheet is S
pub record Holds (S : Sheet) (words : List ℕ) : Type 0 where
  pub ready : Ready words
  pub is : sheet_of words ≡ S

-- a block's mark: 0 where it is unvisited
unfoldable pub mark_of : Option State → ℕ
mark_of none = 0
mark_of (some s) = 1

pub unmarked : (o : Option State) → mark_of o ≡ 0 → o ≡ none
unfolding mark_of
unmarked none e = refl
unmarked (some s) e = absurd (omega arith)

-- of the first n blocks, the words hold the states that they would be checked from, and their marks
pub record Tabled (rule : Rule) (S : Sheet) (n : ℕ) (words : List ℕ) (table : ℕ → Option State) : Type 0 where
  pub states : (b : ℕ) → b < n → held_state S words b ≡ entered rule S (table b)
  pub marks : (b : ℕ) → b < n → get_or words (mark_at b) 0 ≡ mark_of (table b)

-- the words hold the sheet S and, for its blocks, the table
pub record Tables (rule : Rule) (S : Sheet) (words : List ℕ) (table : ℕ → Option State) : Type 0 where
  pub sheet : Holds S words
  pub tabled : Tabled rule S S.blocks words table

-- what a block holds once the state x has come to it
unfoldable pub joined : Rule → Option State → State → State
joined rule none x = x
joined rule (some a) x = meet_states rule a x

-- is that new?
unfoldable pub arrives : Rule → Option State → State → Bool
arrives rule none x = true
arrives rule (some a) x = pick (state_same (meet_states rule a x) a) false true

-- the state of the rows s came to block b; `new` says whether that changed a cell or marked the block
pub record Came (rule : Rule) (b : ℕ) (s : List (List ℕ)) (before after : List ℕ) (new : Bool) : Type 0 where
  pub kept : RunKept before after
  pub tables : (S : Sheet) (table : ℕ → Option State) → Tables rule S before table
      → Tables rule S after (cond new (update table b (joined rule (table b) (state_of (counts_of S) s))) table)
  pub is_new : (S : Sheet) (table : ℕ → Option State) → Tables rule S before table → new ≡ arrives rule (table b) (state_of (counts_of S) s)

-- block b has the state of the rows s, and is visited
pub record Entered (b : ℕ) (s : List (List ℕ)) (before after : List ℕ) : Type 0 where
  pub kept : RunKept before after
  pub tables : (rule : Rule) (S : Sheet) (table : ℕ → Option State) → Tables rule S before table
      → Tables rule S after (update table b (state_of (counts_of S) s))

-- the rows s are what block b makes of the state that it holds
pub record ResultOf (rule : Rule) (b : ℕ) (words : List ℕ) (s : List (List ℕ)) : Type 0 where
  pub is : (S : Sheet) → Holds S words → state_of (counts_of S) s ≡ effects rule (reference_typed S) (steps_of S b) (held_state S words b)
