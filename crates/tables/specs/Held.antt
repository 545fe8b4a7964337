-- Of the lent words, which a run changes, and the state that stands in a block's words.
use Rattle.std.specs.Prelude.{List, ℕ, ◌-◌}
use Rattle.lists.specs.Kept.{Kept}
use Rattle.paper.specs.Sheet.{Sheet}
use Rattle.paper.specs.Steps.{State, counts_of}
use Rattle.layout.specs.Layout.{state_base, state_at, run_words}
use Rattle.cells.specs.States.{stored_state}

-- only the run's words changed
abbrev pub RunKept : List ℕ → List ℕ → Type 0
RunKept before after = Kept state_base (run_words - state_base) before after

-- the state that stands in block b's words
abbrev pub held_state : Sheet → List ℕ → ℕ → State
held_state S words b = stored_state (counts_of S) (state_at b) words
