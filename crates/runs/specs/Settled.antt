-- Blocks that are settled: the state has not changed since the last visit, so what the block makes of it was passed on, and another
-- visit changes nothing. `settled` says of each block whether it is settled.
use Rattle.std.specs.Prelude.{◌≡◌, Bool, true, false, cond, List, ℕ, get_or, set}
use Rattle.paper.specs.Sheet.{Sheet}
use Rattle.paper.specs.Steps.{State, counts_of}
use Rattle.paper.specs.Runs.{Run, step, flow}
use Rattle.paper.specs.declared.Rule.{Rule}
use Rattle.walks.specs.Passing.{PassedOn}
use Rattle.cells.specs.States.{state_of}
use Rattle.tables.specs.Held.{RunKept}
use Rattle.tables.specs.Table.{arrives}
use Rattle.runs.specs.Stands.{Stands}

abbrev pub Settled : List Bool → ℕ → Type 0
Settled settled b = get_or settled b false ≡ true

-- block b is settled no more where what came is new
unfoldable pub unsettled : Bool → ℕ → List Bool → List Bool
unsettled new b settled = cond new (set settled b false) settled

-- the state s came to block b
pub record Unsettled (rule : Rule) (words queue : List ℕ) (b : ℕ) (s : List (List ℕ)) (settled settled' : List Bool) : Type 0 where
  pub is : (S : Sheet) (r : Run State) → Stands rule S words queue r → settled' ≡ unsettled (arrives rule (r.table b) (state_of (counts_of S) s)) b settled

-- one visit of a run whose settled blocks have passed their states on
pub record Visited (rule : Rule) (words queue : List ℕ) (settled : List Bool) (words' queue' : List ℕ) (settled' : List Bool) : Type 0 where
  pub kept : RunKept words words'
  pub stands : (S : Sheet) (r : Run State) → Stands rule S words queue r → PassedOn (flow rule S) (Settled settled) r.table
      → Stands rule S words' queue' (step (flow rule S) r)
  pub passed : (S : Sheet) (r : Run State) → Stands rule S words queue r → PassedOn (flow rule S) (Settled settled) r.table
      → PassedOn (flow rule S) (Settled settled') (step (flow rule S) r).table
