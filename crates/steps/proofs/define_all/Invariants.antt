-- `define_all` meets its contract: before each turn the defs that are left, from the state so far, give what all of them give from
-- the first state.
use Rattle.std.proofs.Common.{◌≡◌, List, ℕ, drop}
use Rattle.lists.specs.Region.{region}
use Rattle.cells.specs.States.{state_of, RowsFit}
use Rattle.steps.specs.Defs.{define_words}
use Rattle.steps.proofs.define_all.Given as goal

abbrev pub invariant-loop-operand : goal.invariant-loop-operand
invariant-loop-operand l =
    (counts : List ℕ) → RowsFit counts
    → define_words l.rule (drop l.operand-index l.operand-items) (state_of counts l.s) ≡ define_words l.rule (region l.at l.n l.words) (state_of counts l.initial.s)
