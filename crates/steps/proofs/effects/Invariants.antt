-- `effects` meets its contract: before each turn the steps that are left, from the state so far, give what all of them give from
-- the first state, for marks that are those of `T`.
use Rattle.std.proofs.Common.{◌≡◌, Bool, List, ℕ, ◌+◌, ◌-◌}
use Rattle.paper.specs.Text.{Name}
use Rattle.paper.specs.Steps as paper
use Rattle.cells.specs.States.{state_of}
use Rattle.loaded.specs.Actions.{steps_at, Runnable, StepsMarked}
use Rattle.steps.proofs.effects.Given as goal

abbrev pub invariant-loop-k : goal.invariant-loop-k
invariant-loop-k l =
    (counts : List ℕ) → Runnable counts l.words l.first l.count → (ref : Name → Bool) → StepsMarked ref l.words l.first l.count
    → paper.effects l.rule ref (steps_at l.words l.k (l.first + l.count - l.k)) (state_of counts l.t) ≡ paper.effects l.rule ref (steps_at l.words l.first l.count) (state_of counts l.initial.t)
