-- `columns::Search::passing_operation` meets its contract: the inst does not pass, or the uses are counted, and behind them the defs.
use mathlib.Core.Path.{sym, ap, ◌∙◌}
use Prim.Native.Nat.{◌+◌}
use native.Mathlib.Omega.{arith}
use Rattle.paper.specs.Refusals.{operation_passing}
use Rattle.columns.proofs.LawsPassing.{passed_on}
use Rattle.columns.proofs.Search.passing_operation.Goals as goal

pub returns-in_default : goal.returns-in_default
unfolding operation_passing
returns-in_default c = sym (c.in_default.ensures.stops _)

pub returns-in-Err : goal.returns-in-Err
unfolding operation_passing
returns-in-Err c = sym (passed_on c.in-Some.ensures.0 _ (c.in-Err.ensures.stops _) ∙ (omega arith))

pub returns-in-Ok-passing_group : goal.returns-in-Ok-passing_group
unfolding operation_passing
returns-in-Ok-passing_group c =
    sym (passed_on c.in-Some.ensures.0 _ (c.in-Ok.ensures.goes_on _ ∙ ap (λ m. c.in-Ok.uses.count + m) (c.in-Ok-passing_group.ensures.goes_on (λ fs. 0))) ∙ (omega arith))

pub returns-in-Err-passing_group : goal.returns-in-Err-passing_group
unfolding operation_passing
returns-in-Err-passing_group c =
    sym (passed_on c.in-Some.ensures.0 _ (c.in-Ok.ensures.goes_on _ ∙ ap (λ m. c.in-Ok.uses.count + m) (c.in-Err-passing_group.ensures.stops _)) ∙ (omega arith))
