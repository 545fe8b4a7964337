-- `columns::Search::passing_safepoint` meets its contract: the inst does not pass, or the slots behind it are counted.
use mathlib.Core.Path.{sym, ◌∙◌}
use native.Mathlib.Omega.{arith}
use Rattle.paper.specs.Refusals.{safepoint_passing}
use Rattle.columns.proofs.LawsPassing.{passed_on}
use Rattle.columns.proofs.Search.passing_safepoint.Goals as goal

pub returns-in_default : goal.returns-in_default
unfolding safepoint_passing
returns-in_default c = sym (c.in_default.ensures.stops _)

pub returns : goal.returns
unfolding safepoint_passing
returns c =
    let e = c.passing_numbers.ensures in
    sym (passed_on c.in-Some.ensures.0 _ (sym e) ∙ (omega arith))
