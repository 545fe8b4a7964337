-- `columns::Search::passing_pair` meets its contract: the count ends at the first number that does not pass, or behind both.
use mathlib.Core.Path.{sym, refl}
use Rattle.paper.specs.Refusals.{pair_passing}
use Rattle.columns.proofs.LawsPassing.{passed_on}
use Rattle.columns.proofs.Search.passing_pair.Goals as goal

pub returns-in_default : goal.returns-in_default
unfolding pair_passing
returns-in_default c = sym (c.in_default.ensures.stops _)

pub returns-in_default-passing_number : goal.returns-in_default-passing_number
unfolding pair_passing
returns-in_default-passing_number c =
    sym (passed_on c.in-Some.ensures.0 _ (c.in_default-passing_number.ensures.stops _))

pub returns : goal.returns
unfolding pair_passing
returns c =
    sym (passed_on c.in-Some.ensures.0 _ (passed_on c.in-Some-passing_number.ensures.0 _ refl))
