-- `rest_place` meets its contract, case by case.
use Rattle.paper.specs.Comparison.{rest_place}
use Rattle.compare.proofs.rest_place.Goals as goal

pub returns-in-Equal : goal.returns-in-Equal
unfolding rest_place
returns-in-Equal c = rw c.in-Equal.is

pub returns-in-Parts : goal.returns-in-Parts
unfolding rest_place
returns-in-Parts c = rw c.in-Parts.is

pub returns-in-Malformed : goal.returns-in-Malformed
unfolding rest_place
returns-in-Malformed c = rw c.in-Malformed.is
