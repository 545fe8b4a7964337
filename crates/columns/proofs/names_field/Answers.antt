-- `columns::names_field` meets its contract: the two tests are the paper's.
use mathlib.Core.Path.{refl}
use Rattle.paper.specs.Refusals.{names_field}
use Rattle.columns.proofs.names_field.Goals as goal

pub returns : goal.returns
unfolding names_field
returns c = refl
