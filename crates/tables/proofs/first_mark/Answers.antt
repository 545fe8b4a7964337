-- `first_mark` meets its contract: one case for each rule.
use mathlib.Core.Path.{refl}
use Rattle.paper.specs.Runs.{before}
use Rattle.tables.specs.Table.{mark_of}
use Rattle.tables.proofs.first_mark.Goals as goal

pub returns-in-Old : goal.returns-in-Old
unfolding before mark_of
returns-in-Old c = rw c.in-Old.is (λ S b. refl)

pub returns-in-House : goal.returns-in-House
unfolding before mark_of
returns-in-House c = rw c.in-House.is (λ S b. refl)
