-- `meet_table` meets its contract: the constant is the definition's table, entry for entry.
use mathlib.Core.Path.{refl}
use Rattle.cells.specs.Meeting.{meet_table}
use Rattle.cells.proofs.meet_table.Goals as goal

pub returns : goal.returns
unfolding meet_table
returns c = refl
