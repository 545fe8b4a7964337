-- `rows_of` meets its contract: one case for each kind of copy.
use Rattle.loaded.specs.Actions.{rows_of}
use Rattle.loaded.proofs.rows_of.Goals as goal

pub returns-in-Spill : goal.returns-in-Spill
unfolding rows_of
returns-in-Spill c = rw c.in-Spill.is

pub returns-in-Reload : goal.returns-in-Reload
unfolding rows_of
returns-in-Reload c = rw c.in-Reload.is

pub returns-in-Move : goal.returns-in-Move
unfolding rows_of
returns-in-Move c = rw c.in-Move.is
