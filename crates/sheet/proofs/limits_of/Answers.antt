-- `sheet::limits_of` meets its contract: one case for each kind of copy.
use Rattle.sheet.specs.Reading.{limits_of}
use Rattle.sheet.proofs.limits_of.Goals as goal

pub returns-in-Spill : goal.returns-in-Spill
unfolding limits_of
returns-in-Spill c = rw c.in-Spill.is

pub returns-in-Reload : goal.returns-in-Reload
unfolding limits_of
returns-in-Reload c = rw c.in-Reload.is

pub returns-in-Move : goal.returns-in-Move
unfolding limits_of
returns-in-Move c = rw c.in-Move.is
