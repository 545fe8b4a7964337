-- `copy_letter` meets its contract, kind by kind.
use mathlib.Core.Path.{refl}
use Rattle.writer.specs.Form.{copy_letter}
use Rattle.writer.proofs.copy_letter.Goals as goal

pub returns-in-Spill : goal.returns-in-Spill
unfolding copy_letter
returns-in-Spill c = rw c.in-Spill.is refl

pub returns-in-Reload : goal.returns-in-Reload
unfolding copy_letter
returns-in-Reload c = rw c.in-Reload.is refl

pub returns-in-Move : goal.returns-in-Move
unfolding copy_letter
returns-in-Move c = rw c.in-Move.is refl
