-- `write_byte` meets its contract: one byte is set, and the next place is one further.
use mathlib.Core.Path.{refl}
use Rattle.fields.proofs.write_byte.Goals as goal

pub returns : goal.returns
returns c = record { list = refl; next = refl }
