-- `part_from` meets its contract: the slice's elements from a place on, and where they stand.
use mathlib.Core.Path.{refl}
use lib.ListN.{length-drop}
use lib.Seq.{take-length}
use Rattle.compare.proofs.part_from.Goals as goal

pub returns : goal.returns
returns c = record { bytes = rw (← length-drop, take-length); block = refl; place = refl }
