-- `records::number_behind` meets its contract: without a tab there is no field; behind one, what `read_number` tells of the field
-- is told of the line (`number_next`).
use mathlib.Core.Path.{sym}
use Rattle.records.proofs.LawsPlaces.{no_field, number_next}
use Rattle.records.proofs.number_behind.Goals as goal

pub returns-then-s-at-ne9 : goal.returns-then-s-at-ne9
returns-then-s-at-ne9 c = no_field _ _ _ c.if-s-at-ne9.true

pub returns : goal.returns
returns c = number_next c.requires c.if-s-at-ne9.false _ (sym c.read_number.ensures.value) c.read_number.ensures.within
