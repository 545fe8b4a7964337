-- `write_number` meets its contract: its five parts, one behind the other (`then`); the room for all is the sum of what each takes
-- (`digits_room`).
use native.Mathlib.Omega.{arith}
use Rattle.lists.specs.Sets.{then}
use Rattle.paper.specs.Text.{digits}
use Rattle.fields.proofs.Laws.{digits_room}
use Rattle.fields.proofs.write_number.Goals as goal

pub write_digit-a-requires : goal.write_digit-a-requires
write_digit-a-requires c = (omega arith, omega (arith, digits_room _ _ _ c.requires))

pub write_digit-b-requires : goal.write_digit-b-requires
write_digit-b-requires c = (omega arith, omega (arith, digits_room _ _ _ c.requires))

pub write_digit-c-requires : goal.write_digit-c-requires
write_digit-c-requires c = (omega arith, omega (arith, digits_room _ _ _ c.requires))

pub write_digit-d-requires : goal.write_digit-d-requires
write_digit-d-requires c = (omega arith, omega (arith, digits_room _ _ _ c.requires))

pub write_byte-requires : goal.write_byte-requires
write_byte-requires c = omega (arith, digits_room _ _ _ c.requires)

pub returns : goal.returns
unfolding digits
returns c =
    then (then (then (then c.write_digit-a.ensures c.write_digit-b.ensures) c.write_digit-c.ensures)
    c.write_digit-d.ensures)
    c.write_byte.ensures
