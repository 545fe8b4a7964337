-- `write_field` meets its contract: behind the tab, what the case of the field says; the room asked for is that of the case.
use native.Mathlib.Omega.{arith}
use Rattle.lists.specs.Sets.{then}
use Rattle.paper.specs.Report.{slot_text}
use Rattle.report.specs.Lines.{field_text}
use Rattle.report.proofs.write_field.Goals as goal

pub write_byte-requires : goal.write_byte-requires
unfolding field_text
write_byte-requires c =
    omega (arith, rw c.in_default.is at c.requires)

pub write_before_number-requires : goal.write_before_number-requires
unfolding field_text
write_before_number-requires c =
    omega (arith, rw (c.in-Some.is, c.in-Register.is) at c.requires)

pub write_before_number-requires-in-Slot : goal.write_before_number-requires-in-Slot
unfolding field_text slot_text
write_before_number-requires-in-Slot c =
    omega (arith, rw (c.in-Some.is, c.in-Slot.is) at c.requires)

pub write_packed_name-requires : goal.write_packed_name-requires
unfolding field_text
write_packed_name-requires c =
    omega (arith, rw (c.in-Some.is, c.in-Named.is) at c.requires)

pub returns-in_default : goal.returns-in_default
unfolding field_text
returns-in_default c = rw c.in_default.is (then c.write_byte-next.ensures c.write_byte.ensures)

pub returns-in-Register : goal.returns-in-Register
unfolding field_text
returns-in-Register c = rw (c.in-Some.is, c.in-Register.is) (then c.write_byte-next.ensures c.write_before_number.ensures)

pub returns-in-Slot : goal.returns-in-Slot
unfolding field_text slot_text
returns-in-Slot c = rw (c.in-Some.is, c.in-Slot.is) (then c.write_byte-next.ensures c.write_before_number-in-Slot.ensures)

pub returns-in-Named : goal.returns-in-Named
unfolding field_text
returns-in-Named c = rw (c.in-Some.is, c.in-Named.is) (then c.write_byte-next.ensures c.write_packed_name.ensures)
