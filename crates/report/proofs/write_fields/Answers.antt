-- `write_fields` meets its contract: its five parts, one behind the other; the room asked for is the sum of theirs (`fields_room`).
use native.Mathlib.Omega.{arith}
use Rattle.lists.specs.Sets.{then}
use Rattle.paper.specs.Report.{behind_tabs}
use Rattle.report.specs.Lines.{field_texts}
use Rattle.report.proofs.LawsLines.{fields_room}
use Rattle.report.proofs.write_fields.Goals as goal

pub write_before_number-a-requires : goal.write_before_number-a-requires
write_before_number-a-requires c = omega (arith, fields_room _ _ _ c.requires)

pub write_field-b-requires : goal.write_field-b-requires
write_field-b-requires c = omega (arith, fields_room _ _ _ c.requires)

pub write_field-c-requires : goal.write_field-c-requires
write_field-c-requires c = omega (arith, fields_room _ _ _ c.requires)

pub write_field-d-requires : goal.write_field-d-requires
write_field-d-requires c = omega (arith, fields_room _ _ _ c.requires)

pub write_byte-requires : goal.write_byte-requires
write_byte-requires c = omega (arith, fields_room _ _ _ c.requires)

pub returns : goal.returns
unfolding behind_tabs field_texts
returns c = let last = then c.write_field-d.ensures c.write_byte.ensures in
    then c.write_before_number-a.ensures (then c.write_field-b.ensures (then c.write_field-c.ensures last))
