-- `write_line` meets its contract: its five parts, one behind the other; the room asked for is the sum of theirs (`line_room`).
use native.Mathlib.Omega.{arith}
use Rattle.lists.specs.Sets.{then}
use Rattle.paper.specs.Report.{behind_tabs}
use Rattle.report.specs.Lines.{fields_line}
use Rattle.report.proofs.LawsLines.{line_room}
use Rattle.report.proofs.write_line.Goals as goal

pub write_byte-a-requires : goal.write_byte-a-requires
write_byte-a-requires c = omega (arith, line_room _ _ _ _ c.requires.1)

pub overflow_cast-position : goal.overflow_cast-position
overflow_cast-position c = omega (arith, c.requires.0)

pub write_before_number-b-requires : goal.write_before_number-b-requires
write_before_number-b-requires c = omega (arith, line_room _ _ _ _ c.requires.1)

pub overflow_cast-position-2 : goal.overflow_cast-position-2
overflow_cast-position-2 c = omega (arith, c.requires.0)

pub write_before_number-c-requires : goal.write_before_number-c-requires
write_before_number-c-requires c = omega (arith, line_room _ _ _ _ c.requires.1)

pub write_before_number-d-requires : goal.write_before_number-d-requires
write_before_number-d-requires c = omega (arith, line_room _ _ _ _ c.requires.1)

pub write_fields-requires : goal.write_fields-requires
write_fields-requires c = omega (arith, line_room _ _ _ _ c.requires.1)

pub returns : goal.returns
unfolding behind_tabs fields_line
returns c = let last = then c.write_before_number-d.ensures c.write_fields.ensures in
    then c.write_byte-a.ensures (then c.write_before_number-b.ensures (then c.write_before_number-c.ensures last))
