-- `write_header` meets its contract: its five parts, one behind the other; the room asked for is the sum of theirs (`header_room`).
use native.Mathlib.Omega.{arith}
use Rattle.lists.specs.Sets.{then}
use Rattle.paper.specs.Report.{behind_tabs, header_text}
use Rattle.report.proofs.LawsLines.{header_room}
use Rattle.report.proofs.write_header.Goals as goal

pub write_byte-a-requires : goal.write_byte-a-requires
write_byte-a-requires c = omega (arith, header_room _ _ _ _ c.requires.1)

pub write_byte-b-requires : goal.write_byte-b-requires
write_byte-b-requires c = omega (arith, header_room _ _ _ _ c.requires.1)

pub write_rule-c-requires : goal.write_rule-c-requires
write_rule-c-requires c = omega (arith, header_room _ _ _ _ c.requires.1)

pub write_before_number-d-requires : goal.write_before_number-d-requires
write_before_number-d-requires c = omega (arith, header_room _ _ _ _ c.requires.1)

pub write_byte-requires : goal.write_byte-requires
write_byte-requires c = omega (arith, header_room _ _ _ _ c.requires.1)

pub returns : goal.returns
unfolding behind_tabs header_text
returns c = let last = then c.write_before_number-d.ensures c.write_byte.ensures in
    then c.write_byte-a.ensures (then c.write_byte-b.ensures (then c.write_rule-c.ensures last))
