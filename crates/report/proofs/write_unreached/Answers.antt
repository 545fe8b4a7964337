-- `write_unreached` meets its contract: its three parts, one behind the other; the room asked for is the sum of theirs
-- (`unreached_length`).
use native.Mathlib.Omega.{arith}
use Rattle.lists.specs.Sets.{then}
use Rattle.paper.specs.Report.{behind_tabs, unreached_text}
use Rattle.report.specs.Lengths.{unreached_length}
use Rattle.report.proofs.write_unreached.Goals as goal

pub write_byte-a-requires : goal.write_byte-a-requires
write_byte-a-requires c = omega (arith, unreached_length c.args.block)

pub overflow_cast-block : goal.overflow_cast-block
overflow_cast-block c = omega (arith, c.requires.0)

pub write_before_number-b-requires : goal.write_before_number-b-requires
write_before_number-b-requires c = omega (arith, unreached_length c.args.block)

pub write_byte-requires : goal.write_byte-requires
write_byte-requires c = omega (arith, unreached_length c.args.block)

pub returns : goal.returns
unfolding behind_tabs unreached_text
returns c = then c.write_byte-a.ensures (then c.write_before_number-b.ensures c.write_byte.ensures)
