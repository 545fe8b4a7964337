-- `write_name` meets its contract: a tab and the name behind it, of at most 5 bytes.
use native.Mathlib.Omega.{arith}
use Rattle.lists.specs.Sets.{then}
use Rattle.report.specs.Lengths.{name_short}
use Rattle.writer.proofs.write_name.Goals as goal

pub write_packed_name-requires : goal.write_packed_name-requires
write_packed_name-requires c = omega (arith, name_short c.args.w)

pub returns : goal.returns
returns c = (then c.write_byte-a.ensures c.write_packed_name.ensures, omega (arith, name_short c.args.w))
