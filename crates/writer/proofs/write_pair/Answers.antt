-- `write_pair` meets its contract: its three parts, one behind the other, of at most 14 bytes.
use native.Mathlib.Omega.{arith}
use Rattle.lists.specs.Sets.{then}
use Rattle.fields.specs.Spelling.{length_digits}
use Rattle.paper.specs.Report.{behind_tabs}
use Rattle.writer.proofs.write_pair.Goals as goal

pub write_before_number-y-requires : goal.write_before_number-y-requires
write_before_number-y-requires c = omega (arith, length_digits c.args.b)

pub write_byte-requires : goal.write_byte-requires
write_byte-requires c = omega (arith, length_digits c.args.b)

pub returns : goal.returns
unfolding behind_tabs
returns c = (then c.write_lettered-x.ensures.0 (then c.write_before_number-y.ensures c.write_byte.ensures), omega (arith, length_digits c.args.b))
