-- `write_parted` meets its contract: its three parts, one behind the other.
use native.Mathlib.Omega.{arith}
use Rattle.lists.specs.Sets.{then}
use Rattle.paper.specs.Report.{behind_tabs}
use Rattle.fields.specs.Spelling.{length_digits}
use Rattle.compare.specs.Written.{parted_text}
use Rattle.compare.proofs.write_parted.Goals as goal

pub write_byte-a-requires : goal.write_byte-a-requires
write_byte-a-requires c = omega (arith, c.requires)

pub write_before_number-b-requires : goal.write_before_number-b-requires
write_before_number-b-requires c = omega (arith, c.requires, length_digits c.args.line)

pub write_byte-requires : goal.write_byte-requires
write_byte-requires c = omega (arith, c.requires, length_digits c.args.line)

pub returns : goal.returns
unfolding behind_tabs parted_text
returns c =
    (then c.write_byte-a.ensures (then c.write_before_number-b.ensures c.write_byte.ensures), omega (arith, length_digits c.args.line))
