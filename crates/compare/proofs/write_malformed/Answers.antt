-- `write_malformed` meets its contract: its four parts, one behind the other.
use native.Mathlib.Omega.{arith}
use Rattle.lists.specs.Sets.{then}
use Rattle.paper.specs.Report.{behind_tabs}
use Rattle.fields.specs.Spelling.{length_digits}
use Rattle.compare.specs.Written.{malformed_text}
use Rattle.compare.proofs.write_malformed.Goals as goal

pub write_byte-a-requires : goal.write_byte-a-requires
write_byte-a-requires c = omega (arith, c.requires)

pub write_before_number-b-requires : goal.write_before_number-b-requires
write_before_number-b-requires c = omega (arith, c.requires, length_digits c.args.side)

pub write_before_number-c-requires : goal.write_before_number-c-requires
write_before_number-c-requires c =
    omega (arith, c.requires, length_digits c.args.side, length_digits c.args.line)

pub write_byte-requires : goal.write_byte-requires
write_byte-requires c =
    omega (arith, c.requires, length_digits c.args.side, length_digits c.args.line)

pub returns : goal.returns
unfolding behind_tabs malformed_text
returns c =
    let a = c.args in
    (then c.write_byte-a.ensures (then c.write_before_number-b.ensures (then c.write_before_number-c.ensures c.write_byte.ensures)), omega (arith, length_digits a.side, length_digits a.line))
