-- `write_group` meets its contract: the count, and the operands behind it.
use native.Mathlib.Omega.{arith}
use Rattle.lists.specs.Sets.{then}
use Rattle.fields.specs.Spelling.{length_digits}
use Rattle.writer.proofs.LawsText.{length_operands, group_row}
use Rattle.writer.proofs.write_group.Goals as goal

pub write_before_number-a-requires : goal.write_before_number-a-requires
write_before_number-a-requires c = omega (arith, length_digits c.args.n)

pub write_operands-requires : goal.write_operands-requires
write_operands-requires c = (c.requires.0, c.requires.1, omega (arith, length_digits c.args.n))

pub returns : goal.returns
returns c = (
  rw (← group_row _ _ (length_operands _ _ _ c.requires.0)) (then c.write_before_number-a.ensures c.write_operands.ensures.0),
  omega (arith, length_digits c.args.n),
)
