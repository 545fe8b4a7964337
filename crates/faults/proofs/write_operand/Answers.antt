-- `write_operand` meets its contract: no line for an operand with an allocation, else one line of kind 1, of at most 32 bytes.
use mathlib.Core.Path.{refl}
use native.Mathlib.Omega.{arith}
use Rattle.faults.proofs.LawsFields.{missing_short}
use Rattle.faults.proofs.LawsOperands.{line_missing, no_line_missing}
use Rattle.faults.proofs.write_operand.Goals as goal

pub returns-then-operand-ne-NO_REGISTER : goal.returns-then-operand-ne-NO_REGISTER
returns-then-operand-ne-NO_REGISTER c = rw (no_line_missing _ _ c.if-operand-ne-NO_REGISTER.true) (record { list = refl; next = omega arith }, omega arith)

pub write_line-requires : goal.write_line-requires
write_line-requires c = (c.requires.0, omega (arith, missing_short c.args.position c.args.operand c.requires.0))

pub returns : goal.returns
returns c =
    (rw (line_missing _ _ c.if-operand-ne-NO_REGISTER.false) c.write_line.ensures, omega (arith, c.write_line.ensures, missing_short c.args.position c.args.operand c.requires.0))
