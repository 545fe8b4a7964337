-- `records::operand_behind` meets its contract: a name and the allocation behind it make an operand; without either there is none.
use Rattle.records.proofs.LawsOperands.{no_name, no_allocation, operand_taken}
use Rattle.records.proofs.operand_behind.Goals as goal

pub returns-in_err-name : goal.returns-in_err-name
returns-in_err-name c = rw c.from_residual.ensures (no_name _ _ c.in_err-name.ensures)

pub returns-in_err-register : goal.returns-in_err-register
returns-in_err-register c = rw c.from_residual-in_err-register.ensures (no_allocation c.in_ok-name.ensures.0 c.in_err-register.ensures)

pub returns : goal.returns
returns c = (operand_taken c.in_ok-name.ensures.0 c.in_ok-register.ensures.0, c.in_ok-name.ensures.1)
