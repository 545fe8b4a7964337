-- `records::read_operands` meets its contract: the group is the operands read and the `n - count` behind `i`, one fewer each turn;
-- the first 8 of those read are kept, and a bad one leaves no group.
use Rattle.records.proofs.LawsOperands.{Grouping}
use Rattle.records.proofs.read_operands.Given as goal

abbrev pub invariant-loop-count : goal.invariant-loop-count
invariant-loop-count l = Grouping l.s l.first l.n l.count l.operands l.i
