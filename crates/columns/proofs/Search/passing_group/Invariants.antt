-- `columns::Search::passing_group` meets its contract: the operands behind the count pass as far as i, one more each turn; a name or a
-- register that shows the refusal ends the group.
use Rattle.columns.proofs.LawsOperands.{Grouped}
use Rattle.columns.proofs.Search.passing_group.Given as goal

abbrev pub invariant-loop-count : goal.invariant-loop-count
invariant-loop-count l = Grouped l.self.number l.self.counts l.defs l.self.sheet.now l.first l.n l.count l.i
