-- `columns::Search::is_earlier` meets its contract: the operands from i on that are left to search tell what all of them do, one fewer each
-- turn.
use Rattle.columns.specs.Columns.{shares}
use Rattle.columns.proofs.LawsOperands.{Searching}
use Rattle.columns.proofs.Search.is_earlier.Given as goal

abbrev pub invariant-loop : goal.invariant-loop
invariant-loop l = Searching (shares l.code) l.self.sheet.now l.at l.count l.counter l.i
