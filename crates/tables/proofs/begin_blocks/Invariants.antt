use Rattle.tables.proofs.LawsFilled.{Filled}
use Rattle.tables.proofs.begin_blocks.Given as goal

abbrev pub invariant-loop-b : goal.invariant-loop-b
invariant-loop-b l = Filled l.rule l.initial.words l.words l.b
