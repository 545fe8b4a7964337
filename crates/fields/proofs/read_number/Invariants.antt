-- `read_number` meets its contract: behind the first digit, before each turn, the field's bytes before i are the digits of v
-- (`Led`), so v alone tells whether one more may follow; each way out decides the whole field, and the text that is left shrinks.
use Rattle.fields.proofs.Laws.{Led}
use Rattle.fields.proofs.read_number.Given as goal

abbrev pub invariant-loop-i : goal.invariant-loop-i
invariant-loop-i l = Led l.s l.at l.v l.i
