-- `text_at` meets its contract: before each turn the bytes that are left of the text and of the field decide (`Texting`).
use Rattle.compare.proofs.Laws.{Texting}
use Rattle.compare.proofs.text_at.Given as goal

abbrev pub invariant-loop-b : goal.invariant-loop-b
invariant-loop-b l = Texting l.s l.at l.text l.b-index l.next
