-- `line_of` meets its contract: before each turn the fields behind a place decide whether the shapes that are left fit (`Lining`).
use Rattle.compare.proofs.LawsLine.{Lining}
use Rattle.compare.proofs.line_of.Given as goal

abbrev pub invariant-loop-i : goal.invariant-loop-i
invariant-loop-i l = Lining l.s l.at l.shapes l.i l.next
