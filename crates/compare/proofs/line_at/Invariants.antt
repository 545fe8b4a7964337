-- `line_at` meets its contract: before each turn the rows that are left decide (`Rowing`).
use Rattle.compare.proofs.LawsLine.{Rowing}
use Rattle.compare.proofs.line_at.Given as goal

abbrev pub invariant-loop-shapes : goal.invariant-loop-shapes
invariant-loop-shapes l = Rowing l.s l.at l.shapes-index
