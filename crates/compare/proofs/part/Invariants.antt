-- `part` meets its contract: before each turn what is left of the two texts decides (`Scanning`).
use Rattle.compare.proofs.LawsPart.{Scanning}
use Rattle.compare.proofs.part.Given as goal

abbrev pub invariant-loop-at : goal.invariant-loop-at
invariant-loop-at l = Scanning l.first l.second l.line l.place l.at
