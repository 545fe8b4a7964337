-- `bad_line` meets its contract: before each turn the lines from `at` on decide, behind the faults so far (`Judging`).
use Prim.Native.Nat.{◌-◌}
use lib.ListN.{length}
use Rattle.compare.proofs.LawsLine.{Judging}
use Rattle.compare.proofs.bad_line.Given as goal

abbrev pub invariant-loop-at : goal.invariant-loop-at
invariant-loop-at l = Judging l.s l.count l.faults l.line l.at

abbrev pub decreases-loop-at : goal.decreases-loop-at
decreases-loop-at l = length l.s - l.at
