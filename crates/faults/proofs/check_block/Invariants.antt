-- `check_block` meets its contract: t is the state behind the steps so far, the pass was told their faults.
-- No allocation is missing, so each step's numbers are below the counts: it can be checked and run, and its line is short.
use Rattle.faults.proofs.LawsBlock.{SoFar}
use Rattle.faults.proofs.check_block.Given as goal

abbrev pub invariant-loop-place : goal.invariant-loop-place
invariant-loop-place g l = let m = g.L.Lines in
    SoFar m.told m.taken m.size l.rule l.words l.block l.place l.t l.initial.lines l.lines
