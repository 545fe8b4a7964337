-- `analyze` meets its contract: each turn of the loop is one visit of the paper's run, and the bound on visits falls with each.
use Prim.Native.Nat.{◌-◌}
use Rattle.paper.specs.Runs.{visit_bound}
use Rattle.loaded.specs.Loaded.{sheet_of}
use Rattle.runs.proofs.LawsAnalysis.{Going}
use Rattle.runs.proofs.analyze.Given as goal

abbrev pub invariant-loop-waiting : goal.invariant-loop-waiting
invariant-loop-waiting l = Going l.rule l.initial.words l.words l.waiting l.settled l.visits

abbrev pub decreases-loop-waiting : goal.decreases-loop-waiting
decreases-loop-waiting l = visit_bound l.rule (sheet_of l.initial.words) - l.visits
