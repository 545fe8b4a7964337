-- `visit` meets its contract: after i turns the first i successors have got the result, and at the end this is
-- one visit of the run. A settled block's visit changes nothing but the queue (`visited_settled`). Visits begun and blocks that wait
-- are together within the visit bound, so each push has room.
use Rattle.layout.specs.Layout.{succ_base}
use Rattle.loaded.specs.Loaded.{succ_total}
use Rattle.runs.proofs.LawsVisit.{Serving, Settling}
use Rattle.runs.proofs.visit.Given as goal

abbrev pub invariant-loop-i : goal.invariant-loop-i
invariant-loop-i l =
    Serving l.rule l.initial.words l.initial.queue l.result (succ_base l.b) (succ_total l.initial.words l.b) l.words l.queue l.i × Settling l.rule l.initial.words l.initial.queue l.result (succ_base l.b) (succ_total l.initial.words l.b) l.initial.settled l.settled l.i
