use borrow.Author.Rules.{rules}
use native.Mathlib.Omega.{arith}
use Rattle.runs.proofs.LawsAnalysis.{some_left, going_begins, going_continues, going_left, going_small, going_more, going_ends, going_ended, analysed_from, ended_from}
use Rattle.runs.proofs.analyze.Goals as goal

pub loop-waiting-init : goal.loop-waiting-init
loop-waiting-init c =
    going_begins c.requires.0 c.requires.1 c.begin.ensures

pub visit-requires : goal.visit-requires
visit-requires c =
    (c.meet_table-table.ensures, going_continues c.loop-waiting.invariant, some_left _ c.is_empty.ensures c.loop-waiting-test.true)

pub overflow_add-visits : goal.overflow_add-visits
overflow_add-visits c =
    omega (arith, going_small c.loop-waiting.invariant (some_left _ c.is_empty.ensures c.loop-waiting-test.true))

pub loop-waiting-smaller : goal.loop-waiting-smaller
loop-waiting-smaller c =
    omega (arith, going_left c.loop-waiting.invariant (some_left _ c.is_empty.ensures c.loop-waiting-test.true))

pub loop-waiting-preserved : goal.loop-waiting-preserved
loop-waiting-preserved c =
    going_more c.loop-waiting.invariant (some_left _ c.is_empty.ensures c.loop-waiting-test.true) c.visit.ensures

pub returns : goal.returns
returns c =
    let b = c.begin.ensures in
    let e = ended_from b (going_ended c.loop-waiting.invariant (c.is_empty.ensures.0 c.loop-waiting-test.false)) in
    (analysed_from b (going_ends c.loop-waiting.invariant (c.is_empty.ensures.0 c.loop-waiting-test.false) (search rules)), e.0, e.1)
