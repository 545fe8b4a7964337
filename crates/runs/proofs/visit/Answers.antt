use native.Mathlib.Omega.{arith}
use Rattle.runs.proofs.LawsPush.{pushed}
use Rattle.runs.proofs.LawsSettled.{unsettled_came}
use Rattle.runs.proofs.LawsVisit.{serving_none, serving_more, settling_none, settling_more, visited_settled, visited_run, still_allocated, first_below, visiting, serving_ready, serving_block, serving_room}
use Rattle.runs.proofs.visit.Goals as goal

pub bounds-settled-b : goal.bounds-settled-b
bounds-settled-b c = let v = visiting c.requires.1 c.take-b.ensures in omega (arith, v.small)

pub returns-then-settled-b : goal.returns-then-settled-b
returns-then-settled-b c = visited_settled c.requires.1 c.take-b.ensures _ c.if-settled-b.true

pub bounds-settled-b-2 : goal.bounds-settled-b-2
bounds-settled-b-2 c = let v = visiting c.requires.1 c.take-b.ensures in omega (arith, v.small)

pub result_of-result-requires : goal.result_of-result-requires
result_of-result-requires c =
    let g = c.requires.1 in
    let k = c.take-b.ensures in
    (g.running.stands.tables.sheet.ready, still_allocated g k, first_below g k)

pub succ_total-i-end-requires : goal.succ_total-i-end-requires
succ_total-i-end-requires c = let v = visiting c.requires.1 c.take-b.ensures in (v.size, v.small)

pub loop-i-init : goal.loop-i-init
loop-i-init c = (serving_none, settling_none)

pub successor-s-requires : goal.successor-s-requires
successor-s-requires c =
    let v = visiting c.requires.1 c.take-b.ensures in
    (omega (arith, v.size, c.loop-i.invariant.0.moved.kept.same_length), v.small, omega (arith, v.succs, c.loop-i-test.true, c.succ_total-i-end.ensures))

pub join-new-requires : goal.join-new-requires
join-new-requires c =
    let g = c.requires.1 in
    let k = c.take-b.ensures in
    let s = c.loop-i.invariant.0 in
    let w = c.result_of-result.ensures in
    (c.requires.0, serving_ready g k w s, omega (arith, c.successor-s.ensures, serving_block g k w s (omega (arith, c.loop-i-test.true, c.succ_total-i-end.ensures))))

pub wait-requires : goal.wait-requires
wait-requires c =
    let g = c.requires.1 in
    let k = c.take-b.ensures in
    let s = c.loop-i.invariant.0 in
    let w = c.result_of-result.ensures in
    (serving_room g k w s, omega (arith, c.successor-s.ensures, serving_block g k w s (omega (arith, c.loop-i-test.true, c.succ_total-i-end.ensures)), (serving_ready g k w s).loaded.bounds.blocks))

pub loop-i-preserved : goal.loop-i-preserved
loop-i-preserved c =
    let v = visiting c.requires.1 c.take-b.ensures in
    let inv = c.loop-i.invariant in
    let e = c.successor-s.ensures in
    let came = c.join-new.ensures in (
      serving_more inv.0 (omega (arith, c.loop-i-test.true, c.succ_total-i-end.ensures)) (omega (arith, v.small, v.succs)) (omega (arith, v.small, v.succs, v.size)) e (pushed _ came c.wait.ensures.0),
      settling_more inv.0 inv.1 (omega (arith, c.loop-i-test.true, c.succ_total-i-end.ensures)) (omega (arith, v.small, v.succs)) (omega (arith, v.small, v.succs, v.size)) e (unsettled_came came c.wait.ensures.1),
    )

pub returns : goal.returns
returns c =
    visited_run c.requires.1 c.take-b.ensures c.result_of-result.ensures c.loop-i.invariant.0 c.loop-i.invariant.1 (omega (arith, c.loop-i-test.false, c.succ_total-i-end.ensures))
