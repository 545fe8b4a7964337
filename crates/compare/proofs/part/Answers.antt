-- `part` meets its contract, byte by byte.
use native.Mathlib.Omega.{arith}
use Rattle.compare.proofs.LawsPart.{scanning_first, scan_over, scan_first_over, scan_second_over, scan_differs, scan_feed, scan_more}
use Rattle.compare.proofs.part.Goals.{then-b-eq10, else-b-eq10}
use Rattle.compare.proofs.part.Goals as goal

pub loop-at-init : goal.loop-at-init
loop-at-init c = scanning_first _ _

pub returns-then-second-at-clause-value : goal.returns-then-second-at-clause-value
returns-then-second-at-clause-value c = scan_second_over c.loop-at.invariant c.loop-at-test.true c.if-second-at.true

pub returns-then-b-second-clause-value : goal.returns-then-b-second-clause-value
returns-then-b-second-clause-value c = scan_differs c.loop-at.invariant c.loop-at-test.true c.if-second-at.false c.if-b-second.true

pub loop-at-preserved : goal.loop-at-preserved
loop-at-preserved c =
    elim c.if-b-eq10.branch [
      | then-b-eq10 w ↦ rw (w.line-is, w.place-is) (scan_feed c.loop-at.invariant c.loop-at-test.true c.if-second-at.false c.if-b-second.false w.if-b-eq10.true)
      | else-b-eq10 w ↦ rw (w.line-is, w.place-is) (scan_more c.loop-at.invariant c.loop-at-test.true c.if-second-at.false c.if-b-second.false w.if-b-eq10.false)
    ]

pub returns-then-second-first-clause-value : goal.returns-then-second-first-clause-value
returns-then-second-first-clause-value c =
    let w = c.loop-at.invariant in
    scan_over w (omega (arith, c.loop-at-test.false)) (omega (arith, w.in_first, c.loop-at-test.false, c.if-second-first.true))

pub returns-else-second-first-clause-value : goal.returns-else-second-first-clause-value
returns-else-second-first-clause-value c =
    let w = c.loop-at.invariant in
    scan_first_over w (omega (arith, c.loop-at-test.false)) (omega (arith, w.in_second, c.loop-at-test.false, c.if-second-first.false))
