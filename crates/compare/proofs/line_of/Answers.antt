-- `line_of` meets its contract, field by field.
use mathlib.Core.Path.{◌∙◌}
use native.Mathlib.Omega.{arith}
use Rattle.compare.proofs.Laws.{no_feed}
use Rattle.compare.proofs.LawsLine.{line_misfit, lining_first, lining_bad, lining_more, line_closed, line_open}
use Rattle.compare.proofs.line_of.Goals as goal

pub returns-in_err-next-clause-value : goal.returns-in_err-next-clause-value
returns-in_err-next-clause-value c = c.from_residual.ensures ∙ line_misfit _ _ _ c.requires.1 c.in_err-next.ensures.value

pub loop-i-init : goal.loop-i-init
loop-i-init c =
    let within = c.in_ok-next.ensures.within in
    lining_first _ _ _ c.requires.1 within.0 within.1 c.in_ok-next.ensures.value

pub returns-in_err-next-2-clause-value : goal.returns-in_err-next-2-clause-value
returns-in_err-next-2-clause-value c = c.from_residual-in_err-next-2.ensures ∙ lining_bad c.loop-i.invariant c.loop-i-test.true c.in_err-next-2.ensures.value

pub loop-i-preserved : goal.loop-i-preserved
loop-i-preserved c =
    let within = c.in_ok-next-2.ensures.within in
    lining_more c.loop-i.invariant c.loop-i-test.true within.0 within.1 c.in_ok-next-2.ensures.value

pub returns-in_err-ends-clause-value : goal.returns-in_err-ends-clause-value
returns-in_err-ends-clause-value c =
    c.from_residual-in_err-ends.ensures ∙ line_open c.loop-i.invariant (omega (arith, c.loop-i-test.false)) c.in_err-ends.ensures.within.1

pub returns-in-LineFeed-clause-value : goal.returns-in-LineFeed-clause-value
returns-in-LineFeed-clause-value c = line_closed c.loop-i.invariant (omega (arith, c.loop-i-test.false)) (rw c.in-LineFeed.is at c.in_ok-ends.ensures.within).1

pub returns-in-Tab-clause-value : goal.returns-in-Tab-clause-value
returns-in-Tab-clause-value c =
    line_open c.loop-i.invariant (omega (arith, c.loop-i-test.false)) (no_feed c.args.s.now c.loop-i.next (rw c.in-Tab.is at c.in_ok-ends.ensures.within).1)
