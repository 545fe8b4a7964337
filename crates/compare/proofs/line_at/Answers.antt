-- `line_at` meets its contract, row by row.
use native.Mathlib.Omega.{arith}
use Rattle.compare.proofs.LawsLine.{rowing_first, row_good, row_bad, no_row}
use Rattle.compare.specs.Places.{shapes_of_lines}
use Rattle.compare.proofs.line_at.Goals as goal

pub loop-shapes-init : goal.loop-shapes-init
loop-shapes-init c = rowing_first _ _

pub returns-in-Some-clause-value : goal.returns-in-Some-clause-value
unfolding shapes_of_lines
returns-in-Some-clause-value c = row_good c.loop-shapes.invariant c.loop-shapes-test.true c.in-Some.ensures.value

pub loop-shapes-preserved : goal.loop-shapes-preserved
unfolding shapes_of_lines
loop-shapes-preserved c = row_bad c.loop-shapes.invariant c.loop-shapes-test.true c.in_default.ensures.value

pub returns-clause-value : goal.returns-clause-value
returns-clause-value c = no_row c.loop-shapes.invariant (omega (arith, c.loop-shapes-test.false))
