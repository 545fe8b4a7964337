-- `bad_line` meets its contract, line by line.
use mathlib.Core.Path.{ap, ◌∙◌}
use Rattle.compare.specs.Places.{line_found}
use Rattle.compare.proofs.LawsLine.{header_refused, judging_first, fault_good, line_bad, unreached_good, count_right, count_wrong, found_line}
use Rattle.compare.proofs.bad_line.Goals as goal

pub returns-in_default-clause-value : goal.returns-in_default-clause-value
returns-in_default-clause-value c = ap line_found (header_refused _ c.in_default.ensures.value)

pub loop-at-init : goal.loop-at-init
loop-at-init c = judging_first _ c.in-Some.ensures.within c.in-Some.ensures.value

pub loop-at-preserved-in-Some-line_at : goal.loop-at-preserved-in-Some-line_at
loop-at-preserved-in-Some-line_at c =
    let within = c.in-Some-line_at.ensures.within in
    fault_good c.loop-at.invariant c.loop-at-test.true within.0 within.1 c.in-Some-line_at.ensures.value

pub returns-in_default-unreached_at-clause-value : goal.returns-in_default-unreached_at-clause-value
returns-in_default-unreached_at-clause-value c =
    let w = c.loop-at.invariant in
    found_line _ w.some_line ∙ ap line_found (line_bad w c.loop-at-test.true c.in_default-line_at.ensures.value c.in_default-unreached_at.ensures.value)

pub loop-at-preserved : goal.loop-at-preserved
loop-at-preserved c =
    let within = c.in-Some-unreached_at.ensures.within in
    unreached_good c.loop-at.invariant c.loop-at-test.true c.in_default-line_at.ensures.value within.0 within.1 c.in-Some-unreached_at.ensures.value

pub returns-then-count-faults-clause-value : goal.returns-then-count-faults-clause-value
returns-then-count-faults-clause-value c = ap line_found (count_right c.loop-at.invariant c.loop-at-test.false c.if-count-faults.true)

pub returns-else-count-faults-clause-value : goal.returns-else-count-faults-clause-value
returns-else-count-faults-clause-value c = ap line_found (count_wrong c.loop-at.invariant c.loop-at-test.false c.if-count-faults.false)
