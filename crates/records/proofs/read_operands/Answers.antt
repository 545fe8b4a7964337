use mathlib.Core.Path.{refl}
use native.Mathlib.Omega.{arith}
use Rattle.records.proofs.LawsOperands.{zeros_small, grouping_none, grouping_bad, grouping_past, grouping_more, grouping_done, group_bad, group_uncounted}
use Rattle.records.proofs.read_operands.Goals as goal
use Rattle.records.proofs.read_operands.Goals.{then-count-lt-MAX_OPERANDS, else-count-lt-MAX_OPERANDS}

pub returns-in_err-n : goal.returns-in_err-n
returns-in_err-n c = rw c.from_residual.ensures (group_uncounted _ _ c.in_err-n.ensures)

pub loop-count-init : goal.loop-count-init
loop-count-init c = grouping_none _ _ c.in_ok-n.ensures.0.behind refl (λ k. zeros_small 8 k 200000 (omega arith))

pub returns-in_err-operand : goal.returns-in_err-operand
returns-in_err-operand c =
    rw c.from_residual-in_err-operand.ensures (group_bad c.in_ok-n.ensures.0 (grouping_bad c.loop-count.invariant c.loop-count-test.true c.in_err-operand.ensures))

pub loop-count-preserved : goal.loop-count-preserved
loop-count-preserved c =
    let w = c.in_ok-operand.ensures in
    elim c.if-count-lt-MAX_OPERANDS.branch [
      | then-count-lt-MAX_OPERANDS x ↦ rw x.operands-is (grouping_more c.loop-count.invariant _ c.loop-count-test.true w.0 w.1 x.if-count-lt-MAX_OPERANDS.true)
      | else-count-lt-MAX_OPERANDS x ↦ rw x.operands-is (grouping_past c.loop-count.invariant c.loop-count-test.true w.0 x.if-count-lt-MAX_OPERANDS.false)
    ]

pub returns : goal.returns
returns c = grouping_done c.loop-count.invariant c.loop-count-test.false c.in_ok-n.ensures.0
