use mathlib.Core.Path.{refl}
use Rattle.records.proofs.LawsNumbers.{reading_none, reading_bad, reading_ninth, reading_more, reading_done}
use Rattle.records.proofs.read_numbers.Goals as goal

pub loop-i-init : goal.loop-i-init
loop-i-init c = reading_none _ c.requires refl

pub returns-in_err-v : goal.returns-in_err-v
returns-in_err-v c = rw c.from_residual.ensures (reading_bad c.loop-i.invariant c.loop-i-test.true c.in_err-v.ensures)

pub returns-then-count-eq-MAX_SUCCS : goal.returns-then-count-eq-MAX_SUCCS
returns-then-count-eq-MAX_SUCCS c = reading_ninth c.loop-i.invariant c.in_ok-v.ensures.0 c.if-count-eq-MAX_SUCCS.true

pub loop-i-preserved : goal.loop-i-preserved
loop-i-preserved c = reading_more c.loop-i.invariant c.in_ok-v.ensures.0 c.if-count-eq-MAX_SUCCS.false

pub returns : goal.returns
returns c = reading_done c.loop-i.invariant c.loop-i-test.false
