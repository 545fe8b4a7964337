use Rattle.std.proofs.Common.{◌≡◌, ◌+◌, ◌-◌, take, drop, arith, ℕ, length-take}
use Rattle.std.proofs.lemmas.List.{take_all}
use Rattle.loaded.specs.Actions.{operands}
use Rattle.steps.specs.Parts.{part}
use Rattle.faults.proofs.LawsOperands.{wrote_none, wrote_more}
use Rattle.faults.proofs.write_names.Goals as goal

pub loop-operand-init : goal.loop-operand-init
loop-operand-init c = (omega arith, wrote_none _ _ _)

pub loop-operand-preserved : goal.loop-operand-preserved
loop-operand-preserved c = (omega arith, wrote_more _ _ c.loop-operand-test.true _ c.loop-operand.invariant.1 c.write_operand-next.ensures.0)

pub returns : goal.returns
unfolding operands
returns c =
    let a = c.args in
    let words = take (a.from + a.n - a.from) (drop a.from a.words.now) in
    let all : take c.loop-operand.operand-index words ≡ words = take_all _ _ c.loop-operand-test.false in
    (rw (← part a.from a.n a.words.now) (rw all at c.loop-operand.invariant.1), omega (arith, length-take {A = ℕ}))
