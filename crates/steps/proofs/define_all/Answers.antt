use Rattle.std.proofs.Common.{◌∙◌, sym}
use Rattle.steps.specs.Parts.{part}
use Rattle.steps.proofs.LawsEffects.{no_def, next_def}
use Rattle.steps.proofs.define_all.Goals as goal

pub loop-operand-init : goal.loop-operand-init
loop-operand-init c counts fit = rw part

pub loop-operand-preserved : goal.loop-operand-preserved
loop-operand-preserved c counts fit =
    rw (c.define.ensures counts fit, next_def _ _ _ _ c.loop-operand-test.true) (c.loop-operand.invariant counts fit)

pub returns : goal.returns
returns c counts fit = sym (no_def _ _ _ _ c.loop-operand-test.false) ∙ c.loop-operand.invariant counts fit
