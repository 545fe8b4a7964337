-- `define` meets its contract: the match leaves the state as it was or, under the house rule, as `overwrite` does; the name is
-- stored in its register, which is below 32 and so not 63 (`defined`).
use mathlib.Core.Path.{◌≡◌, refl, ◌∙◌}
use native.Mathlib.Omega.{arith}
use Rattle.cells.specs.States.{state_of}
use Rattle.cells.specs.Packed.{name_of_word}
use Rattle.steps.specs.Defs.{cleared_of}
use Rattle.steps.proofs.LawsEffects.{defined, cleared_old, cleared_house}
use Rattle.steps.proofs.define.Goals as goal
use Rattle.steps.proofs.define.Goals.{in-Old, in-House}

pub returns : goal.returns
returns c counts fit =
    let a = c.args in
    let cleared : state_of counts c.match-rule.s ≡ cleared_of a.rule (name_of_word a.operand) (state_of counts a.s.now) =
    elim c.match-rule.branch [
      | in-Old w ↦ rw (w.s-is, w.in-Old.is) (cleared_old _ _)
      | in-House w ↦ rw (w.s-is, w.in-House.is) (w.overwrite.ensures counts fit ∙ cleared_house _ _)
    ] in
    defined counts _ _ _ _ c.match-rule.s refl (λ e. omega arith) cleared
