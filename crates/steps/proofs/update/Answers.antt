-- `update` meets its contract: one case for each kind of step; what the function called says of the state is the paper's effect,
-- by a law of `LawsEffects` or, for `C`, by `change` itself.
use mathlib.Core.Path.{◌∙◌}
use native.Mathlib.Omega.{arith}
use Rattle.loaded.specs.Actions.{step_of}
use Rattle.steps.proofs.LawsEffects.{copy_room, copy_effect, safepoint_effect, operation_effect}
use Rattle.steps.proofs.update.Goals as goal

pub copy-requires : goal.copy-requires
copy-requires c =
    let r = rw c.in-Copy.is at c.requires in
    copy_room _ _ _ c.rows_of-rows.ensures r.0 r.1

pub returns-in-Copy : goal.returns-in-Copy
unfolding step_of
returns-in-Copy c counts fit w ref h =
    let r = rw c.in-Copy.is at w in
    rw c.in-Copy.is (c.copy.ensures counts (rw (← c.rows_of-rows.ensures) at r.1) ∙ copy_effect _ ref _ _ _ _ c.rows_of-rows.ensures)

pub returns-in-Change : goal.returns-in-Change
unfolding step_of
returns-in-Change c counts fit w ref h =
    rw c.in-Change.is (c.change.ensures counts fit (rw c.in-Change.is at w) ref _)

pub returns-in-Operation : goal.returns-in-Operation
unfolding step_of
returns-in-Operation c counts fit w ref h =
    let r = rw c.in-Operation.is at w in
    rw c.in-Operation.is (c.define_all.ensures counts fit ∙ operation_effect _ ref _ _ _ _ _ _ (omega arith) (rw c.in-Operation.is at h))

pub returns-in-Safepoint : goal.returns-in-Safepoint
unfolding step_of
returns-in-Safepoint c counts fit w ref h =
    rw c.in-Safepoint.is (c.update_stackmap.ensures counts fit ∙ safepoint_effect _ ref _ _ _)
