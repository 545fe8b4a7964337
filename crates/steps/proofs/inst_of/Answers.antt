-- `inst_of` meets its contract: one case for each kind of step; no copy has an inst (`copied`).
use mathlib.Core.Path.{◌≡◌, refl}
use Prim.Native.Nat.{ℕ}
use Rattle.paper.specs.Report.{inst_of}
use Rattle.loaded.specs.declared.CopyKind.{CopyKind}
use Rattle.loaded.specs.declared.CopyKind.TheVariants.{Spill, Reload, Move}
use Rattle.loaded.specs.Actions.{copy_step, step_of}
use Rattle.steps.proofs.inst_of.Goals as goal

copied : (kind : CopyKind) (into from : ℕ) → 0 ≡ inst_of (copy_step kind into from)
unfolding inst_of copy_step
copied Spill into from = refl
copied Reload into from = refl
copied Move into from = refl

pub returns-in-Copy : goal.returns-in-Copy
unfolding step_of
returns-in-Copy c = λ words. rw c.in-Copy.is (copied _ _ _)

pub returns-in-Change : goal.returns-in-Change
unfolding inst_of step_of
returns-in-Change c = λ words. rw c.in-Change.is

pub returns-in-Operation : goal.returns-in-Operation
unfolding inst_of step_of
returns-in-Operation c = λ words. rw c.in-Operation.is

pub returns-in-Safepoint : goal.returns-in-Safepoint
unfolding inst_of step_of
returns-in-Safepoint c = λ words. rw c.in-Safepoint.is
