-- `check` meets its contract: for `C`, `O` and `P` a law says which fault an error on packed words stands for, the cells that are
-- read being below the counts; `S`, `L` and `M` have no check (`quiet`).
use mathlib.Core.Option.{none}
use mathlib.Core.Path.{◌≡◌, refl}
use Prim.Native.Nat.{ℕ}
use native.Mathlib.Omega.{arith}
use Rattle.loaded.specs.declared.CopyKind.TheVariants.{Spill, Reload, Move}
use Rattle.loaded.specs.declared.CopyKind.{CopyKind}
use Rattle.steps.specs.Faults.{fault_of}
use Rattle.loaded.specs.Actions.{copy_step, step_of}
use Rattle.steps.proofs.LawsChecks.{change_means_in, uses_mean, slots_mean}
use Rattle.paper.specs.Steps as paper
use Rattle.steps.proofs.check.Goals as goal

quiet : (kind : CopyKind) (into from : ℕ) (S : paper.State) → none ≡ paper.check (copy_step kind into from) S
unfolding paper.check copy_step
quiet Spill into from S = refl
quiet Reload into from S = refl
quiet Move into from S = refl

pub returns-in-Change : goal.returns-in-Change
unfolding step_of paper.check
returns-in-Change c =
    λ counts h.
    rw (c.in-Change.is, c.check_change.ensures) (change_means_in counts c.args.s _ _ (rw c.in-Change.is at h))

pub returns-in-Operation : goal.returns-in-Operation
unfolding step_of paper.check
returns-in-Operation c =
    let r = rw c.in-Operation.is at c.requires in
    λ counts h.
    rw (c.in-Operation.is, c.check_uses.ensures) (uses_mean counts c.args.s _ _ _ (omega arith) r.3 (rw c.in-Operation.is at h).3)

pub returns-in-Safepoint : goal.returns-in-Safepoint
unfolding step_of paper.check
returns-in-Safepoint c =
    λ counts h.
    rw (c.in-Safepoint.is, c.check_stackmap.ensures) (slots_mean counts c.args.s _ (rw c.in-Safepoint.is at h))

pub returns-in-Copy : goal.returns-in-Copy
unfolding fault_of step_of
returns-in-Copy c = λ counts h. rw c.in-Copy.is (quiet _ _ _ _)
