-- `add_step` meets its contract: only the step's words, its block's total and the count of steps change (`step_written`), so
-- the words mean the sheet with that step at its end (`step_stored`); a block's total is at most the count, so one more fits.
use mathlib.Core.Path.{refl}
use Prim.Native.Nat.{ℕ, ◌-◌}
use lib.ListN.{get_or}
use Rattle.loaded.proofs.LawsBody.{step_stored, step_written}
use native.Mathlib.Omega.{arith}
use Rattle.layout.specs.Layout.{opened_word}
use Rattle.loaded.proofs.add_step.Goals as goal

pub returns : goal.returns
returns c = let p = c.put_action.ensures in
    let b : ℕ = get_or c.args.words.now opened_word 0 - 1 in
    step_stored _ _ c.requires.0 b (omega arith) c.requires.2 _ c.requires.3 (step_written _ _ _ b _ (omega arith) (omega arith) c.requires.2 p.1 p.0 refl)
