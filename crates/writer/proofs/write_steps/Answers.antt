use native.Mathlib.Omega.{arith}
use mathlib.Core.Path.{refl, ◌∙◌}
use Rattle.writer.specs.Filled.{length_filled}
use Rattle.writer.proofs.LawsLeft.{all_unfilled, less_unfilled, none_unfilled}
use Rattle.writer.proofs.LawsText.{steps_next, steps_all, steps_end}
use Rattle.writer.proofs.write_steps.Goals as goal

pub loop-i-init : goal.loop-i-init
loop-i-init c = (omega arith, c.requires.0, c.requires.1, c.requires.2, refl, all_unfilled _ _ _ _ (steps_all _ _ _))

pub write_step-next-requires : goal.write_step-next-requires
write_step-next-requires c = let inv = c.loop-i.invariant in (inv.1, omega arith, omega arith)

pub loop-i-preserved : goal.loop-i-preserved
loop-i-preserved c = let inv = c.loop-i.invariant in
    let filled = c.write_step-next.ensures in (
      omega arith,
      inv.1,
      inv.2,
      inv.3,
      length_filled filled ∙ inv.4,
      less_unfilled _ _ inv.5 (steps_next _ _ _ _ (omega arith)) filled,
    )

pub returns : goal.returns
returns c = let inv = c.loop-i.invariant in none_unfilled _ inv.5 (steps_end _ _ _ _ (omega arith))
