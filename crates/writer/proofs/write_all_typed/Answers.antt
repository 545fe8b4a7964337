use native.Mathlib.Omega.{arith}
use mathlib.Core.Path.{refl}
use Rattle.writer.proofs.LawsLeft.{all_left, less_left, none_left}
use Rattle.writer.proofs.LawsLines.{typed_next, typed_all, typed_end}
use Rattle.writer.proofs.write_all_typed.Goals as goal

pub loop-n-init : goal.loop-n-init
loop-n-init c = (omega arith, c.requires.0, omega arith, c.requires.1, refl, all_left _ _ _ _ (typed_all _))

pub loop-n-preserved : goal.loop-n-preserved
loop-n-preserved c = let inv = c.loop-n.invariant in (
  omega arith,
  inv.1,
  omega arith,
  inv.3,
  omega arith,
  less_left _ _ inv.5 (typed_next _ _ (omega arith)) c.write_typed-next.ensures.0,
)

pub returns : goal.returns
returns c = let inv = c.loop-n.invariant in
    (none_left _ inv.5 (typed_end _ _ (omega arith)), omega arith)
