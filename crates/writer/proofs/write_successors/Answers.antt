use native.Mathlib.Omega.{arith}
use Rattle.fields.specs.Spelling.{length_digits}
use mathlib.Core.Path.{refl}
use Prim.Native.Nat.{◌+◌}
use Rattle.layout.specs.Layout.{succ_base}
use Rattle.writer.proofs.LawsLeft.{all_left, less_left, none_left}
use Rattle.writer.proofs.LawsLines.{numbers_next, numbers_all, numbers_end}
use Rattle.writer.proofs.write_successors.Goals as goal

pub loop-i-init : goal.loop-i-init
loop-i-init c = (
  omega arith,
  omega (arith, c.succ_total-total.ensures),
  c.requires.1,
  c.requires.0,
  omega arith,
  c.requires.3,
  refl,
  all_left _ _ _ _ (numbers_all _ _ _),
)

pub successor-successor-requires : goal.successor-successor-requires
successor-successor-requires c = (omega arith, omega arith, omega arith)

pub overflow_cast-successor : goal.overflow_cast-successor
overflow_cast-successor c = omega (arith, c.successor-successor.ensures, c.shared_slice_known-1.given (succ_base c.args.b + c.loop-i.i))

pub write_before_number-next-requires : goal.write_before_number-next-requires
write_before_number-next-requires c = omega (arith, length_digits c.successor-successor.result)

pub loop-i-preserved : goal.loop-i-preserved
loop-i-preserved c = let inv = c.loop-i.invariant in (
  omega arith,
  inv.1,
  inv.2,
  inv.3,
  omega (arith, length_digits c.successor-successor.result),
  inv.5,
  omega arith,
  less_left _ _ inv.7 (numbers_next _ _ _ _ (omega arith) (omega arith)) (rw c.successor-successor.ensures at c.write_before_number-next.ensures),
)

pub returns : goal.returns
returns c = let inv = c.loop-i.invariant in
    (rw (← c.succ_total-total.ensures) (none_left _ inv.7 (numbers_end _ _ _ _ (omega arith))), omega arith)
