use Rattle.std.proofs.Common.{◌+◌, ◌^◌, ◌≤◌, arith}
use lib.Pow.{pow_pos, pow_mono}
use Rattle.cells.proofs.Masks.{bit_small, mask_step}
use Rattle.cells.proofs.may_change.Goals as goal

pub loop-i-init : goal.loop-i-init
loop-i-init c = (pow_pos 0, λ k h e. absurd (omega arith))

pub overflow_add-mask : goal.overflow_add-mask
overflow_add-mask c =
    let i = c.loop-i.i in
    let top : 2 ^ (i + 1) ≤ 2 ^ 32 = pow_mono {i = i + 1} {j = 32} (omega arith) in
    omega (arith, (bit_small _ _ _ c.loop-i.invariant.0 (omega arith) c.stays-here.result c.mask_unless-bit.ensures), top)

pub loop-i-preserved : goal.loop-i-preserved
loop-i-preserved c =
    let inv = c.loop-i.invariant in (
      (bit_small _ _ _ inv.0 (omega arith) c.stays-here.result c.mask_unless-bit.ensures),
      mask_step _ _ _ inv.0 (omega arith) c.stays-here.result c.mask_unless-bit.ensures _ inv.1 c.stays-here.ensures,
    )

pub returns : goal.returns
returns c k h e = c.loop-i.invariant.1 k (omega arith) e
