use native.Mathlib.Omega.{arith}
use Rattle.fields.specs.Spelling.{length_digits}
use mathlib.Core.Path.{refl}
use lib.Count.{count_trailing_zeros}
use lib.Pow.{pow_pos}
use Rattle.writer.proofs.LawsLeft.{all_left, less_left, none_left}
use Rattle.writer.proofs.LawsLines.{slots_next, slots_all, slots_end, bits_next, few_bits}
use borrow.Author.Rules.{rules}
use Rattle.writer.proofs.write_slots.Goals as goal

pub loop-left-init : goal.loop-left-init
loop-left-init c = (search rules, omega (arith, few_bits c.args.mask), c.requires, refl, all_left _ _ _ _ (slots_all _))

pub write_before_number-next-requires : goal.write_before_number-next-requires
write_before_number-next-requires c = omega (arith, length_digits (count_trailing_zeros 32 c.loop-left.left), bits_next _ c.loop-left-test.true c.loop-left.invariant.0)

pub without_lowest-left-requires : goal.without_lowest-left-requires
without_lowest-left-requires c = omega (arith, c.loop-left-test.true)

pub loop-left-smaller : goal.loop-left-smaller
loop-left-smaller c = omega (arith, c.without_lowest-left.ensures, pow_pos (count_trailing_zeros 32 c.loop-left.left), c.loop-left-test.true)

pub loop-left-preserved : goal.loop-left-preserved
loop-left-preserved c = let inv = c.loop-left.invariant in
    let less = c.without_lowest-left.ensures in (
      omega (arith, less),
      rw less (omega (arith, length_digits (count_trailing_zeros 32 c.loop-left.left), bits_next _ c.loop-left-test.true inv.0)),
      inv.2,
      omega arith,
      rw less (less_left _ _ inv.4 (slots_next _ c.loop-left-test.true inv.0) c.write_before_number-next.ensures),
    )

pub returns : goal.returns
returns c = let inv = c.loop-left.invariant in
    (none_left _ inv.4 (slots_end _ c.loop-left-test.false), omega arith)
