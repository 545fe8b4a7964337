use native.Mathlib.Omega.{arith}
use mathlib.Core.Path.{refl, ap, ◌∙◌}
use Rattle.loaded.specs.declared.Reached.{Reached}
use Rattle.writer.specs.Filled.{length_filled}
use Rattle.writer.proofs.LawsLeft.{all_unfilled, less_unfilled, none_unfilled}
use Rattle.writer.proofs.LawsText.{blocks_next, blocks_begin, blocks_end, fitting}
use Rattle.writer.proofs.write_blocks.Goals as goal

pub progress-reached-requires : goal.progress-reached-requires
progress-reached-requires c = omega (arith, (fitting _ c.requires.0).size)

pub loop-b-init : goal.loop-b-init
loop-b-init c = let count = ap (λ (r : Reached). r.opened) c.progress-reached.ensures in
    (omega arith, count, c.requires.0, c.requires.1, refl, all_unfilled _ _ _ _ (blocks_begin _ _ count))

pub write_block-next-requires : goal.write_block-next-requires
write_block-next-requires c = let inv = c.loop-b.invariant in
    let f = fitting _ inv.2 in
    (f.size, omega (arith, f.opened, inv.1), f.each _ (omega (arith, inv.1, c.loop-b-test.true)), omega arith)

pub loop-b-preserved : goal.loop-b-preserved
loop-b-preserved c = let inv = c.loop-b.invariant in
    let filled = c.write_block-next.ensures in (
      omega arith,
      inv.1,
      inv.2,
      inv.3,
      length_filled filled ∙ inv.4,
      less_unfilled _ _ inv.5 (blocks_next _ _ _ (omega arith)) filled,
    )

pub returns : goal.returns
returns c = let inv = c.loop-b.invariant in none_unfilled _ inv.5 (blocks_end _ _ _ (omega arith))
