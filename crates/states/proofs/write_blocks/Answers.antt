use mathlib.Core.Path.{◌≡◌, refl}
use native.Mathlib.Omega.{arith}
use lib.ListN.{get_or}
use Rattle.layout.specs.Layout.{blocks_word}
use Rattle.states.proofs.Laws.{blocks_none, blocks_then}
use Rattle.states.proofs.write_blocks.Goals as goal

pub blocks-blocks-requires : goal.blocks-blocks-requires
blocks-blocks-requires c = c.requires.0.loaded.bounds.size

pub loop-b-init : goal.loop-b-init
loop-b-init c = (omega arith, omega arith, refl, blocks_none _ _ _)

pub write_block-next-requires : goal.write_block-next-requires
write_block-next-requires c = (c.requires.0, omega arith, omega (arith, c.requires.0.loaded.bounds.blocks))

pub loop-b-preserved : goal.loop-b-preserved
loop-b-preserved c = (omega arith, omega arith, omega arith, blocks_then _ _ _ c.loop-b.invariant.3 c.write_block-next.ensures.0)

pub returns : goal.returns
returns c = let e : c.loop-b.b ≡ get_or c.args.words.now blocks_word 0 = omega arith in
    (rw e at c.loop-b.invariant.3, omega (arith, c.requires.0.loaded.bounds.blocks))
