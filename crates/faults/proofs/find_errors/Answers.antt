use mathlib.Core.Path.{◌≡◌}
use Prim.Native.Nat.{◌+◌}
use native.Mathlib.Omega.{arith}
use lib.ListN.{get_or}
use Rattle.layout.specs.Layout.{blocks_word}
use Rattle.faults.proofs.LawsBlock.{count_next, count_within, blocks_none, blocks_more, blocks_all}
use Rattle.faults.proofs.find_errors.Goals as goal

pub loop-block-init : goal.loop-block-init
loop-block-init g c = blocks_none g.met.L.Lines.laws _ _ _

pub block_lines-requires : goal.block_lines-requires
block_lines-requires g c = let b = c.loop-block.block in
    let before = c.loop-block.invariant in (
      c.requires.0,
      omega arith,
      omega (
        arith,
        before.most,
        before.kept,
        count_next c.args.words.now b,
        count_within (b + 1) c.requires.0 (omega arith),
        c.requires.0.loaded.bounds.blocks,
      ),
    )

pub loop-block-preserved : goal.loop-block-preserved
loop-block-preserved g c = blocks_more g.met.L.Lines.laws _ _ _ c.loop-block.invariant c.block_lines.ensures

pub returns : goal.returns
returns g c = let e : c.loop-block.block ≡ get_or c.args.words.now blocks_word 0 = omega arith in
    let most = get_or c.args.words.now blocks_word 0 in
    blocks_all _ _ _ (omega (arith, count_within most c.requires.0 (omega arith), c.requires.0.loaded.bounds.blocks))
    (rw e at c.loop-block.invariant)
