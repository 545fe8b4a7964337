use mathlib.Core.Path.{◌≡◌}
use native.Mathlib.Omega.{arith}
use lib.ListN.{get_or}
use Rattle.layout.specs.Layout.{blocks_word}
use Rattle.report.specs.Lengths.{unreached_short}
use Rattle.faults.specs.Reported.{unmarked_lines}
use Rattle.faults.proofs.LawsBlock.{unmarked_none, unmarked_skipped, unmarked_more}
use Rattle.faults.proofs.write_unmarked.Goals as goal
use Rattle.faults.proofs.write_unmarked.Goals.{then-words-block-eq0, else-words-block-eq0}

pub loop-block-init : goal.loop-block-init
loop-block-init c = (omega arith, unmarked_none c.args.words.now _ _)

pub write_unreached-next-requires : goal.write_unreached-next-requires
write_unreached-next-requires c = let few = c.requires.0.bounds.blocks in
    (omega (arith, few), omega (arith, few, unreached_short c.loop-block.block (omega (arith, few))))

pub loop-block-preserved : goal.loop-block-preserved
loop-block-preserved c = let b = c.loop-block.block in
    let words = c.args.words.now in
    let few = c.requires.0.bounds.blocks in
    elim c.if-words-block-eq0.branch [
      | then-words-block-eq0 w ↦ rw (w.report-is, w.next-is) (
        omega (arith, w.write_unreached-next.ensures, unreached_short b (omega (arith, few))),
        unmarked_more words b c.loop-block.invariant.1 w.if-words-block-eq0.true w.write_unreached-next.ensures,
      )
      | else-words-block-eq0 w ↦ rw (w.report-is, w.next-is) (omega arith, unmarked_skipped words b c.loop-block.invariant.1 w.if-words-block-eq0.false)
    ]

pub returns : goal.returns
unfolding unmarked_lines
returns c = let e : c.loop-block.block ≡ get_or c.args.words.now blocks_word 0 = omega arith in
    (rw e at c.loop-block.invariant.1, omega (arith, c.requires.0.bounds.blocks))
