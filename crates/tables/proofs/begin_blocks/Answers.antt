use native.Mathlib.Omega.{arith}
use Rattle.tables.proofs.LawsFilled.{filled_none, filled_more, filled_all}
use Rattle.tables.proofs.begin_blocks.Goals as goal

pub loop-b-init : goal.loop-b-init
loop-b-init c = filled_none

pub loop-b-preserved : goal.loop-b-preserved
loop-b-preserved c =
    filled_more c.requires c.loop-b.invariant _ (omega (arith, c.loop-b-test.true, c.blocks-b-end.ensures)) c.row_counts-counts.ensures c.store.ensures c.unreached_state-s.ensures c.first_mark.ensures

pub returns : goal.returns
returns c =
    (c.loop-b.invariant.kept, filled_all c.requires c.loop-b.invariant (omega (arith, c.loop-b-test.false, c.blocks-b-end.ensures)))
