use Rattle.std.proofs.Common.{◌≡◌, ◌∙◌, arith}
use Rattle.cells.proofs.Rows.{none_reached, cell_step, cells_done, placed_all}
use Rattle.cells.proofs.overwrite_row.Goals as goal

pub loop-word-init : goal.loop-word-init
loop-word-init c = none_reached

pub loop-word-preserved : goal.loop-word-preserved
loop-word-preserved c = cell_step c.loop-word.invariant _ c.overwritten.ensures

pub returns : goal.returns
returns c n h =
    let e : c.loop-word.word-index ≡ 32 = omega arith in
    cells_done (rw e at c.loop-word.invariant) n h ∙ placed_all _ _
