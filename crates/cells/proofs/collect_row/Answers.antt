use Rattle.std.proofs.Common.{◌≡◌, arith}
use Rattle.cells.proofs.Rows.{none_reached, cell_step, cells_done}
use Rattle.cells.proofs.collect_row.Goals as goal

pub loop-i-init : goal.loop-i-init
loop-i-init c = none_reached

pub loop-i-preserved : goal.loop-i-preserved
loop-i-preserved c = cell_step c.loop-i.invariant _ c.safepoint_cell.ensures

pub returns : goal.returns
returns c n h =
    let e : c.loop-i.i ≡ 32 = omega arith in
    cells_done (rw e at c.loop-i.invariant) n h
