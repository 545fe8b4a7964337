-- `overwrite` meets its contract: `overwrite_row` says it of each row, and `every_row` of the state.
use Rattle.cells.proofs.States.{no_row_yet, row_step, within_row, every_row}
use Rattle.cells.proofs.overwrite.Goals as goal

pub returns : goal.returns
returns c counts fit =
    every_row fit
    (row_step (row_step no_row_yet _ (c.overwrite_row.ensures _ (within_row counts fit 0))) _ (c.overwrite_row-2.ensures _ (within_row counts fit 1)))
