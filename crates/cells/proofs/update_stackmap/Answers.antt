-- `update_stackmap` meets its contract: the registers' mask is 0, which lists none; each is a row of the state more.
use mathlib.Core.Path.{◌∙◌}
use Rattle.cells.proofs.States.{no_row_yet, row_step, within_row, rows_done, registers_collected, slots_collected}
use Rattle.cells.proofs.update_stackmap.Goals as goal

pub returns : goal.returns
returns c counts fit =
    rows_done fit
    (row_step
    (row_step no_row_yet _ (c.collect_row.ensures _ (within_row counts fit 0) ∙ registers_collected _ _ _)) _
    (c.collect_row-2.ensures _ (within_row counts fit 1) ∙ slots_collected _ _ _))
