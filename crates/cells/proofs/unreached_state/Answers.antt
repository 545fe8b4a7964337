-- `unreached_state` meets its contract: one case for each rule: every word means its unfilled cell (0 Absent, 1024 Unknown), and
-- no count is above 32.
use Rattle.layout.specs.Layout.{row_widths}
use Rattle.cells.proofs.Rows.{old_unfilled, house_unfilled}
use Rattle.cells.proofs.States.{unfilled_state, within_row}
use Rattle.cells.proofs.unreached_state.Goals as goal

pub returns-in-Old : goal.returns-in-Old
returns-in-Old c counts fit = rw c.in-Old.is (unfilled_state _ 0 old_unfilled row_widths counts fit (within_row counts fit))

pub returns-in-House : goal.returns-in-House
returns-in-House c counts fit = rw c.in-House.is (unfilled_state _ 1024 house_unfilled row_widths counts fit (within_row counts fit))
