-- `load_row` meets its contract: the row is the 32 words from `at` on, and its first n are those of the region.
use Rattle.cells.proofs.Rows.{row_front}
use Rattle.cells.proofs.load_row.Goals as goal

pub returns : goal.returns
returns c n h = row_front _ _ _ c.copy_from_slice.ensures.after n h
