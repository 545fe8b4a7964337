-- `store_row` meets its contract: the words from `at` on are the row's.
use Rattle.std.proofs.Common.{arith}
use Rattle.cells.proofs.Rows.{row_stored}
use Rattle.cells.proofs.store_row.Goals as goal

pub returns : goal.returns
returns c = row_stored _ _ _ _ c.copy_from_slice.ensures.after c.requires.0 (omega arith)
