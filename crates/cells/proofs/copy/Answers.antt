-- `copy` meets its contract: below its row's count the word that is read means the state's cell, and a word stored in a row is its
-- cell stored in the state (`copied_cell`).
use Rattle.cells.proofs.Rows.{copied_cell}
use Rattle.cells.proofs.copy.Goals as goal

pub returns : goal.returns
returns c = copied_cell _ _ _ _ _ _ c.copied.ensures
