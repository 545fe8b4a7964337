-- `load` meets its contract: the counted words of each row are those that stand at the row's place, and the two rows are the state.
use Rattle.cells.specs.States.{stored_state}
use Rattle.cells.proofs.States.{rows_loaded}
use Rattle.cells.proofs.load.Goals as goal

pub returns : goal.returns
unfolding stored_state
returns c counts fit = rows_loaded _ counts _ _ _ fit (c.load_row-a.ensures, (c.load_row-b.ensures, tt))
