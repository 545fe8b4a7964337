-- `entry_state` meets its contract: the slots are those of the unreached state, and `real_row` gives the registers.
use Rattle.cells.proofs.States.{entered}
use Rattle.cells.proofs.entry_state.Goals as goal

pub returns : goal.returns
returns c counts fit e = entered _ counts _ _ _ e (c.unreached_state-s.ensures counts fit) c.real_row-row.ensures
