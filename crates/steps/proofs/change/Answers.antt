-- `change` meets its contract: one case for each rule; the slot is below the count, so the word that is read means the state's
-- cell; under the house rule what becomes of it is stored in the state that `overwrite` leaves.
use Rattle.steps.proofs.LawsEffects.{old_change, house_change}
use Rattle.steps.proofs.change.Goals as goal

pub returns-in-Old : goal.returns-in-Old
returns-in-Old c counts fit h ref inst =
    rw c.in-Old.is (old_change counts c.args.s.now _ _ _ h ref inst _ c.old_changed.ensures)

pub returns-in-House : goal.returns-in-House
returns-in-House c counts fit h ref inst =
    rw c.in-House.is
    (house_change counts c.args.s.now _ _ _ h ref inst _ _ c.house_changed-w.ensures (c.overwrite.ensures counts fit))
