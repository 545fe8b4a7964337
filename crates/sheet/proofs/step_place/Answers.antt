-- `sheet::step_place` meets its contract: `progress` reads the words that it judges by.
use Rattle.sheet.proofs.step_place.Goals as goal

pub returns : goal.returns
returns c = rw c.progress-reached.ensures
