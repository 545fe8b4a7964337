-- `new` meets its contract: of no bytes, none are held.
use Rattle.runs.proofs.LawsQueue.{none_held}
use Rattle.runs.proofs.Queue.new.Goals as goal

pub returns : goal.returns
returns c = none_held _ 0
