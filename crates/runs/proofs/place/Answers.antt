-- `place` meets its contract: the test says whether the place lies round the end; n is at most the size, so once round is enough.
use mathlib.Core.Path.{sym}
use native.Mathlib.Omega.{arith}
use Rattle.runs.proofs.LawsQueue.{near, round}
use Rattle.runs.proofs.place.Goals as goal

pub returns-then-there-lt-QUEUE_SIZE : goal.returns-then-there-lt-QUEUE_SIZE
returns-then-there-lt-QUEUE_SIZE c = (sym (near _ _ c.if-there-lt-QUEUE_SIZE.true), omega arith)

pub returns-else-there-lt-QUEUE_SIZE : goal.returns-else-there-lt-QUEUE_SIZE
returns-else-there-lt-QUEUE_SIZE c = (sym (round _ _ c.if-there-lt-QUEUE_SIZE.false), omega arith)
