-- `wait` meets its contract: where what came is new, the block is appended and it is settled no more; else all stays as it is.
use mathlib.Core.Path.{refl}
use Rattle.runs.specs.Settled.{unsettled}
use Rattle.runs.proofs.wait.Goals as goal

pub returns-then-new : goal.returns-then-new
unfolding unsettled
returns-then-new c =
    rw c.if-new.true (c.push.ensures, refl)

pub returns-else-new : goal.returns-else-new
unfolding unsettled
returns-else-new c = rw c.if-new.false (refl, refl)
