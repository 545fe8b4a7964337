-- `take` meets its contract: what the ring holds is the block at its front, then what it holds from the next place on.
use mathlib.Core.Path.{sym, ap, ◌∙◌}
use native.Mathlib.Omega.{arith}
use lib.ListN.{length}
use Rattle.runs.proofs.LawsQueue.{held_taken, length_held}
use Rattle.runs.proofs.Queue.take.Goals as goal

pub overflow_sub-self : goal.overflow_sub-self
overflow_sub-self c =
    let r = c.self.inside in
    let n = length_held r.bytes.now r.front r.count in
    omega (arith, n, ap length c.self.view_is)

pub returns : goal.returns
returns c =
    sym c.self.view_is
    ∙ held_taken _ _ _ _ c.self.invariant (omega (arith, length_held c.self.inside.bytes.now c.self.inside.front c.self.inside.count, ap length c.self.view_is)) c.place-self-inside.ensures.0
