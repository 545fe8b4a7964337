-- `push` meets its contract: the ring is not full, so the byte written is none of those held; they stay, and b comes behind them.
use mathlib.Core.Path.{ap, ◌∙◌}
use mathlib.Core.List.{List, [], ◌∷◌, ◌++◌}
use Prim.Native.Nat.{ℕ}
use native.Mathlib.Omega.{arith}
use lib.ListN.{length, length-set}
use Rattle.runs.proofs.LawsQueue.{held_pushed, length_held}
use Rattle.runs.proofs.Queue.push.Goals as goal

pub invariant_of-self : goal.invariant_of-self
invariant_of-self c =
    let r = c.self.inside in
    let n = length_held r.bytes.now r.front r.count in
    (simp length-set c.self.invariant.0, c.self.invariant.1, omega (arith, n, ap length c.self.view_is))

pub returns : goal.returns
returns c =
    held_pushed _ _ _ _ _ c.self.invariant (omega (arith, length_held c.self.inside.bytes.now c.self.inside.front c.self.inside.count, ap length c.self.view_is)) c.place-there.ensures.0
    ∙ ap (λ (l : List ℕ). l ++ (c.args.b ∷ [])) c.self.view_is
