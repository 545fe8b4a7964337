use Rattle.std.proofs.Common.{◌≡◌, ◌∙◌, ◌+◌, ◌-◌, arith}
use Rattle.steps.proofs.LawsEffects.{no_step, next_step}
use Rattle.steps.proofs.effects.Goals as goal

pub loop-k-preserved : goal.loop-k-preserved
loop-k-preserved c counts r ref h =
    let k = c.loop-k.k in
    let e : c.args.first + c.args.count - (k + 1) ≡ c.args.first + c.args.count - k - 1 = omega arith in
    let honest = h k (omega arith) (omega arith) in
    rw (e, c.update.ensures counts r.rows_fit (rw c.action_at-action.ensures (r.in_range _ (omega arith) (omega arith))) ref (rw c.action_at-action.ensures honest), c.action_at-action.ensures)
    (next_step _ ref _ _ _ _ (omega arith))
    ∙ c.loop-k.invariant counts r ref h

pub returns : goal.returns
returns c counts r ref h = no_step _ ref _ _ _ _ (omega arith) ∙ c.loop-k.invariant counts r ref h
