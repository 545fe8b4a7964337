-- `text_at` meets its contract, test by test.
use mathlib.Core.Path.{refl, sym, ◌∙◌}
use Rattle.std.specs.Prelude.{Some}
use native.Mathlib.Omega.{arith}
use Rattle.fields.specs.Cursor.{field_past, field_stop}
use Rattle.compare.proofs.Laws.{inner, stopped, goes_on, texting_first, text_past, text_ended, text_other, texting_more, text_good, text_longer}
use Rattle.compare.proofs.text_at.Goals as goal

pub loop-b-init : goal.loop-b-init
loop-b-init c = texting_first _ _ _ c.requires

pub returns-then-is_some-clause-value : goal.returns-then-is_some-clause-value
returns-then-is_some-clause-value c =
    let e = stopped _ _ c.ends.result c.ends.ensures.within (sym c.is_some.ensures ∙ c.if-is_some.true) in
    text_ended c.loop-b.invariant c.loop-b-test.true e.0 e.1

pub returns-then-s-next-clause-value : goal.returns-then-s-next-clause-value
returns-then-s-next-clause-value c = text_past c.loop-b.invariant c.loop-b-test.true c.if-s-next.true

pub returns-then-s-next-2-clause-value : goal.returns-then-s-next-2-clause-value
returns-then-s-next-2-clause-value c =
    text_other c.loop-b.invariant c.loop-b-test.true (omega (arith, c.if-s-next.false))
    (goes_on c.args.s.now c.loop-b.next c.ends.result c.ends.ensures.within (sym c.is_some.ensures ∙ c.if-is_some.false)) c.if-s-next-2.true

pub loop-b-preserved : goal.loop-b-preserved
loop-b-preserved c =
    texting_more c.loop-b.invariant c.loop-b-test.true (omega (arith, c.if-s-next.false))
    (goes_on c.args.s.now c.loop-b.next c.ends.result c.ends.ensures.within (sym c.is_some.ensures ∙ c.if-is_some.false)) c.if-s-next-2.false

pub returns-in_err-ends-clause-value : goal.returns-in_err-ends-clause-value
returns-in_err-ends-clause-value c =
    c.from_residual.ensures ∙ text_longer c.loop-b.invariant (omega (arith, c.loop-b-test.false)) c.if-next-s.true
    (inner _ c.in_err-ends.ensures.within.0 c.in_err-ends.ensures.within.1)

pub returns-in_ok-ends-clause-value : goal.returns-in_ok-ends-clause-value
returns-in_ok-ends-clause-value c =
    let s = stopped c.args.s.now c.loop-b.next (Some c.in_ok-ends.field-0) c.in_ok-ends.ensures.within refl in
    text_good c.loop-b.invariant (omega (arith, c.loop-b-test.false)) (field_stop _ _ s.0 s.1)

pub returns-else-next-s-clause-value : goal.returns-else-next-s-clause-value
returns-else-next-s-clause-value c = text_good c.loop-b.invariant (omega (arith, c.loop-b-test.false)) (field_past _ _ (omega (arith, c.if-next-s.false)))
