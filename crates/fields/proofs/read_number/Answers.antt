use mathlib.Core.Path.{◌≡◌, sym, ◌∙◌}
use native.Mathlib.Omega.{arith}
use lib.ListN.{length}
use Rattle.fields.specs.Spelling.{digit_range}
use Rattle.fields.specs.Cursor.{field_past, field_stop}
use Rattle.fields.proofs.Letters.{byte_there, none_there}
use Rattle.fields.proofs.Laws.{bad_past, bad_first, led_first, led_other, led_zero, led_many, led_more, led_good}
use Rattle.fields.proofs.read_number.Goals as goal

pub returns-in_err-first-clause-value : goal.returns-in_err-first-clause-value
returns-in_err-first-clause-value c = c.from_residual.ensures ∙ bad_past _ _ (none_there _ _ c.in_err-first.ensures.lookup.0)

pub returns-then-not-is_digit-clause-value : goal.returns-then-not-is_digit-clause-value
returns-then-not-is_digit-clause-value c =
    let there = byte_there _ _ _ c.in_ok-first.ensures.lookup.0 c.in_ok-first.ensures.lookup.1 in
    bad_first _ _ there.0 (rw there.1 at (sym c.is_digit.ensures ∙ c.if-not-is_digit.true))

pub overflow_sub-v : goal.overflow_sub-v
overflow_sub-v c = omega (arith, digit_range _ (sym c.is_digit.ensures ∙ c.if-not-is_digit.false))

pub loop-i-init : goal.loop-i-init
loop-i-init c =
    let there = byte_there _ _ _ c.in_ok-first.ensures.lookup.0 c.in_ok-first.ensures.lookup.1 in
    rw there.1 (led_first _ _ there.0 (rw there.1 at (sym c.is_digit.ensures ∙ c.if-not-is_digit.false)))

pub returns-then-ends_field-clause-value : goal.returns-then-ends_field-clause-value
returns-then-ends_field-clause-value c = led_good c.loop-i.invariant (field_stop _ _ c.loop-i-test.true (sym c.ends_field.ensures ∙ c.if-ends_field.true))

pub returns-then-not-is_digit-2-clause-value : goal.returns-then-not-is_digit-2-clause-value
returns-then-not-is_digit-2-clause-value c =
    let inner = sym c.ends_field.ensures ∙ c.if-ends_field.false in
    led_other c.loop-i.invariant c.loop-i-test.true inner (sym c.is_digit-in-loop-i.ensures ∙ c.if-not-is_digit-2.true)

pub returns-then-v-eq0-clause-value : goal.returns-then-v-eq0-clause-value
returns-then-v-eq0-clause-value c = led_zero c.loop-i.invariant c.loop-i-test.true (sym c.is_digit-in-loop-i.ensures ∙ c.if-not-is_digit-2.false) c.if-v-eq0.true

pub returns-then-v-gt9999-clause-value : goal.returns-then-v-gt9999-clause-value
returns-then-v-gt9999-clause-value c = led_many c.loop-i.invariant c.loop-i-test.true (sym c.is_digit-in-loop-i.ensures ∙ c.if-not-is_digit-2.false) c.if-v-gt9999.true

pub overflow_sub-v-in-loop-i : goal.overflow_sub-v-in-loop-i
overflow_sub-v-in-loop-i c = omega (arith, digit_range _ (sym c.is_digit-in-loop-i.ensures ∙ c.if-not-is_digit-2.false))

pub loop-i-preserved : goal.loop-i-preserved
loop-i-preserved c =
    led_more c.loop-i.invariant c.loop-i-test.true (sym c.is_digit-in-loop-i.ensures ∙ c.if-not-is_digit-2.false) c.if-v-eq0.false c.if-v-gt9999.false

pub returns-clause-value : goal.returns-clause-value
returns-clause-value c =
    let end : length c.args.s.now ≡ c.loop-i.i = omega (arith, c.loop-i-test.false) in
    rw end (led_good c.loop-i.invariant (field_past _ _ (omega arith)))
