-- `read_allocation` meets its contract: past the text there is no field; where no hyphen stands first, the number is the answer;
-- behind a hyphen the field ends, at a tab, a line feed or the end of the text, or it is ill-formed.
use mathlib.Core.Path.{sym, ◌∙◌}
use Rattle.fields.specs.Cursor.{field_past, field_stop}
use Rattle.fields.proofs.Letters.{byte_there, none_there, allocation_past, allocation_number, allocation_none, allocation_bad}
use Rattle.fields.proofs.read_allocation.Goals as goal

pub returns-in_err-get-clause-value : goal.returns-in_err-get-clause-value
returns-in_err-get-clause-value c = c.from_residual.ensures ∙ allocation_past _ _ (none_there _ _ c.in_err-get.ensures.lookup.0)

pub returns-in_err-r-clause-value : goal.returns-in_err-r-clause-value
returns-in_err-r-clause-value c =
    let there = byte_there _ _ _ c.in_ok-get.ensures.lookup.0 c.in_ok-get.ensures.lookup.1 in
    c.from_residual-in_err-r.ensures ∙ rw (allocation_number _ _ there.0 (rw there.1 at c.if-branch-ne45.true), sym c.in_err-r.ensures.value)

pub returns-then-branch-ne45-clause-value : goal.returns-then-branch-ne45-clause-value
returns-then-branch-ne45-clause-value c =
    let there = byte_there _ _ _ c.in_ok-get.ensures.lookup.0 c.in_ok-get.ensures.lookup.1 in
    rw (allocation_number _ _ there.0 (rw there.1 at c.if-branch-ne45.true), sym c.in_ok-r.ensures.value)

pub returns-then-not-ends_field-clause-value : goal.returns-then-not-ends_field-clause-value
returns-then-not-ends_field-clause-value c =
    let there = byte_there _ _ _ c.in_ok-get.ensures.lookup.0 c.in_ok-get.ensures.lookup.1 in
    allocation_bad _ _ there.0 (rw there.1 at c.if-branch-ne45.false) c.if-next-s.true (sym c.ends_field.ensures ∙ c.if-not-ends_field.true)

pub returns-else-not-ends_field-clause-value : goal.returns-else-not-ends_field-clause-value
returns-else-not-ends_field-clause-value c =
    let there = byte_there _ _ _ c.in_ok-get.ensures.lookup.0 c.in_ok-get.ensures.lookup.1 in
    allocation_none _ _ there.0 (rw there.1 at c.if-branch-ne45.false) (field_stop _ _ c.if-next-s.true (sym c.ends_field.ensures ∙ c.if-not-ends_field.false))

pub returns-else-next-s-clause-value : goal.returns-else-next-s-clause-value
returns-else-next-s-clause-value c =
    let there = byte_there _ _ _ c.in_ok-get.ensures.lookup.0 c.in_ok-get.ensures.lookup.1 in
    allocation_none _ _ there.0 (rw there.1 at c.if-branch-ne45.false) (field_past _ _ c.if-next-s.false)
