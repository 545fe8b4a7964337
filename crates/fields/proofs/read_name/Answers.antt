-- `read_name` meets its contract: past the text, or without `r` or `v` first, there is no name; behind the letter `read_number`'s
-- answer makes the name's (`name_behind`).
use mathlib.Core.Path.{sym, ◌∙◌}
use borrow.Author.Tests.{ne_eqb}
use Rattle.fields.specs.Fields.{name_read, name_made}
use Rattle.fields.proofs.Letters.{byte_there, none_there, name_past, name_other, name_behind}
use Rattle.fields.proofs.read_name.Goals as goal

pub returns-in_err-b-clause-value : goal.returns-in_err-b-clause-value
returns-in_err-b-clause-value c = c.from_residual.ensures ∙ name_past _ _ (none_there _ _ c.in_err-b.ensures.lookup.0)

pub returns-then-b-clause-value : goal.returns-then-b-clause-value
returns-then-b-clause-value c =
    let there = byte_there _ _ _ c.in_ok-b.ensures.lookup.0 c.in_ok-b.ensures.lookup.1 in
    name_other _ _ there.0 (rw there.1 at c.if-b.true)

pub returns-in_err-n-clause-value : goal.returns-in_err-n-clause-value
returns-in_err-n-clause-value c =
    let there = byte_there _ _ _ c.in_ok-b.ensures.lookup.0 c.in_ok-b.ensures.lookup.1 in
    c.from_residual-in_err-n.ensures ∙ rw (name_behind _ _ there.0 (rw there.1 at c.if-b.false), sym c.in_err-n.ensures.value)

pub returns-then-b-eq114-clause-value : goal.returns-then-b-eq114-clause-value
unfolding name_read name_made
returns-then-b-eq114-clause-value c =
    let there = byte_there _ _ _ c.in_ok-b.ensures.lookup.0 c.in_ok-b.ensures.lookup.1 in
    rw (name_behind _ _ there.0 (rw there.1 at c.if-b.false), sym c.in_ok-n.ensures.value, sym there.1, c.if-b-eq114.true)

pub returns-else-b-eq114-clause-value : goal.returns-else-b-eq114-clause-value
unfolding name_read name_made
returns-else-b-eq114-clause-value c =
    let there = byte_there _ _ _ c.in_ok-b.ensures.lookup.0 c.in_ok-b.ensures.lookup.1 in
    rw (name_behind _ _ there.0 (rw there.1 at c.if-b.false), sym c.in_ok-n.ensures.value, sym there.1, ne_eqb _ _ c.if-b-eq114.false)
