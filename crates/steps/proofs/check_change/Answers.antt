-- `check_change` meets its contract: its two tests are those of `change_error`.
use borrow.Author.Tests.{eq-eqb, ne_eqb}
use Rattle.steps.specs.Checks.{change_error}
use Rattle.steps.proofs.check_change.Goals as goal

pub returns-then-w-ne-NAMED_KIND : goal.returns-then-w-ne-NAMED_KIND
unfolding change_error
returns-then-w-ne-NAMED_KIND c = simp (ne_eqb _ _ c.if-w-ne-NAMED_KIND.true)

pub returns-then-w-from : goal.returns-then-w-from
unfolding change_error
returns-then-w-from c = simp (eq-eqb _ _ c.if-w-ne-NAMED_KIND.false, eq-eqb _ _ c.if-w-from.true)

pub returns-else-w-from : goal.returns-else-w-from
unfolding change_error
returns-else-w-from c = simp (eq-eqb _ _ c.if-w-ne-NAMED_KIND.false, ne_eqb _ _ c.if-w-from.false)
