-- `check_use` meets its contract: its two tests are those of `use_error`.
use borrow.Author.Tests.{eq-eqb, ne_eqb}
use Rattle.steps.specs.Checks.{use_error}
use Rattle.steps.proofs.check_use.Goals as goal

pub returns-then-w-ne-NAMED_KIND : goal.returns-then-w-ne-NAMED_KIND
unfolding use_error
returns-then-w-ne-NAMED_KIND c = simp (ne_eqb _ _ c.if-w-ne-NAMED_KIND.true)

pub returns-then-w-u : goal.returns-then-w-u
unfolding use_error
returns-then-w-u c = simp (eq-eqb _ _ c.if-w-ne-NAMED_KIND.false, eq-eqb _ _ c.if-w-u.true)

pub returns-else-w-u : goal.returns-else-w-u
unfolding use_error
returns-else-w-u c = simp (eq-eqb _ _ c.if-w-ne-NAMED_KIND.false, ne_eqb _ _ c.if-w-u.false)
