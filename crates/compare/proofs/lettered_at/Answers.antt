-- `lettered_at` meets its contract: the letter, then the answer of `read_number` behind it.
use mathlib.Core.Path.{sym, ◌∙◌}
use Rattle.compare.proofs.Laws.{lettered_past, lettered_other, lettered_bad, lettered_good}
use Rattle.compare.proofs.lettered_at.Goals as goal

pub returns-then-s-at-clause-value : goal.returns-then-s-at-clause-value
returns-then-s-at-clause-value c = lettered_past _ _ _ c.if-s-at.true

pub returns-then-s-at-2-clause-value : goal.returns-then-s-at-2-clause-value
returns-then-s-at-2-clause-value c = lettered_other _ _ _ c.if-s-at.false c.if-s-at-2.true

pub returns-in_err-next-clause-value : goal.returns-in_err-next-clause-value
returns-in_err-next-clause-value c = c.from_residual.ensures ∙ lettered_bad _ _ _ c.if-s-at.false c.requires c.if-s-at-2.false (sym c.in_err-next.ensures.value)

pub returns-clause-value : goal.returns-clause-value
returns-clause-value c = lettered_good _ _ _ c.if-s-at.false c.requires c.if-s-at-2.false (sym c.in_ok-next.ensures.value)
