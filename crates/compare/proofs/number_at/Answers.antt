-- `number_at` meets its contract: the answer of `read_number`, without the number.
use mathlib.Core.Path.{sym, ◌∙◌}
use Rattle.compare.proofs.Laws.{number_good, number_bad}
use Rattle.compare.proofs.number_at.Goals as goal

pub returns-in_err-next-clause-value : goal.returns-in_err-next-clause-value
returns-in_err-next-clause-value c = c.from_residual.ensures ∙ number_bad _ _ (sym c.in_err-next.ensures.value)

pub returns-clause-value : goal.returns-clause-value
returns-clause-value c = number_good _ _ (sym c.in_ok-next.ensures.value)
