-- `name_at` meets its contract: the answer of `read_name`, without the name.
use mathlib.Core.Path.{sym, ◌∙◌}
use Rattle.compare.proofs.Laws.{name_good, name_bad}
use Rattle.compare.proofs.name_at.Goals as goal

pub returns-in_err-next-clause-value : goal.returns-in_err-next-clause-value
returns-in_err-next-clause-value c = c.from_residual.ensures ∙ name_bad _ _ (sym c.in_err-next.ensures.value)

pub returns-clause-value : goal.returns-clause-value
returns-clause-value c = name_good _ _ (sym c.in_ok-next.ensures.value)
