-- `field_behind` meets its contract: a tab, and then the field.
use mathlib.Core.Path.{◌∙◌}
use Rattle.compare.proofs.LawsLine.{behind_none, behind_tab}
use Rattle.compare.proofs.field_behind.Goals as goal

pub returns-in_err-next-clause-value : goal.returns-in_err-next-clause-value
returns-in_err-next-clause-value c = c.from_residual.ensures ∙ behind_none _ _ _ c.in_err-next.ensures

pub returns-clause-value : goal.returns-clause-value
returns-clause-value c = behind_tab _ _ _ c.in_ok-next.ensures.0 c.in_ok-next.ensures.2 c.field_at.ensures.value
