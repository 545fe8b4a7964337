-- `rule_behind` meets its contract: a tab, and then one of the two texts.
use mathlib.Core.Path.{◌∙◌}
use Rattle.compare.proofs.LawsLine.{behind_none, behind_tab, old_place, house_place}
use Rattle.compare.proofs.rule_behind.Goals as goal

pub returns-in_err-start-clause-value : goal.returns-in_err-start-clause-value
returns-in_err-start-clause-value c = c.from_residual.ensures ∙ behind_none _ _ _ c.in_err-start.ensures

pub returns-in-Some-clause-value : goal.returns-in-Some-clause-value
returns-in-Some-clause-value c = behind_tab _ _ _ c.in_ok-start.ensures.0 c.in_ok-start.ensures.2 (old_place _ _ c.in-Some.ensures.value)

pub returns-clause-value : goal.returns-clause-value
returns-clause-value c = behind_tab _ _ _ c.in_ok-start.ensures.0 c.in_ok-start.ensures.2 (house_place _ _ c.in_default.ensures.value c.text_at-2.ensures.value)
