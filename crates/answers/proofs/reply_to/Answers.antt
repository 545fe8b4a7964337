-- What stands behind the letter is answered under the rule that it asks for, with a seal or without.
use Rattle.std.proofs.Common.{sym, ap, subst, ◌∙◌, Some}
use Rattle.answers.specs.Request.{Replied}
use Rattle.answers.proofs.Laws.{reply_empty, reply_nothing, reply_text, reply_sealed}
use Rattle.answers.proofs.reply_to.Goals as goal

pub returns-in_err-letter : goal.returns-in_err-letter
returns-in_err-letter c = subst (Replied _ _ _) (sym c.from_residual.ensures) (reply_empty _ _ c.in_err-letter.ensures.cases)

pub returns-in_err-rule : goal.returns-in_err-rule
returns-in_err-rule c =
    subst (Replied _ _ _) (sym c.from_residual-in_err-rule.ensures)
    (reply_nothing _ _ _ c.in_ok-letter.ensures.cases.0 _ (sym c.rule_asked.ensures ∙ c.in_err-rule.was))

pub returns-in-For : goal.returns-in-For
returns-in-For c =
    reply_text _ _ _ c.in_ok-letter.ensures.cases.0 _ _ _ _ (sym c.rule_asked.ensures ∙ c.in_ok-rule.was ∙ ap Some c.in-For.is) c.answer_text.ensures

pub returns-in-Sealed : goal.returns-in-Sealed
returns-in-Sealed c =
    reply_sealed _ _ _ c.in_ok-letter.ensures.cases.0 _ _ _ _ (sym c.rule_asked.ensures ∙ c.in_ok-rule.was ∙ ap Some c.in-Sealed.is) c.sealed_text.ensures
