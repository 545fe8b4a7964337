-- `sealed::sealed_text` meets its contract: a sealed report stands already; a refusal left the report as it was, and is written by the plain call.
use mathlib.Core.Path.{sym, ◌∙◌}
use Rattle.sealed.proofs.Laws.{text_short, text_accepted, text_faulty, text_refused}
use Rattle.sealed.proofs.sealed_text.Goals as goal

pub returns-then-short : goal.returns-then-short
returns-then-short c = text_short _ _ (sym c.too_short-short.ensures ∙ c.if-short.true)

pub returns-in-Accepted : goal.returns-in-Accepted
returns-in-Accepted c =
    text_accepted c.check_sealed-said.ensures (sym c.too_short-short.ensures ∙ c.if-short.false) _ c.in-Accepted.is

pub returns-in-Faulty : goal.returns-in-Faulty
returns-in-Faulty c =
    text_faulty c.check_sealed-said.ensures (sym c.too_short-short.ensures ∙ c.if-short.false) _ c.in-Faulty.is

pub returns-in-Refused : goal.returns-in-Refused
returns-in-Refused c =
    text_refused c.check_sealed-said.ensures (sym c.too_short-short.ensures ∙ c.if-short.false) _ c.in-Refused.is c.answer_text.ensures
