-- `checker::answer_text` meets its contract: a report stands already, a refusal is written over nothing.
use mathlib.Core.Logic.{inl, inr}
use Rattle.checker.proofs.Texts.{texted, texted_short, room, texted_refusal}
use Rattle.checker.proofs.answer_text.Goals as goal

pub write_refusal-requires : goal.write_refusal-requires
write_refusal-requires c =
    let k = c.check-said.ensures in
    (rw c.in-Refused.is at k.within, room k _ c.in-Refused.is c.if-refusal-eq-TOO_SHORT.false)

pub returns-in-Accepted : goal.returns-in-Accepted
returns-in-Accepted c = texted c.check-said.ensures _ (inl c.in-Accepted.is)

pub returns-in-Faulty : goal.returns-in-Faulty
returns-in-Faulty c = texted c.check-said.ensures _ (inr c.in-Faulty.is)

pub returns-then-refusal-eq-TOO_SHORT : goal.returns-then-refusal-eq-TOO_SHORT
returns-then-refusal-eq-TOO_SHORT c =
    texted_short c.check-said.ensures _ c.in-Refused.is c.if-refusal-eq-TOO_SHORT.true

pub returns-else-refusal-eq-TOO_SHORT : goal.returns-else-refusal-eq-TOO_SHORT
returns-else-refusal-eq-TOO_SHORT c =
    texted_refusal c.check-said.ensures _ c.in-Refused.is c.if-refusal-eq-TOO_SHORT.false c.write_refusal.ensures
