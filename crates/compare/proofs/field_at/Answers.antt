-- `field_at` meets its contract: each shape has the function that reads it.
use mathlib.Core.Path.{sym, ◌∙◌}
use Rattle.compare.specs.Places.{shape_of}
use Rattle.compare.proofs.LawsLine.{same_place, letter_r_inner, letter_s_inner}
use Rattle.compare.proofs.field_at.Goals as goal

pub lettered_at-requires : goal.lettered_at-requires
lettered_at-requires c = letter_r_inner

pub lettered_at-requires-in-Slot : goal.lettered_at-requires-in-Slot
lettered_at-requires-in-Slot c = letter_s_inner

pub returns-in-Number-clause-value : goal.returns-in-Number-clause-value
unfolding shape_of
returns-in-Number-clause-value c = c.number_at.ensures.value ∙ same_place _ _ (sym c.in-Number.is)

pub returns-in-Name-clause-value : goal.returns-in-Name-clause-value
unfolding shape_of
returns-in-Name-clause-value c = c.name_at.ensures.value ∙ same_place _ _ (sym c.in-Name.is)

pub returns-in-Register-clause-value : goal.returns-in-Register-clause-value
unfolding shape_of
returns-in-Register-clause-value c = c.lettered_at.ensures.value ∙ same_place _ _ (sym c.in-Register.is)

pub returns-in-Slot-clause-value : goal.returns-in-Slot-clause-value
unfolding shape_of
returns-in-Slot-clause-value c = c.lettered_at-in-Slot.ensures.value ∙ same_place _ _ (sym c.in-Slot.is)

pub returns-in-Byte-clause-value : goal.returns-in-Byte-clause-value
unfolding shape_of
returns-in-Byte-clause-value c = c.text_at.ensures.value ∙ same_place _ _ (sym c.in-Byte.is)
