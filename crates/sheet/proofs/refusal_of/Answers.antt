-- `sheet::refusal_of` meets its contract: number and line are handed on, and the field is that of the line's letter beside the counts.
use mathlib.Core.Path.{refl}
use Rattle.sheet.proofs.refusal_of.Goals as goal

pub counts_of-counts-requires : goal.counts_of-counts-requires
counts_of-counts-requires c = c.requires.2

pub letter-requires : goal.letter-requires
letter-requires c = (c.requires.0, c.requires.1)

pub field-field-requires : goal.field-field-requires
field-field-requires c =
    record { inside = c.requires.1; last = c.requires.0.last; size = c.requires.0.size; is_letter = c.letter.ensures }

pub returns : goal.returns
returns c =
    record { number_is = refl; line_is = refl; field_is = λ S h. c.field-field.ensures S (rw c.counts_of-counts.ensures h) }
