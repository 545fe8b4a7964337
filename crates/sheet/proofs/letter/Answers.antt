-- `sheet::letter` meets its contract: a byte that ends no field is not the sheet's last, so another follows, which closes the field
-- of one byte or makes it longer.
use mathlib.Core.Path.{sym}
use Rattle.fields.specs.Fields.{ends_field}
use Rattle.records.specs.Letters.{letter_none, not_last}
use Rattle.sheet.proofs.LawsText.{letter_one, letter_more}
use Rattle.sheet.proofs.letter.Goals as goal

pub returns-then-b : goal.returns-then-b
unfolding ends_field
returns-then-b c = sym (letter_none _ _ c.requires.1 c.if-b.true)

pub bounds-sheet-at-2 : goal.bounds-sheet-at-2
unfolding ends_field
bounds-sheet-at-2 c = not_last c.args.sheet.now _ c.requires.1 c.requires.0.last c.if-b.false

pub returns-then-c : goal.returns-then-c
unfolding ends_field
returns-then-c c = sym (letter_one _ _ c.requires.1 c.if-b.false (not_last c.args.sheet.now _ c.requires.1 c.requires.0.last c.if-b.false) c.if-c.true)

pub returns-else-c : goal.returns-else-c
unfolding ends_field
returns-else-c c = sym (letter_more _ _ c.requires.1 c.if-b.false (not_last c.args.sheet.now _ c.requires.1 c.requires.0.last c.if-b.false) c.if-c.false)
