-- A report's `E` line as the code writes it: its fields by value, and the text that they stand for.
use Rattle.std.specs.Prelude.{Option, Some, None, List, [], ◌∷◌, ◌<◌}
use Rattle.paper.specs.Limits.{max_blocks, max_steps}
use Rattle.paper.specs.Text.{Bytes, digits, letter_r, name_text}
use Rattle.paper.specs.Report.{nothing, slot_text, behind_tabs, letter_E}
use Rattle.cells.specs.Packed.{name_of_word}
use Rattle.report.specs.declared.Field.{Field}
use Rattle.report.specs.declared.Field.TheVariants.{Register, Slot, Named}
use Rattle.report.specs.declared.Position.{Position}
use Rattle.report.specs.declared.FaultFields.{FaultFields}

unfoldable pub field_text : Option Field → Bytes
field_text None = nothing
field_text (Some (Register r)) = letter_r ∷ digits r
field_text (Some (Slot k)) = slot_text k
field_text (Some (Named w)) = name_text (name_of_word w)

-- where, expected, actual
unfoldable pub field_texts : FaultFields → List Bytes
field_texts f = field_text f.location ∷ field_text f.expected ∷ field_text f.actual ∷ []

-- `E block place inst kind where expected actual`
unfoldable pub fields_line : Position → FaultFields → Bytes
fields_line p f =
    letter_E ∷ behind_tabs (digits p.block ∷ digits p.place ∷ digits p.inst ∷ digits f.kind ∷ field_texts f)

-- the position of a step that a sheet can have
abbrev pub PositionWithin : Position → Type 0
PositionWithin p = (p.block < max_blocks) × (p.place < max_steps)
