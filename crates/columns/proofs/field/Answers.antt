-- `columns::field` meets its contract: a number that names no field gives 0, and any other the field that is looked for.
use mathlib.Core.Path.{◌∙◌}
use Rattle.paper.specs.Refusals.{field_of}
use Rattle.columns.proofs.field.Goals as goal

pub returns-then-names_field : goal.returns-then-names_field
unfolding field_of
returns-then-names_field c S k =
    c.shown_field.ensures S k ∙ rw (← c.names_field.ensures, c.if-names_field.true)

pub returns-else-names_field : goal.returns-else-names_field
unfolding field_of
returns-else-names_field c S k = rw (← c.names_field.ensures, c.if-names_field.false)
