-- `ends_field` meets its contract: its two tests are those of the definition.
use mathlib.Core.Path.{refl}
use Rattle.fields.specs.Fields.{ends_field}
use Rattle.fields.proofs.ends_field.Goals as goal

pub returns : goal.returns
unfolding ends_field
returns c = refl
