-- The defs of an operation, each operand bringing its own mark.
use Rattle.std.specs.Prelude.{List, [], ◌∷◌, ℕ, ◌/◌}
use Rattle.paper.specs.Text.{Name}
use Rattle.paper.specs.Cells.{named, overwritten}
use Rattle.paper.specs.Steps.{State, location_of, put, everywhere}
use Rattle.paper.specs.declared.Rule.{Rule}
use Rattle.paper.specs.declared.Rule.TheVariants.{Old, House}
use Rattle.cells.specs.Packed.{name_of_word, marked}
use Rattle.loaded.specs.Actions.{register_of}

-- under the house rule a name that is written anew stands nowhere else
unfoldable pub cleared_of : Rule → Name → State → State
cleared_of Old n s = s
cleared_of House n s = everywhere (overwritten n) s

unfoldable pub define_word : Rule → ℕ → State → State
define_word rule w s = put (location_of (register_of (w / 1024))) (named (name_of_word w) (marked w)) (cleared_of rule (name_of_word w) s)

unfoldable pub define_words : Rule → List ℕ → State → State
define_words rule [] s = s
define_words rule (w ∷ ws) s = define_words rule ws (define_word rule w s)
