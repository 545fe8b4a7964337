-- The first step that has an operand with no allocation, as the code names it, and the lines that it stands for.
use Rattle.std.specs.Prelude.{◌≡◌, true, Option, Some, None, List, [], ℕ, ◌<◌, get_or}
use Rattle.paper.specs.Sheet.{Step}
use Rattle.paper.specs.Limits.{max_steps}
use Rattle.paper.specs.Report.{Line, inst_of, missing_names, names_lines, missing_allocations}
use Rattle.layout.specs.Layout.{blocks_word, steps_word}
use Rattle.loaded.specs.Actions.{action_at, step_of}
use Rattle.steps.specs.Faults.{some_in}
use Rattle.loaded.specs.Loaded.{sheet_of}
use Rattle.faults.specs.declared.Missing.{Missing}

-- a line for each operand of a step that has no allocation
unfoldable pub step_lines : (block place : ℕ) → Step → List Line
step_lines block place x = names_lines block place (inst_of x) (missing_names x)

unfoldable pub missing_lines : List ℕ → Option Missing → List Line
missing_lines words None = []
missing_lines words (Some m) = step_lines m.block m.place (step_of words (action_at words m.k))

-- the step is one of the sheet's, and has such an operand
abbrev pub MissingWithin : List ℕ → Option Missing → Type 0
MissingWithin words None = Unit {0}
MissingWithin words (Some m) =
    (m.block < get_or words blocks_word 0) × (m.place < max_steps) × (m.k < get_or words steps_word 0)
    × (some_in (missing_names (step_of words (action_at words m.k))) ≡ true)

-- r stands for the lines ls
pub record MissingIs (words : List ℕ) (ls : List Line) (r : Option Missing) : Type 0 where
  pub lines : ls ≡ missing_lines words r
  pub within : MissingWithin words r

-- r stands for all that is missing in the sheet
abbrev pub MissingOf : List ℕ → Option Missing → Type 0
MissingOf words r = MissingIs words (missing_allocations (sheet_of words)) r
