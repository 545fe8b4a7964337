-- The entry states of a sheet as text: for each block in order a line `D block visited cell ..`, its fields parted by tabs. The
-- cells are those of the state that the block is checked from, registers first, then slots. A sheet that is refused, or that has
-- an operand with no allocation, has no such line: "no analysis runs."
use Rattle.std.specs.Prelude.{Bool, true, false, List, [], ◌∷◌, ◌++◌, map, ℕ}
use Rattle.std.proofs.Math.Option.{Option, none, some}
use Prim.Native.Char.{code}
use Rattle.paper.specs.Text.{Bytes, digits, name_text}
use Rattle.paper.specs.Sheet.{Sheet}
use Rattle.paper.specs.Cells.{Cell, absent, unknown, conflicted, named}
use Rattle.paper.specs.Steps.{State}
use Rattle.paper.specs.Runs.{analysis, checked_from}
use Rattle.paper.specs.Refusals.{Reading, loaded, refused, read}
use Rattle.paper.specs.Report.{Line, by_block, nothing, behind_tabs, missing_allocations}
use Rattle.paper.specs.declared.Rule.{Rule}
use Rattle.paper.specs.declared.Rule.TheVariants.{Old, House}

-- `*` behind a name that is marked
unfoldable pub mark_text : Bool → Bytes
mark_text true = code "*" ∷ []
mark_text false = []

-- `.` Absent, `?` Unknown, `!` Conflicted, or the name
unfoldable pub cell_text : Cell → Bytes
cell_text absent = code "." ∷ []
cell_text unknown = code "?" ∷ []
cell_text conflicted = code "!" ∷ []
cell_text (named n marked) = name_text n ++ mark_text marked

-- a state's cells, row after row
unfoldable pub cell_texts : State → List Bytes
cell_texts [] = []
cell_texts (row ∷ rows) = map cell_text row ++ cell_texts rows

-- under the house rule `1` where the block is visited and `0` where not; the old rule has no such mark: `-`
unfoldable pub visited_text : Rule → Option State → Bytes
visited_text Old o = nothing
visited_text House none = digits 0
visited_text House (some s) = digits 1

abbrev pub letter_D : ℕ
letter_D = code "D"

-- `D block visited cell ..`
abbrev pub state_line : ℕ → Bytes → State → Bytes
state_line b visited s = letter_D ∷ behind_tabs (digits b ∷ visited ∷ cell_texts s)

unfoldable pub block_text : Rule → Sheet → ℕ → Bytes
block_text rule S b = state_line b (visited_text rule ((analysis rule S).table b)) (checked_from rule S b)

-- the text, where no allocation is missing
unfoldable pub unless_missing : List Line → Bytes → Bytes
unless_missing [] text = text
unless_missing (l ∷ ls) text = []

unfoldable pub states_after : Rule → Reading → Bytes
states_after rule (refused refusal) = []
states_after rule (loaded S) = unless_missing (missing_allocations S) (by_block (block_text rule S) 0 S.blocks)

unfoldable pub entry_states : Rule → Bytes → Bytes
entry_states rule sheet = states_after rule (read sheet)
