-- Document 01, "Joins, loops and edges to try": its rows as one table, and one theorem that computes every row from the
-- definitions. A join is a meet of two cells, either way round; a sheet is answered from its own bytes, to the answer's bytes; a step
-- takes effect on a state, where a report cannot tell Unknown, Absent and Conflicted apart.
use Rattle.std.specs.Prelude.{◌≡◌, refl, Bool, true, false, cond, List, [], ◌∷◌, ◌++◌, map, eqb}
use Rattle.std.proofs.Math.Option.{some}
use Prim.Native.Char.{code}
use Prim.Native.String.{String}
use Prim.Native.String as Text
use Rattle.paper.specs.Text.{Bytes, tab, line_feed, real, virtual}
use Rattle.paper.specs.Cells.{Cell, absent, unknown, conflicted, named, meet}
use Rattle.paper.specs.Sheet.{Step, change, operation, safepoint}
use Rattle.paper.specs.Steps.{State}
use Rattle.paper.specs.declared.Rule.{Rule}
use Rattle.paper.specs.declared.Rule.TheVariants.{Old, House}
use Rattle.cases.specs.Computed.{answer_text, untyped_effect}

-- a line as document 01 prints it, each gap one tab
bytes_of : String → Bytes
bytes_of Text.[] = []
bytes_of (Text.◌∷◌ c s) = cond (eqb (code c) 32) tab (code c) ∷ bytes_of s

text : List String → Bytes
text [] = []
text (l ∷ ls) = bytes_of l ++ (line_feed ∷ text ls)

data Row : Type 0 where
  join : (rule : Rule) (left right met : Cell) → Row
  sheet : (rule : Rule) (lines report : List String) → Row
  effect : (rule : Rule) (x : Step) (before after : State) → Row

-- what a row shows
data Shown : Type 0 where
  cells : Cell → Cell → Shown
  bytes : Bytes → Shown
  state : State → Shown

computed : Row → Shown
computed (join rule left right met) = cells (meet rule left right) (meet rule right left)
computed (sheet rule ls report) = bytes (answer_text rule (text ls))
computed (effect rule x before after) = state (untyped_effect rule x before)

expected : Row → Shown
expected (join rule left right met) = cells met met
expected (sheet rule ls report) = bytes (text report)
expected (effect rule x before after) = state after

abbrev v1 : Bool → Cell
v1 mark = named (virtual 1) mark

abbrev v2 : Bool → Cell
v2 mark = named (virtual 2) mark

-- one branch spills v0 to slot 0, the other does nothing; after the join, reload into r1 and use v0 there
abbrev unfilled_slot : List String
unfilled_slot = "F 2 1 1 4 0" ∷ "B 1 2" ∷ "O 0 0 1 v0 0" ∷ "B 3" ∷ "S 0 0" ∷ "B 3" ∷ "B" ∷ "L 1 0" ∷ "O 1 1 v0 1 0" ∷ []

-- define v0 in r0, move to r1, define v0 in r0 again, use v0 in r1
abbrev stale_copy : List String
stale_copy = "F 2 0 1 1 0" ∷ "B" ∷ "O 0 0 1 v0 0" ∷ "M 1 0" ∷ "O 1 0 1 v0 0" ∷ "O 2 1 v0 1 0" ∷ []

-- one slot, and no register
abbrev slot_holds : Cell → State
slot_holds c = [] ∷ (c ∷ []) ∷ []

-- r0 and slot 0 hold two cells
abbrev both_hold : Cell → Cell → State
both_hold r k = (r ∷ []) ∷ (k ∷ []) ∷ []

-- a def of v1 in r0; v1 becomes v2 in slot 0; a safepoint that lists slot 0, or no slot
abbrev define_v1 : Step
define_v1 = operation 0 [] (record { name = virtual 1; reg = some 0 } ∷ [])

abbrev change_to_v2 : Step
change_to_v2 = change 0 0 (virtual 1) (virtual 2)

abbrev safepoint_0 : Step
safepoint_0 = safepoint 0 (0 ∷ [])

abbrev safepoint_none : Step
safepoint_none = safepoint 0 []

-- `C` on a slot that nothing was stored in (old: Absent); then what the slot holds is asked for by another `C` and by a safepoint
abbrev change_of_unfilled : List String
change_of_unfilled = "F 0 1 2 1 0" ∷ "B" ∷ "C 0 0 v0 v1" ∷ "C 1 0 v1 v0" ∷ "P 2 0" ∷ []

-- `C` on an Unknown slot, under the old rule too: what was copied from the unfilled slot 0 is Unknown
abbrev change_of_unknown : List String
change_of_unknown = "F 1 2 2 1 0" ∷ "B" ∷ "L 0 0" ∷ "S 1 0" ∷ "C 0 1 v0 v1" ∷ "C 1 1 v1 v0" ∷ []

-- `C` from a name to itself, with a copy in a register
abbrev change_to_itself : List String
change_to_itself = "F 1 1 2 1 0" ∷ "T 0" ∷ "T 1" ∷ "B" ∷ "O 0 0 1 v0 0" ∷ "S 0 0" ∷ "C 1 0 v0 v0" ∷ "O 2 1 v0 0 0" ∷ []

-- a safepoint, then a use of a marked name in a register
abbrev marked_in_register : List String
marked_in_register = "F 1 0 1 1 0" ∷ "T 0" ∷ "B" ∷ "O 0 0 1 v0 0" ∷ "P 1" ∷ "O 1 1 v0 0 0" ∷ []

-- "Whole example"
abbrev whole_example : List String
whole_example = "F 2 1 1 1 0" ∷ "B" ∷ "O 7 0 1 v0 0" ∷ "S 0 0" ∷ "O 8 1 v0 1 0" ∷ []

-- regs 0, blocks 0 to 1 to 2 in a line: old never visits block 1 in the analysis
abbrev three_in_line : List String
three_in_line = "F 0 1 3 3 0" ∷ "B 1" ∷ "B 2" ∷ "C 0 0 v0 v1" ∷ "B" ∷ "C 1 0 v1 v2" ∷ []

-- an unreached block whose first step has a use: document 02, A5, in place of kind 2
abbrev unreached_use : List String
unreached_use = "F 1 0 1 2 0" ∷ "B" ∷ "B" ∷ "O 0 1 v0 0 0" ∷ []

-- unreached blocks with no step, before the entry and behind it
abbrev unreached_empty : List String
unreached_empty = "F 0 0 0 3 1" ∷ "B" ∷ "B" ∷ "B 1" ∷ []

-- an unreached block between two with a fault
abbrev unreached_between : List String
unreached_between = "F 1 0 1 3 0" ∷ "B 2" ∷ "O 0 1 v0 0 0" ∷ "B" ∷ "O 1 1 v0 0 0" ∷ "B" ∷ "O 2 1 v0 0 0" ∷ []

-- a missing allocation in an unreached block, behind another one
abbrev unreached_missing : List String
unreached_missing = "F 1 0 1 3 0" ∷ "B" ∷ "B" ∷ "B" ∷ "O 0 1 v0 - 0" ∷ []

-- every register holds itself at the entry
abbrev register_used : List String
register_used = "F 1 0 0 1 0" ∷ "B" ∷ "O 0 1 r0 0 0" ∷ []

-- two uses of one step fail, and the step takes effect
abbrev two_failing_uses : List String
two_failing_uses = "F 2 0 3 1 0" ∷ "B" ∷ "O 4 2 v0 0 v1 1 1 v2 0" ∷ "O 5 1 v2 0 0" ∷ []

-- missing allocations of uses and of defs, and a fault that no analysis looks for
abbrev missing_uses : List String
missing_uses = "F 1 0 4 1 0" ∷ "B" ∷ "O 1 1 v0 0 0" ∷ "O 2 3 v0 - r0 0 v1 - 1 v2 -" ∷ "O 3 0 1 v3 -" ∷ []

abbrev missing_defs : List String
missing_defs = "F 1 0 4 2 0" ∷ "B 1" ∷ "M 0 0" ∷ "B" ∷ "O 2 1 r0 0 2 v2 - v3 -" ∷ []

-- a loop with a safepoint, accepted by both rules
abbrev accepted_loop : List String
accepted_loop = "F 1 1 1 3 0" ∷ "T 0" ∷ "B 1" ∷ "O 0 0 1 v0 0" ∷ "S 0 0" ∷ "B 1 2" ∷ "P 1 0" ∷ "L 0 0" ∷ "O 1 1 v0 0 0" ∷ "B" ∷ "O 2 1 v0 0 0" ∷ []

-- two walks bring different marked names to one safepoint's slot
abbrev two_names : List String
two_names = "F 1 1 2 4 0" ∷ "T 0" ∷ "T 1" ∷ "B 1 2" ∷ "B 3" ∷ "O 0 0 1 v0 0" ∷ "S 0 0" ∷ "B 3" ∷ "O 1 0 1 v1 0" ∷ "S 0 0" ∷ "B" ∷ "P 2 0" ∷ []

-- one line behind an `F` and a `B`
abbrev behind : String → List String
behind line = "F 2 2 2 1 0" ∷ "B" ∷ line ∷ []

abbrev rows : List Row
rows =
    -- joins
    join House unknown (v1 false) unknown
    ∷ join Old unknown (v1 false) (v1 false)
    ∷ join Old (v1 false) (v1 true) (v1 true)
    ∷ join House (v1 false) (v1 true) (v1 true)
    ∷ join Old (v1 false) (v2 false) conflicted
    ∷ join House (v1 false) (v2 false) conflicted
    ∷ join House unknown conflicted unknown
    ∷ join Old unknown conflicted conflicted
    ∷ join Old absent unknown unknown
    ∷ join Old absent absent absent
    -- sheets, starred
    ∷ sheet Old unfilled_slot ("R old 0" ∷ [])
    ∷ sheet House unfilled_slot ("R house 1" ∷ "E 3 1 1 2 r1 - -" ∷ [])
    ∷ sheet Old stale_copy ("R old 0" ∷ [])
    ∷ sheet House stale_copy ("R house 1" ∷ "E 0 3 2 2 r1 - -" ∷ [])
    ∷ effect Old define_v1 (both_hold (named (real 0) false) (v1 false)) (both_hold (v1 false) (v1 false))
    ∷ effect House define_v1 (both_hold (named (real 0) false) (v1 false)) (both_hold (v1 false) conflicted)
    ∷ effect Old change_to_v2 (both_hold (v2 false) (v1 false)) (both_hold (v2 false) (v2 false))
    ∷ effect House change_to_v2 (both_hold (v2 false) (v1 false)) (both_hold conflicted (v2 false))
    ∷ sheet Old change_of_unfilled ("R old 2" ∷ "E 0 0 0 4 s0 v0 -" ∷ "E 0 2 2 6 s0 - -" ∷ [])
    ∷ sheet House change_of_unfilled ("R house 3" ∷ "E 0 0 0 4 s0 v0 -" ∷ "E 0 1 1 4 s0 v1 -" ∷ "E 0 2 2 7 s0 - -" ∷ [])
    ∷ sheet Old change_of_unknown ("R old 1" ∷ "E 0 2 0 4 s1 v0 -" ∷ [])
    ∷ sheet House change_of_unknown ("R house 2" ∷ "E 0 2 0 4 s1 v0 -" ∷ "E 0 3 1 4 s1 v1 -" ∷ [])
    ∷ effect Old (change 0 0 (virtual 0) (virtual 1)) (slot_holds unknown) (slot_holds (v1 false))
    ∷ effect House (change 0 0 (virtual 0) (virtual 1)) (slot_holds unknown) (slot_holds unknown)
    ∷ sheet Old marked_in_register ("R old 1" ∷ "E 0 2 1 2 r0 - -" ∷ [])
    ∷ sheet House marked_in_register ("R house 1" ∷ "E 0 2 1 2 r0 - -" ∷ [])
    ∷ effect Old safepoint_0 (both_hold (v1 true) (v1 true)) (both_hold unknown (v1 true))
    ∷ effect House safepoint_0 (both_hold (v1 true) (v1 true)) (both_hold conflicted (v1 true))
    ∷ effect Old safepoint_none (both_hold (v1 false) (v1 true)) (both_hold (v1 false) unknown)
    ∷ effect House safepoint_none (both_hold (v1 false) (v1 true)) (both_hold (v1 false) conflicted)
    ∷ sheet Old whole_example ("R old 1" ∷ "E 0 2 8 3 r1 v0 r1" ∷ [])
    ∷ sheet House whole_example ("R house 1" ∷ "E 0 2 8 3 r1 v0 r1" ∷ [])
    -- sheets without a star
    ∷ sheet Old three_in_line ("R old 2" ∷ "E 1 0 0 4 s0 v0 -" ∷ "E 2 0 1 4 s0 v1 -" ∷ [])
    ∷ sheet House three_in_line ("R house 2" ∷ "E 1 0 0 4 s0 v0 -" ∷ "E 2 0 1 4 s0 v1 -" ∷ [])
    ∷ sheet Old unreached_use ("R old 1" ∷ "E 1 0 0 2 r0 - -" ∷ [])
    ∷ sheet House unreached_use ("R house 0" ∷ "N 1" ∷ [])
    ∷ sheet Old unreached_empty ("R old 0" ∷ [])
    ∷ sheet House unreached_empty ("R house 0" ∷ "N 0" ∷ "N 2" ∷ [])
    ∷ sheet Old unreached_between ("R old 3" ∷ "E 0 0 0 3 r0 v0 r0" ∷ "E 1 0 1 2 r0 - -" ∷ "E 2 0 2 3 r0 v0 r0" ∷ [])
    ∷ sheet House unreached_between ("R house 2" ∷ "E 0 0 0 3 r0 v0 r0" ∷ "N 1" ∷ "E 2 0 2 3 r0 v0 r0" ∷ [])
    ∷ sheet House unreached_missing ("R house 1" ∷ "E 2 0 0 1 - v0 -" ∷ [])
    ∷ sheet Old register_used ("R old 0" ∷ [])
    ∷ sheet House register_used ("R house 0" ∷ [])
    ∷ sheet Old change_to_itself ("R old 0" ∷ [])
    ∷ sheet House change_to_itself ("R house 1" ∷ "E 0 3 2 2 r0 - -" ∷ [])
    ∷ sheet House two_failing_uses ("R house 1" ∷ "E 0 0 4 3 r0 v0 r0" ∷ [])
    ∷ sheet Old missing_uses ("R old 2" ∷ "E 0 1 2 1 - v0 -" ∷ "E 0 1 2 1 - v1 -" ∷ [])
    ∷ sheet House missing_defs ("R house 2" ∷ "E 1 0 2 1 - v2 -" ∷ "E 1 0 2 1 - v3 -" ∷ [])
    ∷ sheet Old accepted_loop ("R old 0" ∷ [])
    ∷ sheet House accepted_loop ("R house 0" ∷ [])
    ∷ sheet House two_names ("R house 1" ∷ "E 3 0 2 7 s0 - -" ∷ [])
    -- refusals: in a line the lowest number; document 02, A7: 128 blocks are within the limit, 129 are not
    ∷ sheet House [] ("X 2 0 0" ∷ [])
    ∷ sheet House ("B" ∷ []) ("X 4 1 0" ∷ [])
    ∷ sheet House ("F 2 2 2 1 0" ∷ []) ("X 4 2 0" ∷ [])
    ∷ sheet House ("F 2 2 2 1 1" ∷ []) ("X 5 1 6" ∷ [])
    ∷ sheet House ("F 0 0 0 128 127" ∷ []) ("X 4 2 0" ∷ [])
    ∷ sheet House ("F 0 0 0 129 0" ∷ []) ("X 5 1 5" ∷ [])
    ∷ sheet House (behind "") ("X 3 3 1" ∷ [])
    ∷ sheet House (behind "T v0") ("X 3 3 2" ∷ [])
    ∷ sheet House (behind "F 0 0 0 0 0") ("X 4 3 0" ∷ [])
    ∷ sheet House (behind "P 0") ("R house 0" ∷ [])
    ∷ sheet House (behind "P 0 1 1") ("X 6 3 4" ∷ [])
    ∷ sheet House (behind "O 0 0 2 r0 - v1 0") ("X 7 3 6" ∷ [])
    ∷ sheet House (behind "O 0 0 2 r0 1 v1 1") ("X 6 3 8" ∷ [])
    ∷ sheet House (behind "O 0 0 2 r0 1 v1 0") ("X 7 3 6" ∷ [])
    ∷ sheet House (behind "O 0 1 r0 - 0") ("X 7 3 5" ∷ [])
    ∷ sheet House (behind "O 0 1 r0 2 0") ("X 5 3 5" ∷ [])
    ∷ sheet House (behind "O 0 9 0") ("X 3 3 4" ∷ [])
    ∷ sheet House (behind "O 0 9 r0 0 r1 1 v0 0 v1 0 r0 0 r1 1 v0 0 v1 0 r0 0 0") ("X 5 3 3" ∷ [])
    ∷ sheet House (behind "O 00 0 0") ("X 3 3 2" ∷ [])
    ∷ sheet House ("F 0 1 2 1 0" ∷ "T 0" ∷ "B" ∷ "C 0 0 v0 v1" ∷ []) ("X 8 4 5" ∷ [])
    -- document 02, A4: the field of each refusal that names one; for a wrong number of fields the first one missing or too many
    ∷ sheet House (behind "x") ("X 3 3 1" ∷ [])
    ∷ sheet House (behind "S") ("X 3 3 2" ∷ [])
    ∷ sheet House (behind "S x") ("X 3 3 2" ∷ [])
    ∷ sheet House (behind "S 0 x 0") ("X 3 3 3" ∷ [])
    ∷ sheet House (behind "S 0 0 0 0") ("X 3 3 4" ∷ [])
    ∷ sheet House ("F 0 0 0 1 0 0" ∷ []) ("X 3 1 7" ∷ [])
    ∷ sheet House (behind "B 0 0 0 0 0 0 0 0 0") ("X 3 3 10" ∷ [])
    ∷ sheet House (behind "C 0 0 v0") ("X 3 3 5" ∷ [])
    ∷ sheet House (behind "C 0 0 v0 v1 0") ("X 3 3 6" ∷ [])
    ∷ sheet House (behind "O 0 1 v0 0") ("X 3 3 6" ∷ [])
    ∷ sheet House (behind "O 0 1 v0 x 0") ("X 3 3 5" ∷ [])
    ∷ sheet House (behind "O 0 0 99999") ("X 3 3 5" ∷ [])
    ∷ sheet House (behind "O 0 0 0 0") ("X 3 3 5" ∷ [])
    ∷ sheet House (behind "P 0 0 00") ("X 3 3 4" ∷ [])
    -- the first value beyond its limit: a name before its register, a count before what it counts
    ∷ sheet House ("F 33 0 0 1 1" ∷ []) ("X 5 1 2" ∷ [])
    ∷ sheet House ("F 0 0 0 0 0" ∷ []) ("X 5 1 5" ∷ [])
    ∷ sheet House ("F 0 0 2 1 0" ∷ "T 2" ∷ []) ("X 5 2 2" ∷ [])
    ∷ sheet House ("F 0 0 0 2 0" ∷ "B 1 2" ∷ []) ("X 5 2 3" ∷ [])
    ∷ sheet House (behind "S 2 0") ("X 5 3 2" ∷ [])
    ∷ sheet House (behind "L 0 2") ("X 5 3 3" ∷ [])
    ∷ sheet House (behind "C 0 0 v0 v2") ("X 5 3 5" ∷ [])
    ∷ sheet House (behind "P 65536 2") ("X 5 3 2" ∷ [])
    ∷ sheet House (behind "P 0 1 0 2") ("X 5 3 5" ∷ [])
    ∷ sheet House (behind "O 0 0 1 v2 2") ("X 5 3 5" ∷ [])
    ∷ sheet House (behind "O 0 0 1 v0 2") ("X 5 3 6" ∷ [])
    ∷ sheet House (behind "O 0 1 v0 0 9 r0 0 r1 1 v0 0 v1 0 r0 0 r1 1 v0 0 v1 0 r0 0") ("X 5 3 6" ∷ [])
    -- of two fields the later: the first that equals an earlier one
    ∷ sheet House ("F 0 0 2 1 0" ∷ "T 1" ∷ "T 0" ∷ []) ("X 6 3 2" ∷ [])
    ∷ sheet House (behind "O 0 4 v0 0 v1 0 v1 0 v0 0 0") ("X 6 3 8" ∷ [])
    ∷ sheet House (behind "O 0 0 3 v0 0 v1 0 v0 1") ("X 6 3 8" ∷ [])
    ∷ sheet House (behind "O 0 0 2 v0 0 v0 0") ("X 6 3 7" ∷ [])
    ∷ sheet House (behind "O 0 2 v0 0 r1 0 0") ("X 7 3 7" ∷ [])
    ∷ []

-- every row of the table holds
table : map computed rows ≡ map expected rows
unfolding computed expected text bytes_of answer_text untyped_effect
table = refl
