-- Document 01, "Values, steps and joins": a state is two rows of cells, registers and slots; the entry state; the checks of
-- both rules; the effects of each. A row has as many cells as `F` counts.
use Rattle.std.specs.Prelude.{Bool, true, false, cond, List, [], ◌∷◌, map, ℕ, zero, suc, ◌+◌, get_or, set, replicate}
use Rattle.std.proofs.Math.Option.{Option, none, some}
use Rattle.paper.specs.Text.{Name, real, name_same}
use Rattle.paper.specs.Sheet.{Operand, Step, spill, reload, move, change, operation, safepoint, Sheet, listed}
use Rattle.paper.specs.Cells.{Cell, absent, unknown, conflicted, named, pick, copied, overwritten, house_changed, old_changed, collected}
use Rattle.paper.specs.declared.Rule.{Rule}
use Rattle.paper.specs.declared.Rule.TheVariants.{Old, House}

-- the rows in order: registers, slots
abbrev pub State : Type 0
State = List (List Cell)

-- how many cells each row has: "Cells beyond the counts play no part."
unfoldable pub counts_of : Sheet → List ℕ
counts_of S = S.regs ∷ S.slots ∷ []

unfoldable pub total : List ℕ → ℕ
total [] = 0
total (n ∷ counts) = n + total counts

-- all cells of a state
unfoldable pub cell_count : Sheet → ℕ
cell_count S = total (counts_of S)

-- where a cell stands, by its row and its place there; `nowhere` for an operand with no allocation
pub data Location : Type 0 where
  at : (row place : ℕ) → Location
  nowhere : Location
  deriving Discrete as Location_discrete

abbrev pub register : ℕ → Location
register i = at 0 i

abbrev pub slot : ℕ → Location
slot i = at 1 i

abbrev pub cell_at : State → ℕ → ℕ → Cell
cell_at s row place = get_or (get_or s row []) place absent

abbrev pub store_at : ℕ → ℕ → Cell → State → State
store_at row place c s = set s row (set (get_or s row []) place c)

unfoldable pub get : State → Location → Cell
get s (at row place) = cell_at s row place
get s nowhere = absent

unfoldable pub put : Location → Cell → State → State
put (at row place) c s = store_at row place c s
put nowhere c s = s

unfoldable pub location_of : Option ℕ → Location
location_of none = nowhere
location_of (some r) = register r

-- a row of n cells, by place
unfoldable pub row_of : ℕ → (ℕ → Cell) → List Cell
row_of zero f = []
row_of (suc n) f = f 0 ∷ row_of n (λ i. f (suc i))

-- "register i holds ri, unmarked; slots Unknown (old: Absent)"
unfoldable pub unfilled : Rule → Cell
unfilled Old = absent
unfilled House = unknown

unfoldable pub unfilled_rows : Rule → List ℕ → State
unfilled_rows rule [] = []
unfilled_rows rule (n ∷ counts) = replicate n (unfilled rule) ∷ unfilled_rows rule counts

unfoldable pub entry_rows : Rule → List ℕ → State
entry_rows rule [] = []
entry_rows rule (n ∷ counts) = row_of n (λ i. named (real i) false) ∷ unfilled_rows rule counts

unfoldable pub entry_state : Rule → Sheet → State
entry_state rule S = entry_rows rule (counts_of S)

-- "Unreached blocks keep an all Absent (house: all Unknown) state"
unfoldable pub unreached_state : Rule → Sheet → State
unreached_state rule S = unfilled_rows rule (counts_of S)

-- what a check finds, after `CheckerError`
pub data Fault : Type 0 where
  missing_allocation_for_reg : (name : Name) → Fault
  unknown_value_in_reg : (reg : Option ℕ) → Fault
  incorrect_value_in_reg : (reg : Option ℕ) (expected actual : Name) → Fault
  unknown_value_in_slot : (slot : ℕ) (expected : Name) → Fault
  incorrect_value_in_slot : (slot : ℕ) (expected actual : Name) → Fault
  stack_map_specifies_non_ref_slot : (slot : ℕ) → Fault
  stack_map_specifies_undefined_slot : (slot : ℕ) → Fault

-- "The first failing use or slot ends the check of that step."
unfoldable pub first_of : {A : Type 0} → Option A → Option A → Option A
first_of none later = later
first_of (some found) later = some found

-- "`O`: uses in order; Unknown or Conflicted is kind 2, another name is kind 3."
unfoldable pub check_use : Operand → Cell → Option Fault
check_use u absent = some (unknown_value_in_reg u.reg)
check_use u unknown = some (unknown_value_in_reg u.reg)
check_use u conflicted = some (unknown_value_in_reg u.reg)
check_use u (named k m) = pick (name_same k u.name) none (some (incorrect_value_in_reg u.reg u.name k))

unfoldable pub check_uses : List Operand → State → Option Fault
check_uses [] s = none
check_uses (u ∷ us) s = first_of (check_use u (get s (location_of u.reg))) (check_uses us s)

-- "`C`: the slot must hold from; kinds 4, 5."
unfoldable pub check_change : ℕ → Name → Cell → Option Fault
check_change k from absent = some (unknown_value_in_slot k from)
check_change k from unknown = some (unknown_value_in_slot k from)
check_change k from conflicted = some (unknown_value_in_slot k from)
check_change k from (named j m) = pick (name_same j from) none (some (incorrect_value_in_slot k from j))

-- "`P`: lowest listed slot first; a marked name passes, an unmarked one is kind 6, anything else is kind 7."
unfoldable pub check_slot : ℕ → Cell → Option Fault
check_slot k absent = some (stack_map_specifies_undefined_slot k)
check_slot k unknown = some (stack_map_specifies_undefined_slot k)
check_slot k conflicted = some (stack_map_specifies_undefined_slot k)
check_slot k (named n true) = none
check_slot k (named n false) = some (stack_map_specifies_non_ref_slot k)

unfoldable pub check_slots : List ℕ → State → Option Fault
check_slots [] s = none
check_slots (k ∷ ks) s = first_of (check_slot k (get s (slot k))) (check_slots ks s)

-- "Checks (both rules). Before each step."
unfoldable pub check : Step → State → Option Fault
check (spill k r) s = none
check (reload r k) s = none
check (move into from) s = none
check (change inst k from to) s = check_change k from (get s (slot k))
check (operation inst uses defs) s = check_uses uses s
check (safepoint inst slots) s = check_slots slots s

-- "`S`, `L`, `M` copy the cell; copying Absent stores Unknown."
unfoldable pub copy : Location → Location → State → State
copy into from s = put into (copied (get s from)) s

-- f of each cell
unfoldable pub everywhere : (Cell → Cell) → State → State
everywhere f s = map (map f) s

-- f at each place, of what stands there
unfoldable pub by_place : {A : Type 0} → (ℕ → A → A) → List A → List A
by_place f [] = []
by_place f (x ∷ xs) = f 0 x ∷ by_place (λ i. f (suc i)) xs

-- at a safepoint a row loses its marked names, but for the listed slots
unfoldable pub safepoint_row : Rule → List ℕ → ℕ → List Cell → List Cell
safepoint_row rule slots zero row = map (collected rule) row
safepoint_row rule slots (suc zero) row = by_place (λ i c. cond (listed slots i) c (collected rule c)) row
safepoint_row rule slots (suc (suc r)) row = map (collected rule) row

-- "`O`: each def in order stores its name, marked if listed by `T`." `ref` says which names are.
unfoldable pub old_define : (Name → Bool) → List Operand → State → State
old_define ref [] s = s
old_define ref (d ∷ ds) s = old_define ref ds (put (location_of d.reg) (named d.name (ref d.name)) s)

-- "`O`: for each def in order, every cell holding that name becomes Conflicted, then the register gets it."
unfoldable pub house_define : (Name → Bool) → List Operand → State → State
house_define ref [] s = s
house_define ref (d ∷ ds) s = house_define ref ds (put (location_of d.reg) (named d.name (ref d.name)) (everywhere (overwritten d.name) s))

-- "Effects, old rule."
unfoldable pub old_effect : (Name → Bool) → Step → State → State
old_effect ref (spill k r) s = copy (slot k) (register r) s
old_effect ref (reload r k) s = copy (register r) (slot k) s
old_effect ref (move into from) s = copy (register into) (register from) s
old_effect ref (change inst k from to) s = put (slot k) (old_changed to (get s (slot k))) s
old_effect ref (operation inst uses defs) s = old_define ref defs s
old_effect ref (safepoint inst slots) s = by_place (safepoint_row Old slots) s

-- "Effects, house rule. `S`, `L`, `M` as above." "`C`: every other cell holding to becomes Conflicted; in the slot itself .."
unfoldable pub house_effect : (Name → Bool) → Step → State → State
house_effect ref (spill k r) s = copy (slot k) (register r) s
house_effect ref (reload r k) s = copy (register r) (slot k) s
house_effect ref (move into from) s = copy (register into) (register from) s
house_effect ref (change inst k from to) s = put (slot k) (house_changed from to (get s (slot k))) (everywhere (overwritten to) s)
house_effect ref (operation inst uses defs) s = house_define ref defs s
house_effect ref (safepoint inst slots) s = by_place (safepoint_row House slots) s

unfoldable pub effect : Rule → (Name → Bool) → Step → State → State
effect Old ref x s = old_effect ref x s
effect House ref x s = house_effect ref x s

-- the steps of a block, one after the other
unfoldable pub effects : Rule → (Name → Bool) → List Step → State → State
effects rule ref [] s = s
effects rule ref (x ∷ xs) s = effects rule ref xs (effect rule ref x s)
