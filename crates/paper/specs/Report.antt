-- Document 01, "The report": header `R rule count`, then one line a fault, by block, then place of the step in its block:
-- `E block place inst kind where expected actual`, with `-` for nothing. "If an `O` has a `-`, no analysis runs." Document 02, A5: an
-- unreached block has a line `N block` in place of its faults.
use Rattle.std.specs.Prelude.{List, [], ◌∷◌, ◌++◌, map, ℕ, suc, zero, length}
use Rattle.std.proofs.Math.Option.{Option, none, some}
use Prim.Native.Char.{code}
use Rattle.paper.specs.Text.{Bytes, tab, line_feed, hyphen, digits, Name, letter_r, name_text}
use Rattle.paper.specs.Sheet.{Operand, Step, spill, reload, move, change, operation, safepoint, Sheet, steps_of, reference_typed}
use Rattle.paper.specs.Steps.{State, Fault, missing_allocation_for_reg, unknown_value_in_reg, incorrect_value_in_reg, unknown_value_in_slot, incorrect_value_in_slot, stack_map_specifies_non_ref_slot, stack_map_specifies_undefined_slot, check, effect}
use Rattle.paper.specs.Runs.{analysis, checked_from}
use Rattle.paper.specs.declared.Rule.{Rule}
use Rattle.paper.specs.declared.Rule.TheVariants.{Old, House}

-- a fault and where it stands
pub record Line : Type 0 where
  pub block : ℕ
  pub place : ℕ
  pub inst : ℕ
  pub fault : Fault

-- the inst of the steps that can have a fault
unfoldable pub inst_of : Step → ℕ
inst_of (spill k r) = 0
inst_of (reload r k) = 0
inst_of (move into from) = 0
inst_of (change inst k from to) = inst
inst_of (operation inst uses defs) = inst
inst_of (safepoint inst slots) = inst

-- the line of a fault, if there is one
unfoldable pub line_of : (block place inst : ℕ) → Option Fault → List Line
line_of block place inst none = []
line_of block place inst (some fault) = record { block = block; place = place; inst = inst; fault = fault } ∷ []

-- the faults of block b's steps from a place on, checked from the state s. "The step then takes effect anyway."
unfoldable pub faults_from : Rule → Sheet → ℕ → ℕ → List Step → State → List Line
faults_from rule S b place [] s = []
faults_from rule S b place (x ∷ xs) s = line_of b place (inst_of x) (check x s) ++ faults_from rule S b (suc place) xs (effect rule (reference_typed S) x s)

unfoldable pub block_faults : Rule → Sheet → ℕ → List Line
block_faults rule S b = faults_from rule S b 0 (steps_of S b) (checked_from rule S b)

-- what a line of the report says: a fault, or that no walk comes to a block
pub data Entry : Type 0 where
  fault_entry : Line → Entry
  unreached_entry : (block : ℕ) → Entry

-- Document 02, A5: "Under the house rule an unreached block is not checked; the report has a line `N block` where its faults would
-- stand." It is unreached where the run's table has no state for it; "The old rule is unchanged": there every block has one.
unfoldable pub entries_at : Rule → Sheet → ℕ → Option State → List Entry
entries_at rule S b none = unreached_entry b ∷ []
entries_at rule S b (some s) = map fault_entry (block_faults rule S b)

-- the lines of block b
unfoldable pub block_entries : Rule → Sheet → ℕ → List Entry
block_entries rule S b = entries_at rule S b ((analysis rule S).table b)

-- of each of the n blocks from b on, what f gives
unfoldable pub by_block : {A : Type 0} → (ℕ → List A) → ℕ → ℕ → List A
by_block f b zero = []
by_block f b (suc n) = f b ++ by_block f (suc b) n

-- `find_errors`: every block's lines
unfoldable pub find_errors : Rule → Sheet → List Entry
find_errors rule S = by_block (block_entries rule S) 0 S.blocks

-- the first list that has something in it
unfoldable pub first_list : {A : Type 0} → List A → List A → List A
first_list [] later = later
first_list (x ∷ found) later = x ∷ found

-- the names with no allocation, in order (`map_regs`)
unfoldable pub unallocated : List Operand → List Name
unallocated [] = []
unallocated (u ∷ us) = onto u.reg (unallocated us)
  where
    onto : Option ℕ → List Name → List Name
    onto none names = u.name ∷ names
    onto (some r) names = names

-- "all its missing uses in order, or, when none is missing, all its missing defs" (`add_op`)
unfoldable pub missing_names : Step → List Name
missing_names (spill k r) = []
missing_names (reload r k) = []
missing_names (move into from) = []
missing_names (change inst k from to) = []
missing_names (operation inst uses defs) = first_list (unallocated uses) (unallocated defs)
missing_names (safepoint inst slots) = []

-- a line for each such name
unfoldable pub names_lines : (block place inst : ℕ) → List Name → List Line
names_lines block place inst names = map (λ n. record { block = block; place = place; inst = inst; fault = missing_allocation_for_reg n }) names

-- "The first such step alone is reported": of the steps from a place on, of the n blocks from b on
unfoldable pub missing_from : ℕ → ℕ → List Step → List Line
missing_from b place [] = []
missing_from b place (x ∷ xs) = first_list (names_lines b place (inst_of x) (missing_names x)) (missing_from b (suc place) xs)

unfoldable pub missing_blocks : Sheet → ℕ → ℕ → List Line
missing_blocks S b zero = []
missing_blocks S b (suc n) = first_list (missing_from b 0 (steps_of S b)) (missing_blocks S (suc b) n)

unfoldable pub missing_allocations : Sheet → List Line
missing_allocations S = missing_blocks S 0 S.blocks

-- the report's lines: "If an `O` has a `-`, no analysis runs.", and "a report that stops at one has no `N` lines"
unfoldable pub entries : Rule → Sheet → List Entry
entries rule S = first_list (map fault_entry (missing_allocations S)) (find_errors rule S)

-- the faults among them
unfoldable pub faults_in : List Entry → List Line
faults_in [] = []
faults_in (fault_entry l ∷ es) = l ∷ faults_in es
faults_in (unreached_entry b ∷ es) = faults_in es

unfoldable pub faults : Rule → Sheet → List Line
faults rule S = faults_in (entries rule S)

-- "Kinds and their fields, after `CheckerError`"
unfoldable pub kind_of : Fault → ℕ
kind_of (missing_allocation_for_reg n) = 1
kind_of (unknown_value_in_reg r) = 2
kind_of (incorrect_value_in_reg r e a) = 3
kind_of (unknown_value_in_slot k e) = 4
kind_of (incorrect_value_in_slot k e a) = 5
kind_of (stack_map_specifies_non_ref_slot k) = 6
kind_of (stack_map_specifies_undefined_slot k) = 7

abbrev pub letter_s : ℕ
letter_s = code "s"

abbrev pub nothing : Bytes
nothing = hyphen ∷ []

-- `rN`
unfoldable pub reg_text : Option ℕ → Bytes
reg_text none = nothing
reg_text (some r) = letter_r ∷ digits r

-- `sN`
unfoldable pub slot_text : ℕ → Bytes
slot_text k = letter_s ∷ digits k

-- where, expected, actual
unfoldable pub fault_fields : Fault → List Bytes
fault_fields (missing_allocation_for_reg n) = nothing ∷ name_text n ∷ nothing ∷ []
fault_fields (unknown_value_in_reg r) = reg_text r ∷ nothing ∷ nothing ∷ []
fault_fields (incorrect_value_in_reg r e a) = reg_text r ∷ name_text e ∷ name_text a ∷ []
fault_fields (unknown_value_in_slot k e) = slot_text k ∷ name_text e ∷ nothing ∷ []
fault_fields (incorrect_value_in_slot k e a) = slot_text k ∷ name_text e ∷ name_text a ∷ []
fault_fields (stack_map_specifies_non_ref_slot k) = slot_text k ∷ nothing ∷ nothing ∷ []
fault_fields (stack_map_specifies_undefined_slot k) = slot_text k ∷ nothing ∷ nothing ∷ []

-- "Tabs and LF as in the sheet": each field behind a tab, then LF
unfoldable pub behind_tabs : List Bytes → Bytes
behind_tabs [] = line_feed ∷ []
behind_tabs (f ∷ fs) = tab ∷ (f ++ behind_tabs fs)

abbrev pub letter_E : ℕ
letter_E = code "E"

abbrev pub letter_N : ℕ
letter_N = code "N"

abbrev pub letter_R : ℕ
letter_R = code "R"

-- `E block place inst kind where expected actual`
unfoldable pub line_text : Line → Bytes
line_text l = letter_E ∷ behind_tabs (digits l.block ∷ digits l.place ∷ digits l.inst ∷ digits (kind_of l.fault) ∷ fault_fields l.fault)

-- `N block`
unfoldable pub unreached_text : ℕ → Bytes
unreached_text block = letter_N ∷ behind_tabs (digits block ∷ [])

unfoldable pub entry_text : Entry → Bytes
entry_text (fault_entry l) = line_text l
entry_text (unreached_entry block) = unreached_text block

unfoldable pub lines_text : List Entry → Bytes
lines_text [] = []
lines_text (e ∷ es) = entry_text e ++ lines_text es

-- "rule being `old` or `house`"
unfoldable pub rule_text : Rule → Bytes
rule_text Old = code "o" ∷ code "l" ∷ code "d" ∷ []
rule_text House = code "h" ∷ code "o" ∷ code "u" ∷ code "s" ∷ code "e" ∷ []

-- "Header `R rule count`"
unfoldable pub header_text : Rule → ℕ → Bytes
header_text rule count = letter_R ∷ behind_tabs (rule_text rule ∷ digits count ∷ [])

-- the count is the number of `E` lines: "the header still counts faults only"
unfoldable pub report_text : Rule → List Entry → Bytes
report_text rule es = header_text rule (length (faults_in es)) ++ lines_text es
