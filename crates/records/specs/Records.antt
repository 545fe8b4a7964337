-- One line of a sheet, at a place of the text: what is told of it, and what it is held against. A place here is one where a field
-- ends, and the fields that are left of the line stand behind it.
use Rattle.std.specs.Prelude.{◌≡◌, Bool, true, false, cond, not, ◌||◌, List, [], ◌∷◌, ◌++◌, ℕ, ◌+◌, ◌-◌, ◌^◌, ◌≤◌, ◌<◌, eqb, leb, ltb, length, get_or, take, Some, None, Ok, Err}
use Rattle.std.specs.declared.option.Option as read
use Rattle.std.specs.declared.result.Result.{Result}
use Rattle.std.proofs.Math.Option.{Option, none, some}
use Rattle.paper.specs.Text.{Bytes, line_feed, number_of, Name, real, virtual, name_of}
use Rattle.paper.specs.Sheet.{Step, change, operation, safepoint, Sheet, listed}
use Rattle.paper.specs.Limits.{max_regs, max_slots, max_vregs, max_blocks, max_inst, max_sheet}
use Rattle.paper.specs.Refusals.{Record, function_record, typed_record, block_record, step_record, next, allocation_of, out_of_place, real_elsewhere, types_differ, step_beyond, step_out_of_order, step_too_many, ascending, so_far_of, Condition, first_holding, conditions}
use Rattle.layout.specs.Layout.{defs_from}
use Rattle.fields.specs.Fields.{ends_field, field_end, line_end, fields_behind}
use Rattle.lists.specs.Bits.{set_bits}
use Rattle.cells.specs.Packed.{name_of_word}
use Rattle.loaded.specs.Actions.{operands}
use Rattle.loaded.specs.Filling.{FunctionWithin, BlockWithin, GroupWithin}
use Rattle.loaded.specs.declared.Counts.{Counts}
use Rattle.records.specs.declared.Place.{Place}
use Rattle.records.specs.declared.Breach.{Breach}
use Rattle.records.specs.declared.FunctionLine.{FunctionLine}
use Rattle.records.specs.declared.TypedLine.{TypedLine}
use Rattle.records.specs.declared.BlockLine.{BlockLine}
use Rattle.records.specs.declared.PairLine.{PairLine}
use Rattle.records.specs.declared.ChangeLine.{ChangeLine}
use Rattle.records.specs.declared.OperationLine.{OperationLine}
use Rattle.records.specs.declared.SafepointLine.{SafepointLine}

-- what a line breaks

-- document 01's list for a well-formed line, by what was tested
unfoldable pub holding : Place → (beyond disorder elsewhere differ : Bool) → List Condition
holding place beyond disorder elsewhere differ =
    record { number = 4; holds = place.misplaced }
    ∷ record { number = 5; holds = beyond }
    ∷ record { number = 6; holds = disorder }
    ∷ record { number = 7; holds = elsewhere }
    ∷ record { number = 8; holds = differ }
    ∷ record { number = 9; holds = place.surplus }
    ∷ []

unfoldable pub judged_of : Option ℕ → Result (Unit {0}) Breach
judged_of none = Ok tt
judged_of (some number) = Err (record { number = number })

-- what is told of a line

-- what it says and the place of its line feed, or what it breaks
pub data Line : Type 0 where
  good : (r : Record) (next : ℕ) → Line
  bad : Breach → Line

unfoldable pub told_by : Record → ℕ → Option ℕ → Line
told_by r next none = good r next
told_by r next (some number) = bad (record { number = number })

-- of a line that ends at `next`, read beside the sheet so far: its form comes before every other condition
unfoldable pub told : Option Sheet → ℕ → Option Record → Line
told so_far next none = bad (record { number = 3 })
told so_far next (some r) = told_by r next (first_holding (conditions so_far r))

-- the same by each line's own type
unfoldable pub function_line : Result FunctionLine Breach → Line
function_line (Ok r) = good (function_record r.regs r.slots r.vregs r.blocks r.entry) r.next
function_line (Err breach) = bad breach

unfoldable pub typed_line : Result TypedLine Breach → Line
typed_line (Ok r) = good (typed_record r.n) r.next
typed_line (Err breach) = bad breach

unfoldable pub block_line : Result BlockLine Breach → Line
block_line (Ok r) = good (block_record (take r.count r.succs)) r.next
block_line (Err breach) = bad breach

unfoldable pub pair_line : (ℕ → ℕ → Step) → Result PairLine Breach → Line
pair_line step (Ok r) = good (step_record (step r.a r.b)) r.next
pair_line step (Err breach) = bad breach

unfoldable pub change_line : Result ChangeLine Breach → Line
change_line (Ok r) = good (step_record (change r.inst r.slot (name_of_word r.from) (name_of_word r.to))) r.next
change_line (Err breach) = bad breach

unfoldable pub operation_line : Result OperationLine Breach → Line
operation_line (Ok r) = good (step_record (operation r.inst (operands 0 r.n r.operands) (operands defs_from r.m r.operands))) r.next
operation_line (Err breach) = bad breach

unfoldable pub safepoint_line : Result SafepointLine Breach → Line
safepoint_line (Ok r) = good (step_record (safepoint r.inst (set_bits r.mask))) r.next
safepoint_line (Err breach) = bad breach

-- places

-- a place of a sheet where a field ends, by a tab or by a line feed; the sheet's last byte is a line feed
pub record Behind (s : Bytes) (at : ℕ) : Type 0 where
  pub inside : at < length s
  pub stops : ends_field (get_or s at 0) ≡ true
  pub last : get_or s (length s - 1) 0 ≡ line_feed
  pub size : length s ≤ max_sheet

-- the place of the line feed that closes the line
pub record Ends (s : Bytes) (at next : ℕ) : Type 0 where
  pub place : next ≡ line_end s at
  pub inside : next < length s
  pub feed : get_or s next 0 ≡ line_feed

-- the next field of the line

-- the field behind `at` says `value`, and the line goes on behind it, at `after`
pub record Next {A : Type 0} (read : Bytes → Option A) (s : Bytes) (at : ℕ) (value : A) (after : ℕ) : Type 0 where
  pub says : next read (fields_behind s at) ≡ some (record { value = value; rest = fields_behind s after })
  pub place : after ≡ field_end s (at + 1)
  pub further : at < after
  pub behind : Behind s after
  pub line : line_end s after ≡ line_end s at

abbrev pub NumberBehind : Bytes → ℕ → read.Option (ℕ × ℕ) → Type 0
NumberBehind s at None = next number_of (fields_behind s at) ≡ none
NumberBehind s at (Some x) = Next number_of s at x.0 x.1 × (x.0 < 100000)

-- a name and an allocation of at most five digits in one number each: from 100,000 on a real name, and no register
unfoldable pub name_of_code : ℕ → Name
name_of_code c = cond (ltb c 100000) (virtual c) (real (c - 100000))

unfoldable pub register_of_code : ℕ → Option ℕ
register_of_code c = cond (ltb c 100000) (some c) none

abbrev pub NameBehind : Bytes → ℕ → read.Option (ℕ × ℕ) → Type 0
NameBehind s at None = next name_of (fields_behind s at) ≡ none
NameBehind s at (Some x) = Next name_of s at (name_of_code x.0) x.1 × (x.0 < 200000)

abbrev pub AllocationBehind : Bytes → ℕ → read.Option (ℕ × ℕ) → Type 0
AllocationBehind s at None = next allocation_of (fields_behind s at) ≡ none
AllocationBehind s at (Some x) = Next allocation_of s at (register_of_code x.0) x.1 × (x.0 ≤ 100000)

-- what a line is held against

-- the place tells of such a line whether it is out of place, and whether it is a step too many
pub record Placed (so_far : Option Sheet) (r : Record) (place : Place) : Type 0 where
  pub where_it_stands : out_of_place so_far r ≡ place.misplaced
  pub how_many : step_too_many (so_far_of so_far) r ≡ place.surplus

pub record CountsWithin (counts : Counts) : Type 0 where
  pub regs : counts.regs ≤ max_regs
  pub slots : counts.slots ≤ max_slots
  pub vregs : counts.vregs ≤ max_vregs
  pub blocks : counts.blocks ≤ max_blocks

-- the sheet's `F` says the counts
pub record Counted (S : Sheet) (counts : Counts) : Type 0 where
  pub regs : S.regs ≡ counts.regs
  pub slots : S.slots ≡ counts.slots
  pub vregs : S.vregs ≡ counts.vregs
  pub blocks : S.blocks ≡ counts.blocks

-- the sheet's `T` lines list the names whose words are not 0
pub record TypedBy (S : Sheet) (typed : List ℕ) : Type 0 where
  pub agrees : (n : ℕ) → n < 256 → listed S.typed n ≡ not (eqb (get_or typed n 0) 0)

-- the next `T` is in order from `least` on
pub record Least (S : Sheet) (least : ℕ) : Type 0 where
  pub agrees : (n : ℕ) → ascending (S.typed ++ (n ∷ [])) ≡ leb least n

-- a step of two numbers that only their limits hold back
pub record Paired (S : Sheet) (step : ℕ → ℕ → Step) (first second : ℕ) : Type 0 where
  pub beyond : (a b : ℕ) → step_beyond S (step a b) ≡ (leb first a || leb second b)
  pub order : (a b : ℕ) → step_out_of_order (step a b) ≡ false
  pub home : (a b : ℕ) → real_elsewhere (step_record (step a b)) ≡ false
  pub types : (a b : ℕ) → types_differ S (step_record (step a b)) ≡ false

-- the values of a line that breaks nothing

-- it is in place, and its line feed is a place of the text
pub record InPlace (s : Bytes) (place : Place) (next : ℕ) : Type 0 where
  pub inside : next < length s
  pub placed : place.misplaced ≡ false
  pub room : place.surplus ≡ false

pub record TypedWithin (vregs least n : ℕ) : Type 0 where
  pub name_below : n < vregs
  pub name_ascends : least ≤ n

pub record PairWithin (first second a b : ℕ) : Type 0 where
  pub first_below : a < first
  pub second_below : b < second

pub record ChangeWithin (slots inst slot from to : ℕ) : Type 0 where
  pub inst_most : inst ≤ max_inst
  pub slot_below : slot < slots
  pub from_word : from < 512
  pub to_word : to < 512

pub record SafepointWithin (slots inst mask : ℕ) : Type 0 where
  pub inst_most : inst ≤ max_inst
  pub mask_below : mask < 2 ^ slots

abbrev pub FunctionClear : Bytes → Place → Result FunctionLine Breach → Type 0
FunctionClear s place (Ok r) = InPlace s place r.next × FunctionWithin r.regs r.slots r.vregs r.blocks r.entry
FunctionClear s place (Err breach) = Unit {0}

abbrev pub TypedClear : Bytes → Place → (vregs least : ℕ) → Result TypedLine Breach → Type 0
TypedClear s place vregs least (Ok r) = InPlace s place r.next × TypedWithin vregs least r.n
TypedClear s place vregs least (Err breach) = Unit {0}

abbrev pub BlockClear : Bytes → Place → (blocks : ℕ) → Result BlockLine Breach → Type 0
BlockClear s place blocks (Ok r) = InPlace s place r.next × BlockWithin blocks r.count r.succs
BlockClear s place blocks (Err breach) = Unit {0}

abbrev pub PairClear : Bytes → Place → (first second : ℕ) → Result PairLine Breach → Type 0
PairClear s place first second (Ok r) = InPlace s place r.next × PairWithin first second r.a r.b
PairClear s place first second (Err breach) = Unit {0}

abbrev pub ChangeClear : Bytes → Place → (slots : ℕ) → Result ChangeLine Breach → Type 0
ChangeClear s place slots (Ok r) = InPlace s place r.next × ChangeWithin slots r.inst r.slot r.from r.to
ChangeClear s place slots (Err breach) = Unit {0}

-- the two groups of an operation
pub record GroupsWithin (counts : Counts) (typed words : List ℕ) (n m : ℕ) : Type 0 where
  pub uses_within : (S : Sheet) → Counted S counts → TypedBy S typed → GroupWithin S counts.regs 0 n words
  pub defs_within : (S : Sheet) → Counted S counts → TypedBy S typed → GroupWithin S counts.regs defs_from m words

abbrev pub OperationClear : Bytes → Place → Counts → (typed : List ℕ) → Result OperationLine Breach → Type 0
OperationClear s place counts typed (Ok r) = InPlace s place r.next × GroupsWithin counts typed r.operands r.n r.m
OperationClear s place counts typed (Err breach) = Unit {0}

abbrev pub SafepointClear : Bytes → Place → (slots : ℕ) → Result SafepointLine Breach → Type 0
SafepointClear s place slots (Ok r) = InPlace s place r.next × SafepointWithin slots r.inst r.mask
SafepointClear s place slots (Err breach) = Unit {0}
