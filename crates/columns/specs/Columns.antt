-- What the search for a field tells of each part of a line: a field that passes comes with its value and the place behind it, and
-- behind any other no field is counted.
use Rattle.std.specs.Prelude.{◌≡◌, Bool, true, ◌&&◌, List, ℕ, ◌+◌, ◌-◌, ◌≤◌, ◌<◌, length, get_or, Some, None, Ok, Err}
use Rattle.std.specs.declared.option.Option as read
use Rattle.std.specs.declared.result.Result.{Result}
use Rattle.std.proofs.Math.Option.{Option, some}
use Rattle.paper.specs.Text.{Bytes, line_feed, number_of, Name, name_of}
use Rattle.paper.specs.Sheet.{Operand, Sheet}
use Rattle.paper.specs.Limits.{max_sheet}
use Rattle.paper.specs.Refusals.{one_byte, allocation_of, operands_of, passing, within, name_within, reg_within, same_name, same_reg, new_name, new_reg, at_home, group_passing}
use Rattle.fields.specs.Fields.{field_at, fields_behind}
use Rattle.records.specs.Records.{Behind, Next, name_of_code, register_of_code}
use Rattle.records.specs.Parts.{counted}
use Rattle.loaded.specs.declared.Counts.{Counts}
use Rattle.columns.specs.declared.Code.{Code}
use Rattle.columns.specs.declared.Code.TheVariants as held
use Rattle.columns.specs.declared.Group.{Group}

-- a line of a sheet's text, and its letter
pub record Opening (s : Bytes) (at letter : ℕ) : Type 0 where
  pub inside : at < length s
  pub last : get_or s (length s - 1) 0 ≡ line_feed
  pub size : length s ≤ max_sheet
  pub is_letter : letter ≡ one_byte (field_at s at)

-- the field behind `at` does not pass: whatever follows is not counted
pub record Shown {A : Type 0} (read : Bytes → Option A) (test : A → Bool) (s : Bytes) (at : ℕ) : Type 0 where
  pub stops : (more : A → List Bytes → ℕ) → passing read test (fields_behind s at) more ≡ 0

-- it says `value` and passes
pub record Passed {A : Type 0} (read : Bytes → Option A) (test : A → Bool) (s : Bytes) (at : ℕ) (value : A) (after : ℕ) : Type 0 where
  pub field : Next read s at value after
  pub passes : test value ≡ true

abbrev pub NumberPassing : (number limit : ℕ) → Bytes → ℕ → read.Option (ℕ × ℕ) → Type 0
NumberPassing number limit s at None = Shown number_of (within number limit) s at
NumberPassing number limit s at (Some x) = Passed number_of (within number limit) s at x.0 x.1 × (x.0 < 100000)

abbrev pub NamePassing : ℕ → Sheet → Bytes → ℕ → read.Option (ℕ × ℕ) → Type 0
NamePassing number S s at None = Shown name_of (name_within number S) s at
NamePassing number S s at (Some x) = Passed name_of (name_within number S) s at (name_of_code x.0) x.1

-- operands

-- the first `count` operands behind `at`
pub record Earlier (s : Bytes) (at count : ℕ) (us : List Operand) : Type 0 where
  pub rest : List Bytes
  pub says : operands_of count (fields_behind s at) ≡ some (record { value = us; rest = rest })

-- has an operand this name, or this register?
unfoldable pub shares : Code → Operand → Bool
shares (held.Name c) = same_name (name_of_code c)
shares (held.Register c) = same_reg (register_of_code c)

abbrev pub name_test : (number : ℕ) → Counts → List Operand → Name → Bool
name_test number counts us = λ name. name_within number (counted counts) name && new_name number us name

abbrev pub register_test : (number : ℕ) → Counts → (defs : Bool) → List Operand → Name → Option ℕ → Bool
register_test number counts defs us name = λ reg.
    reg_within number (counted counts) reg
    && (new_reg number defs us reg && at_home number name reg)

abbrev pub OperandName : (number : ℕ) → Counts → List Operand → Bytes → ℕ → read.Option (ℕ × ℕ) → Type 0
OperandName number counts us s at None = Shown name_of (name_test number counts us) s at
OperandName number counts us s at (Some x) = Passed name_of (name_test number counts us) s at (name_of_code x.0) x.1

abbrev pub OperandRegister : (number : ℕ) → Counts → (defs : Bool) → List Operand → (name : ℕ) → Bytes → ℕ → read.Option (ℕ × ℕ) → Type 0
OperandRegister number counts defs us name s at None = Shown allocation_of (register_test number counts defs us (name_of_code name)) s at
OperandRegister number counts defs us name s at (Some x) = Passed allocation_of (register_test number counts defs us (name_of_code name)) s at (register_of_code x.0) x.1

-- a group that passes is counted, and what follows it; of any other as many as pass
pub record GroupPassed (number : ℕ) (counts : Counts) (defs : Bool) (s : Bytes) (at count after : ℕ) : Type 0 where
  pub goes_on : (more : List Bytes → ℕ)
      → group_passing number (counted counts) defs (fields_behind s at) more ≡ count + more (fields_behind s after)
  pub behind : Behind s after
  pub few : count ≤ 200000

pub record GroupShown (number : ℕ) (counts : Counts) (defs : Bool) (s : Bytes) (at count : ℕ) : Type 0 where
  pub stops : (more : List Bytes → ℕ) → group_passing number (counted counts) defs (fields_behind s at) more ≡ count
  pub few : count ≤ 200000

abbrev pub GroupPassing : (number : ℕ) → Counts → (defs : Bool) → Bytes → ℕ → Result Group ℕ → Type 0
GroupPassing number counts defs s at (Ok g) = GroupPassed number counts defs s at g.count g.next
GroupPassing number counts defs s at (Err count) = GroupShown number counts defs s at count
