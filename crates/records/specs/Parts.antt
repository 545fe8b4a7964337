-- What the functions behind the lines tell: of lists of numbers, of groups of operands and the words they are packed in, of slots,
-- and of the fields of a `C`.
use Rattle.std.specs.Prelude.{◌≡◌, Bool, false, cond, not, ◌&&◌, ◌||◌, List, [], ◌∷◌, ℕ, zero, suc, ◌+◌, ◌-◌, ◌*◌, ◌^◌, ◌≤◌, ◌<◌, eqb, leb, ltb, length, get_or, take, Some, None, Ok, Err}
use Rattle.std.specs.Prelude as prelude
use Rattle.std.specs.declared.option.Option as read
use Rattle.std.specs.declared.result.Result.{Result}
use Rattle.std.proofs.Math.Option.{Option, none, some, map}
use Rattle.paper.specs.Text.{Bytes, number_of}
use Rattle.paper.specs.Sheet.{Operand, change, Sheet}
use Rattle.paper.specs.Limits.{max_succs, max_operands, max_inst}
use Rattle.paper.specs.Refusals.{step_record, Read, ◌>>=◌, next, ended, numbers_of, operands_of, counted_operands_of, change_of, any, ascending, operand_beyond}
use Rattle.fields.specs.Fields.{line_end, fields_behind}
use Rattle.lists.specs.Bits.{set_bits}
use Rattle.loaded.specs.declared.Counts.{Counts}
use Rattle.records.specs.declared.Place.{Place}
use Rattle.records.specs.declared.Breach.{Breach}
use Rattle.records.specs.declared.Numbers.{Numbers}
use Rattle.records.specs.declared.Change.{Change}
use Rattle.records.specs.declared.OperandCodes.{OperandCodes}
use Rattle.records.specs.declared.Operands.{Operands}
use Rattle.records.specs.declared.Listed.{Listed}
use Rattle.records.specs.Records.{Behind, Ends, name_of_code, register_of_code}

-- a sheet of which only the counts are known
abbrev pub counted : Counts → Sheet
counted counts =
    record { regs = counts.regs; slots = counts.slots; vregs = counts.vregs; blocks = counts.blocks; entry = 0; typed = []; body = [] }

-- lists of numbers

-- the numbers of the fields, where there are at most 8
unfoldable pub few_numbers : List Bytes → Option (List ℕ)
few_numbers fs = numbers_of fs >>= λ ns. cond (leb (length ns) max_succs) (some ns) none

-- the first `count` of the values are the numbers behind `at`, to the line's end
pub record NumbersKept (s : Bytes) (at : ℕ) (r : Numbers) : Type 0 where
  pub says : few_numbers (fields_behind s at) ≡ some (take r.count r.values)
  pub room : length r.values ≡ max_succs
  pub few : r.count ≤ max_succs
  pub ends : Ends s at r.next

abbrev pub NumbersRead : Bytes → ℕ → read.Option Numbers → Type 0
NumbersRead s at (Some r) = NumbersKept s at r
NumbersRead s at None = few_numbers (fields_behind s at) ≡ none

-- the numbers of the fields, where there are `n` and no more
unfoldable pub exactly : ℕ → List Bytes → Option (List ℕ)
exactly zero fs = ended fs []
exactly (suc n) fs = next number_of fs >>= λ x. map (λ ns. x.value ∷ ns) (exactly n x.rest)

pub record ExactlyKept (s : Bytes) (at n : ℕ) (r : Numbers) : Type 0 where
  pub says : exactly n (fields_behind s at) ≡ some (take n r.values)
  pub room : length r.values ≡ max_succs
  pub ends : Ends s at r.next

abbrev pub ExactlyRead : Bytes → (at n : ℕ) → read.Option Numbers → Type 0
ExactlyRead s at n (Some r) = ExactlyKept s at n r
ExactlyRead s at n None = exactly n (fields_behind s at) ≡ none

-- operands

abbrev pub operand_of_codes : ℕ → ℕ → Operand
operand_of_codes n r = record { name = name_of_code n; reg = register_of_code r }

abbrev pub name_code : OperandCodes → ℕ
name_code c = c.name

abbrev pub register_code : OperandCodes → ℕ
register_code c = c.register

abbrev pub operand_meant : OperandCodes → Operand
operand_meant c = operand_of_codes c.name c.register

-- what stands for a place past the end of a group
abbrev pub no_codes : OperandCodes
no_codes = record { name = 0; register = 0 }

abbrev pub put_first : Operand → Read (List Operand) → Read (List Operand)
put_first u more = record { value = u ∷ more.value; rest = more.rest }

-- the next two fields are an operand
pub record NextOperand (s : Bytes) (at : ℕ) (u : Operand) (after : ℕ) : Type 0 where
  pub says : (n : ℕ) → operands_of (suc n) (fields_behind s at) ≡ map (put_first u) (operands_of n (fields_behind s after))
  pub behind : Behind s after
  pub further : at < after
  pub line : line_end s after ≡ line_end s at

abbrev pub OperandBehind : Bytes → ℕ → read.Option (OperandCodes × ℕ) → Type 0
OperandBehind s at None = (n : ℕ) → operands_of (suc n) (fields_behind s at) ≡ none
OperandBehind s at (Some x) = NextOperand s at (operand_meant x.0) x.1 × (x.0.name < 200000)

-- the operands that a group holds: all, where there are at most 8
unfoldable pub held : Operands → List Operand
held g = prelude.map operand_meant (take g.count g.operands)

pub record Roomy (g : Operands) : Type 0 where
  pub room : length g.operands ≡ max_operands

-- the group is of these operands, and holds the first 8
pub record OperandsKept (us : List Operand) (g : Operands) : Type 0 where
  pub counted : length us ≡ g.count
  pub kept : take max_operands us ≡ held g
  pub small : (k : ℕ) → (get_or g.operands k no_codes).name < 200000
  pub room : Roomy g

-- `n (name reg)*n` behind `at`
pub record GroupRead (s : Bytes) (at : ℕ) (g : Operands) (after : ℕ) : Type 0 where
  pub operands : List Operand
  pub says : counted_operands_of (fields_behind s at) ≡ some (record { value = operands; rest = fields_behind s after })
  pub kept : OperandsKept operands g
  pub behind : Behind s after
  pub line : line_end s after ≡ line_end s at

abbrev pub OperandsRead : Bytes → ℕ → read.Option (Operands × ℕ) → Type 0
OperandsRead s at (Some x) = GroupRead s at x.0 x.1
OperandsRead s at None = counted_operands_of (fields_behind s at) ≡ none

-- 5 for a group: more than 8 operands, or one beyond its limit
unfoldable pub group_over : Counts → Operands → Bool
group_over counts g = ltb max_operands g.count || any (operand_beyond (counted counts)) (held g)

-- an operation that breaks nothing is in place, and each of its groups within its limits
pub record Unbroken (counts : Counts) (place : Place) (inst : ℕ) (uses defs : Operands) : Type 0 where
  pub placed : place.misplaced ≡ false
  pub room : place.surplus ≡ false
  pub inst_most : inst ≤ max_inst
  pub uses_within : group_over counts uses ≡ false
  pub defs_within : group_over counts defs ≡ false

abbrev pub OperationWithin : Counts → Place → ℕ → Operands → Operands → Result (Unit {0}) Breach → Type 0
OperationWithin counts place inst uses defs (Ok passes) = Unbroken counts place inst uses defs
OperationWithin counts place inst uses defs (Err breach) = Unit {0}

-- those of the numbers that are below the limit
unfoldable pub below : ℕ → List ℕ → List ℕ
below limit [] = []
below limit (c ∷ cs) = cond (ltb c limit) (c ∷ below limit cs) (below limit cs)

-- packed words

unfoldable pub name_word : ℕ → ℕ
name_word c = cond (ltb c 100000) c (c - 100000 + 256)

unfoldable pub register_word : ℕ → ℕ
register_word c = cond (ltb c 100000) c 63

-- is it the code of a virtual name that the words list?
unfoldable pub is_typed : List ℕ → ℕ → Bool
is_typed typed c = ltb c 256 && not (eqb (get_or typed c 0) 0)

unfoldable pub mark_word : List ℕ → ℕ → ℕ
mark_word typed c = cond (is_typed typed c) 512 0

unfoldable pub word : List ℕ → OperandCodes → ℕ
word typed c = register_word c.register * 1024 + mark_word typed c.name + name_word c.name

-- the codes of a name and an allocation within the largest counts
pub record Small (c : OperandCodes) : Type 0 where
  pub name_small : name_word c.name < 512
  pub virtual_small : c.name < 100000 → c.name < 256
  pub register_small : register_word c.register < 64

-- slots

-- the least number that keeps the list ascending
unfoldable pub least_behind : ℕ → List ℕ → ℕ
least_behind least [] = least
least_behind least (n ∷ ns) = least_behind (suc n) ns

-- what is told of slots: is one beyond the limit; if not, are they out of order; if not, the mask of them
pub record Listing (slots : ℕ) (done : List ℕ) (l : Listed) : Type 0 where
  pub beyond_told : l.beyond ≡ any (leb slots) done
  pub room : l.mask < 2 ^ l.least
  pub most : l.least ≤ slots
  pub order : l.beyond ≡ false → l.disorder ≡ not (ascending done)
  pub next_least : l.beyond ≡ false → l.disorder ≡ false → l.least ≡ least_behind 0 done
  pub bits : l.beyond ≡ false → l.disorder ≡ false → set_bits l.mask ≡ done

-- the numbers behind `at` to the line's end, as slots
pub record SlotsListed (s : Bytes) (at slots after : ℕ) (l : Listed) : Type 0 where
  pub listed_slots : List ℕ
  pub says : numbers_of (fields_behind s at) ≡ some listed_slots
  pub listing : Listing slots listed_slots l
  pub ends : Ends s at after

abbrev pub SlotsRead : Bytes → ℕ → ℕ → read.Option (Listed × ℕ) → Type 0
SlotsRead s at slots (Some x) = SlotsListed s at slots x.1 x.0
SlotsRead s at slots None = numbers_of (fields_behind s at) ≡ none

-- `C`'s fields behind `at`
pub record ChangeKept (s : Bytes) (at : ℕ) (r : Change) : Type 0 where
  pub says : change_of (fields_behind s at) ≡ some (step_record (change r.inst r.slot (name_of_code r.from) (name_of_code r.to)))
  pub ends : Ends s at r.next

abbrev pub ChangeRead : Bytes → ℕ → read.Option Change → Type 0
ChangeRead s at (Some r) = ChangeKept s at r
ChangeRead s at None = change_of (fields_behind s at) ≡ none
