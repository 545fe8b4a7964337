-- Document 01, "When a sheet is turned away": each line's form, then a condition for each row of the table, then their order:
-- "First 1, then 2 (both with line 0), then the first bad line; in a line the lowest number. Lines count from 1."
use Rattle.std.specs.Prelude.{Bool, true, false, cond, not, ◌&&◌, ◌||◌, List, [], ◌∷◌, ◌++◌, map, ℕ, suc, zero, ◌+◌, ◌-◌, eqb, leb, ltb, length, get_or, take}
use Rattle.std.specs.Bool.{beq}
use mathlib.Core.HLevel.{Discrete}
use Rattle.std.proofs.Math.Option
use Rattle.std.proofs.Math.Option.{Option, none, some}
use Rattle.std.proofs.Math.Decide.{ℕ_discrete}
use Rattle.paper.specs.Text.{Bytes, line_feed, hyphen, lines, fields, number_of, Name, real, virtual, name_same, name_of}
use Rattle.paper.specs.Sheet.{Operand, Step, spill, reload, move, change, operation, safepoint, Block, Sheet, reference_typed}
use Rattle.paper.specs.Cells.{pick}
use Rattle.paper.specs.Limits.{max_regs, max_slots, max_vregs, max_blocks, max_succs, max_operands, max_inst, max_steps, max_sheet}
use Rattle.paper.specs.declared.Refusal.{Refusal}

-- what one line says
pub data Record : Type 0 where
  function_record : (regs slots vregs blocks entry : ℕ) → Record
  typed_record : ℕ → Record
  block_record : (succs : List ℕ) → Record
  step_record : Step → Record

-- a value read from the first fields of a line, and the fields behind it
pub record Read (A : Type 0) : Type 0 where
  pub value : A
  pub rest : List Bytes

infixl 40 ◌>>=◌
abbrev pub ◌>>=◌ : {A B : Type 0} → Option A → (A → Option B) → Option B
◌>>=◌ none f = none
◌>>=◌ (some a) f = f a

-- the next field, read by f; none where no field is left
unfoldable pub next : {A : Type 0} → (Bytes → Option A) → List Bytes → Option (Read A)
next f [] = none
next f (field ∷ rest) = Option.map (λ a. record { value = a; rest = rest }) (f field)

-- a, where no field is left
unfoldable pub ended : {A : Type 0} → List Bytes → A → Option A
ended [] a = some a
ended (field ∷ rest) a = none

-- the one byte of a field; 0 for any other field
unfoldable pub one_byte : Bytes → ℕ
one_byte [] = 0
one_byte (b ∷ []) = b
one_byte (b ∷ c ∷ bs) = 0

-- all fields that are left, each a number
unfoldable pub numbers_of : List Bytes → Option (List ℕ)
numbers_of [] = some []
numbers_of (field ∷ rest) = number_of field >>= λ n. Option.map (λ ns. n ∷ ns) (numbers_of rest)

-- `F regs slots vregs blocks entry`
unfoldable pub function_of : List Bytes → Option Record
function_of fs = do
  regs ← next number_of fs
  slots ← next number_of regs.rest
  vregs ← next number_of slots.rest
  blocks ← next number_of vregs.rest
  entry ← next number_of blocks.rest
  ended entry.rest (function_record regs.value slots.value vregs.value blocks.value entry.value)

-- `T n`
unfoldable pub typed_of : List Bytes → Option Record
typed_of fs = do
  n ← next number_of fs
  ended n.rest (typed_record n.value)

-- `B succ..`; "a ninth successor" is one field too many
unfoldable pub block_of : List Bytes → Option Record
block_of fs = do
  succs ← numbers_of fs
  cond (leb (length succs) max_succs) (some (block_record succs)) none

-- `S slot reg`, `L reg slot`, `M into from`
unfoldable pub two_numbers_of : (ℕ → ℕ → Step) → List Bytes → Option Record
two_numbers_of step fs = do
  a ← next number_of fs
  b ← next number_of a.rest
  ended b.rest (step_record (step a.value b.value))

-- `C inst slot from to`
unfoldable pub change_of : List Bytes → Option Record
change_of fs = do
  inst ← next number_of fs
  slot ← next number_of inst.rest
  from ← next name_of slot.rest
  to ← next name_of from.rest
  ended to.rest (step_record (change inst.value slot.value from.value to.value))

-- a register's number, or `-` for none
unfoldable pub allocation_of : Bytes → Option (Option ℕ)
allocation_of field = cond (eqb (one_byte field) hyphen) (some none) (Option.map some (number_of field))

-- `(name reg)*n`
unfoldable pub operands_of : ℕ → List Bytes → Option (Read (List Operand))
operands_of zero fs = some (record { value = []; rest = fs })
operands_of (suc n) fs = do
  name ← next name_of fs
  reg ← next allocation_of name.rest
  more ← operands_of n reg.rest
  some (record { value = record { name = name.value; reg = reg.value } ∷ more.value; rest = more.rest })

-- `n (name reg)*n`
unfoldable pub counted_operands_of : List Bytes → Option (Read (List Operand))
counted_operands_of fs = do
  n ← next number_of fs
  operands_of n.value n.rest

-- `O inst n (name reg)*n m (name reg)*m`
unfoldable pub operation_of : List Bytes → Option Record
operation_of fs = do
  inst ← next number_of fs
  uses ← counted_operands_of inst.rest
  defs ← counted_operands_of uses.rest
  ended defs.rest (step_record (operation inst.value uses.value defs.value))

-- `P inst slot..`
unfoldable pub safepoint_of : List Bytes → Option Record
safepoint_of fs = do
  inst ← next number_of fs
  slots ← numbers_of inst.rest
  some (step_record (safepoint inst.value slots))

unfoldable pub by_letter : ℕ → List Bytes → Option Record
by_letter letter fs =
    -- F T B S L M C O P
    cond (eqb letter 70) (function_of fs)
    (cond (eqb letter 84) (typed_of fs)
    (cond (eqb letter 66) (block_of fs)
    (cond (eqb letter 83) (two_numbers_of spill fs)
    (cond (eqb letter 76) (two_numbers_of reload fs)
    (cond (eqb letter 77) (two_numbers_of move fs)
    (cond (eqb letter 67) (change_of fs)
    (cond (eqb letter 79) (operation_of fs)
    (cond (eqb letter 80) (safepoint_of fs) none))))))))

-- 3: "empty line, unknown letter, ill-formed number or name, wrong number of fields": none
unfoldable pub record_of : List Bytes → Option Record
record_of [] = none
record_of (letter ∷ fs) = by_letter (one_byte letter) fs

-- a test that one element of the list meets
unfoldable pub any : {A : Type 0} → (A → Bool) → List A → Bool
any test [] = false
any test (x ∷ xs) = test x || any test xs

unfoldable pub empty : {A : Type 0} → List A → Bool
empty [] = true
empty (x ∷ xs) = false

-- 4: "record out of place: no `F` first, a second `F`, `T` after `B`, a step before `B`, a `B` too many". Of the sheet so far,
-- none before its `F`.
unfoldable pub out_of_place : Option Sheet → Record → Bool
out_of_place none (function_record regs slots vregs blocks entry) = false
out_of_place none (typed_record n) = true
out_of_place none (block_record succs) = true
out_of_place none (step_record x) = true
out_of_place (some S) (function_record regs slots vregs blocks entry) = true
out_of_place (some S) (typed_record n) = not (empty S.body)
out_of_place (some S) (block_record succs) = leb S.blocks (length S.body)
out_of_place (some S) (step_record x) = empty S.body

-- 5: "a value beyond its limit, n and m above 8 included"
unfoldable pub name_beyond : Sheet → Name → Bool
name_beyond S (real n) = leb S.regs n
name_beyond S (virtual n) = leb S.vregs n

unfoldable pub reg_beyond : Sheet → Option ℕ → Bool
reg_beyond S none = false
reg_beyond S (some r) = leb S.regs r

unfoldable pub operand_beyond : Sheet → Operand → Bool
operand_beyond S u = name_beyond S u.name || reg_beyond S u.reg

unfoldable pub step_beyond : Sheet → Step → Bool
step_beyond S (spill k r) = leb S.slots k || leb S.regs r
step_beyond S (reload r k) = leb S.regs r || leb S.slots k
step_beyond S (move into from) = leb S.regs into || leb S.regs from
step_beyond S (change inst k from to) = ltb max_inst inst || (leb S.slots k || (name_beyond S from || name_beyond S to))
step_beyond S (operation inst uses defs) =
    ltb max_inst inst
    || (ltb max_operands (length uses) || (any (operand_beyond S) uses || (ltb max_operands (length defs) || any (operand_beyond S) defs)))
step_beyond S (safepoint inst slots) = ltb max_inst inst || any (leb S.slots) slots

unfoldable pub beyond_limit : Sheet → Record → Bool
beyond_limit S (function_record regs slots vregs blocks entry) =
    ltb max_regs regs || (ltb max_slots slots || (ltb max_vregs vregs || (ltb max_blocks blocks || (eqb blocks 0 || leb blocks entry))))
beyond_limit S (typed_record n) = leb S.vregs n
beyond_limit S (block_record succs) = any (leb S.blocks) succs
beyond_limit S (step_record x) = step_beyond S x

-- 6: "`T` or `P` not ascending; in one `O`, two uses with the same name, or two defs with the same name or the same register
-- (`-` is no register)"
unfoldable pub ascending_from : ℕ → List ℕ → Bool
ascending_from least [] = true
ascending_from least (n ∷ ns) = leb least n && ascending_from (suc n) ns

-- each larger than the one before
unfoldable pub ascending : List ℕ → Bool
ascending ns = ascending_from 0 ns

unfoldable pub repeats : {A : Type 0} → Discrete A → List A → Bool
repeats same [] = false
repeats same (x ∷ xs) = any (λ y. pick (same x y) true false) xs || repeats same xs

unfoldable pub names : List Operand → List Name
names us = map (λ u. u.name) us

unfoldable pub allocated : List Operand → List ℕ
allocated [] = []
allocated (u ∷ us) = onto u.reg (allocated us)
  where
    onto : Option ℕ → List ℕ → List ℕ
    onto none rs = rs
    onto (some r) rs = r ∷ rs

unfoldable pub step_out_of_order : Step → Bool
step_out_of_order (spill k r) = false
step_out_of_order (reload r k) = false
step_out_of_order (move into from) = false
step_out_of_order (change inst k from to) = false
step_out_of_order (operation inst uses defs) = repeats name_same (names uses) || (repeats name_same (names defs) || repeats ℕ_discrete (allocated defs))
step_out_of_order (safepoint inst slots) = not (ascending slots)

unfoldable pub out_of_order : Sheet → Record → Bool
out_of_order S (function_record regs slots vregs blocks entry) = false
out_of_order S (typed_record n) = not (ascending (S.typed ++ (n ∷ [])))
out_of_order S (block_record succs) = false
out_of_order S (step_record x) = step_out_of_order x

-- 7: "real name mapped to another register or to `-`"
unfoldable pub is_reg : ℕ → Option ℕ → Bool
is_reg n none = false
is_reg n (some r) = eqb r n

unfoldable pub elsewhere : Name → Option ℕ → Bool
elsewhere (real n) reg = not (is_reg n reg)
elsewhere (virtual n) reg = false

unfoldable pub real_elsewhere : Record → Bool
real_elsewhere (function_record regs slots vregs blocks entry) = false
real_elsewhere (typed_record n) = false
real_elsewhere (block_record succs) = false
real_elsewhere (step_record (spill k r)) = false
real_elsewhere (step_record (reload r k)) = false
real_elsewhere (step_record (move into from)) = false
real_elsewhere (step_record (change inst k from to)) = false
real_elsewhere (step_record (operation inst uses defs)) = any (λ u. elsewhere u.name u.reg) uses || any (λ u. elsewhere u.name u.reg) defs
real_elsewhere (step_record (safepoint inst slots)) = false

-- 8: "`C` whose names differ in being reference-typed"
unfoldable pub types_differ : Sheet → Record → Bool
types_differ S (function_record regs slots vregs blocks entry) = false
types_differ S (typed_record n) = false
types_differ S (block_record succs) = false
types_differ S (step_record (spill k r)) = false
types_differ S (step_record (reload r k)) = false
types_differ S (step_record (move into from)) = false
types_differ S (step_record (change inst k from to)) = not (beq (reference_typed S from) (reference_typed S to))
types_differ S (step_record (operation inst uses defs)) = false
types_differ S (step_record (safepoint inst slots)) = false

-- 9: "the 1,025th step"
unfoldable pub step_count : List Block → ℕ
step_count [] = 0
step_count (B ∷ Bs) = length B.steps + step_count Bs

unfoldable pub step_too_many : Sheet → Record → Bool
step_too_many S (function_record regs slots vregs blocks entry) = false
step_too_many S (typed_record n) = false
step_too_many S (block_record succs) = false
step_too_many S (step_record x) = leb max_steps (step_count S.body)

-- a sheet before its `F`: no count, no name, no block
abbrev pub blank : Sheet
blank = record { regs = 0; slots = 0; vregs = 0; blocks = 0; entry = 0; typed = []; body = [] }

abbrev pub so_far_of : Option Sheet → Sheet
so_far_of none = blank
so_far_of (some S) = S

-- a refusal's number and whether its condition holds
pub record Condition : Type 0 where
  pub number : ℕ
  pub holds : Bool

unfoldable pub first_holding : List Condition → Option ℕ
first_holding [] = none
first_holding (c ∷ cs) = cond c.holds (some c.number) (first_holding cs)

-- "in a line the lowest number": the conditions on a well-formed line, in order
unfoldable pub conditions : Option Sheet → Record → List Condition
conditions so_far r =
    let S = so_far_of so_far in
    record { number = 4; holds = out_of_place so_far r }
    ∷ record { number = 5; holds = beyond_limit S r }
    ∷ record { number = 6; holds = out_of_order S r }
    ∷ record { number = 7; holds = real_elsewhere r }
    ∷ record { number = 8; holds = types_differ S r }
    ∷ record { number = 9; holds = step_too_many S r }
    ∷ []

-- Document 02, A4: "Every refusal of kinds 3 and 5 to 8 now also names the field, the letter being 1, that is the first to show the
-- fault; for a wrong number of fields, the first one missing or too many; for a fault between two fields, the later. Other refusals
-- give field 0." Below, `number` is the refusal's: fields are counted as long as each, beside those before it, shows nothing of it.

-- one more than what follows, where the next field is read and passes the test; else 0: it is missing, or it shows the fault
unfoldable pub onward : {A : Type 0} → (A → Bool) → (A → List Bytes → ℕ) → Option (Read A) → ℕ
onward test more none = 0
onward test more (some x) = cond (test x.value) (suc (more x.value x.rest)) 0

unfoldable pub passing : {A : Type 0} → (Bytes → Option A) → (A → Bool) → List Bytes → (A → List Bytes → ℕ) → ℕ
passing read test fs more = onward test more (next read fs)

-- 5 holds a value against its limit
unfoldable pub within : (number limit : ℕ) → ℕ → Bool
within number limit n = cond (eqb number 5) (ltb n limit) true

unfoldable pub name_within : ℕ → Sheet → Name → Bool
name_within number S name = cond (eqb number 5) (not (name_beyond S name)) true

unfoldable pub reg_within : ℕ → Sheet → Option ℕ → Bool
reg_within number S reg = cond (eqb number 5) (not (reg_beyond S reg)) true

-- 6: a slot is held against the one before it
unfoldable pub rising : (number least : ℕ) → ℕ → Bool
rising number least n = cond (eqb number 6) (leb least n) true

-- 6: an operand's name is held against those before it, and a def's register too (`-` is no register)
unfoldable pub same_name : Name → Operand → Bool
same_name name u = pick (name_same u.name name) true false

unfoldable pub same_reg : Option ℕ → Operand → Bool
same_reg none u = false
same_reg (some r) u = is_reg r u.reg

unfoldable pub new_name : ℕ → List Operand → Name → Bool
new_name number earlier name = cond (eqb number 6) (not (any (same_name name) earlier)) true

unfoldable pub new_reg : (number : ℕ) (defs : Bool) → List Operand → Option ℕ → Bool
new_reg number defs earlier reg = cond (eqb number 6 && defs) (not (any (same_reg reg) earlier)) true

-- 7: a register is held against its name
unfoldable pub at_home : ℕ → Name → Option ℕ → Bool
at_home number name reg = cond (eqb number 7) (not (elsewhere name reg)) true

-- all fields that are left, each a number; of slots, `least` is the least that may come next
unfoldable pub numbers_passing : (number limit least : ℕ) → List Bytes → ℕ
numbers_passing number limit least [] = 0
numbers_passing number limit least (field ∷ fs) =
    passing number_of (λ n. within number limit n && rising number least n) (field ∷ fs) λ n rest. numbers_passing number limit (suc n) fs

-- `F regs slots vregs blocks entry`
unfoldable pub function_passing : ℕ → List Bytes → ℕ
function_passing number fs =
    passing number_of (within number (suc max_regs)) fs λ regs fs.
    passing number_of (within number (suc max_slots)) fs λ slots fs.
    passing number_of (within number (suc max_vregs)) fs λ vregs fs.
    passing number_of (λ blocks. within number (suc max_blocks) blocks && within number blocks 0) fs λ blocks fs.
    passing number_of (within number blocks) fs λ entry fs. 0

-- `T n`: out of order it is its number that shows it
unfoldable pub typed_passing : ℕ → Sheet → List Bytes → ℕ
typed_passing number S fs = passing number_of (λ n. within number S.vregs n && not (eqb number 6)) fs λ n fs. 0

-- `B succ..`
unfoldable pub block_passing : ℕ → Sheet → List Bytes → ℕ
block_passing number S fs = numbers_passing number S.blocks 0 (take max_succs fs)

-- `S slot reg`, `L reg slot`, `M into from`, each number with its limit
unfoldable pub pair_passing : (number first second : ℕ) → List Bytes → ℕ
pair_passing number first second fs = passing number_of (within number first) fs λ a fs. passing number_of (within number second) fs λ b fs. 0

-- `C inst slot from to`: 8 is a fault between the two names
unfoldable pub change_passing : ℕ → Sheet → List Bytes → ℕ
change_passing number S fs =
    passing number_of (within number (suc max_inst)) fs λ inst fs.
    passing number_of (within number S.slots) fs λ slot fs.
    passing name_of (name_within number S) fs λ from fs.
    passing name_of (λ to. name_within number S to && not (eqb number 8)) fs λ to fs. 0

-- `(name reg)*n`, and what follows it
unfoldable pub operands_passing : ℕ → Sheet → (defs : Bool) → ℕ → List Operand → List Bytes → (List Bytes → ℕ) → ℕ
operands_passing number S defs zero earlier fs more = more fs
operands_passing number S defs (suc n) earlier fs more =
    passing name_of (λ name. name_within number S name && new_name number earlier name) fs λ name fs.
    passing allocation_of (λ reg. reg_within number S reg && (new_reg number defs earlier reg && at_home number name reg)) fs λ reg fs.
    operands_passing number S defs n (earlier ++ (record { name = name; reg = reg } ∷ [])) fs more

-- `n (name reg)*n`
unfoldable pub group_passing : ℕ → Sheet → (defs : Bool) → List Bytes → (List Bytes → ℕ) → ℕ
group_passing number S defs fs more =
    passing number_of (within number (suc max_operands)) fs λ n fs. operands_passing number S defs n [] fs more

-- `O inst n (name reg)*n m (name reg)*m`
unfoldable pub operation_passing : ℕ → Sheet → List Bytes → ℕ
operation_passing number S fs =
    passing number_of (within number (suc max_inst)) fs λ inst fs.
    group_passing number S false fs λ fs.
    group_passing number S true fs λ fs. 0

-- `P inst slot..`
unfoldable pub safepoint_passing : ℕ → Sheet → List Bytes → ℕ
safepoint_passing number S fs =
    passing number_of (within number (suc max_inst)) fs λ inst fs. numbers_passing number S.slots 0 fs

-- the first field that does not pass, the letter being 1; an unknown letter shows it itself
unfoldable pub field_by_letter : ℕ → Sheet → ℕ → List Bytes → ℕ
field_by_letter number S letter fs =
    -- F T B S L M C O P
    cond (eqb letter 70) (2 + function_passing number fs)
    (cond (eqb letter 84) (2 + typed_passing number S fs)
    (cond (eqb letter 66) (2 + block_passing number S fs)
    (cond (eqb letter 83) (2 + pair_passing number S.slots S.regs fs)
    (cond (eqb letter 76) (2 + pair_passing number S.regs S.slots fs)
    (cond (eqb letter 77) (2 + pair_passing number S.regs S.regs fs)
    (cond (eqb letter 67) (2 + change_passing number S fs)
    (cond (eqb letter 79) (2 + operation_passing number S fs)
    (cond (eqb letter 80) (2 + safepoint_passing number S fs) 1))))))))

unfoldable pub field_shown : ℕ → Sheet → List Bytes → ℕ
field_shown number S [] = 1
field_shown number S (letter ∷ fs) = field_by_letter number S (one_byte letter) fs

-- "kinds 3 and 5 to 8"
unfoldable pub names_field : ℕ → Bool
names_field number = eqb number 3 || (leb 5 number && leb number 8)

-- "Other refusals give field 0."
unfoldable pub field_of : ℕ → Sheet → List Bytes → ℕ
field_of number S fs = cond (names_field number) (field_shown number S fs) 0

-- a step more at the end of the last block
unfoldable pub add_step : Step → List Block → List Block
add_step x [] = []
add_step x (B ∷ []) = record { succs = B.succs; steps = B.steps ++ (x ∷ []) } ∷ []
add_step x (B ∷ C ∷ Bs) = B ∷ add_step x (C ∷ Bs)

-- the sheet so far with one record more
unfoldable pub add_record : Sheet → Record → Sheet
add_record S (function_record regs slots vregs blocks entry) =
    record { regs = regs; slots = slots; vregs = vregs; blocks = blocks; entry = entry; typed = []; body = [] }
add_record S (typed_record n) =
    record { regs = S.regs; slots = S.slots; vregs = S.vregs; blocks = S.blocks; entry = S.entry; typed = S.typed ++ (n ∷ []); body = S.body }
add_record S (block_record succs) = record {
  regs = S.regs;
  slots = S.slots;
  vregs = S.vregs;
  blocks = S.blocks;
  entry = S.entry;
  typed = S.typed;
  body = S.body ++ (record { succs = succs; steps = [] } ∷ []);
}
add_record S (step_record x) =
    record { regs = S.regs; slots = S.slots; vregs = S.vregs; blocks = S.blocks; entry = S.entry; typed = S.typed; body = add_step x S.body }

-- what reading a sheet gives
pub data Reading : Type 0 where
  loaded : Sheet → Reading
  refused : Refusal → Reading

-- what one line makes of the sheet so far: refused, by a number, or one record more
pub data Lined : Type 0 where
  good : Sheet → Lined
  bad : ℕ → Lined

unfoldable pub judged : Option Sheet → Record → Option ℕ → Lined
judged so_far r none = good (add_record (so_far_of so_far) r)
judged so_far r (some number) = bad number

-- 3 is the lowest number that a line can have: its form comes before every other condition
unfoldable pub read_record : Option Sheet → Option Record → Lined
read_record so_far none = bad 3
read_record so_far (some r) = judged so_far r (first_holding (conditions so_far r))

unfoldable pub read_line : Option Sheet → Bytes → Lined
read_line so_far line = read_record so_far (record_of (fields line))

-- "or the sheet ends with too few `B` (line: last + 1)"
unfoldable pub read_end : ℕ → Option Sheet → Reading
read_end line none = refused (record { number = 4; line = line; field = 0 })
read_end line (some S) = cond (ltb (length S.body) S.blocks) (refused (record { number = 4; line = line; field = 0 })) (loaded S)

-- a bad line's refusal, with the field that its number names, or what follows a good one
unfoldable pub carry_on : ℕ → (ℕ → ℕ) → Lined → (Sheet → Reading) → Reading
carry_on line field (good S) more = more S
carry_on line field (bad number) more = refused (record { number = number; line = line; field = field number })

-- "then the first bad line"
unfoldable pub read_lines : ℕ → Option Sheet → List Bytes → Reading
read_lines line so_far [] = read_end line so_far
read_lines line so_far (l ∷ ls) =
    carry_on line (λ number. field_of number (so_far_of so_far) (fields l)) (read_line so_far l) (λ S. read_lines (suc line) (some S) ls)

-- 2: "sheet empty, too long, or its last byte is not LF"
unfoldable pub no_text : Bytes → Bool
no_text sheet = empty sheet || (ltb max_sheet (length sheet) || not (eqb (get_or sheet (length sheet - 1) 0) line_feed))

unfoldable pub read : Bytes → Reading
read sheet = cond (no_text sheet) (refused (record { number = 2; line = 0; field = 0 })) (read_lines 1 none (lines sheet))
