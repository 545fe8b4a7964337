-- What is written of a record whose numbers have at most five digits is one line, and is read as that record or, with a ninth
-- successor, not at all.
use Rattle.std.specs.Prelude.{◌≡◌, refl, Bool, true, false, cond, List, [], ◌∷◌, ◌++◌, map, ℕ, ◌<◌, eqb, leb, length}
use Rattle.std.proofs.Common.{ap, ◌∙◌, append-nil, arith, ne_eqb}
use Rattle.std.proofs.Math.Option.{Option, none, some}
use Rattle.lists.specs.Split.{and_left, and_right}
use Rattle.lists.specs.Regions.{All}
use Rattle.paper.specs.Text.{Bytes, hyphen, lines, fields, is_digit, all_digits, digits, Name, real, virtual, name_of, name_text, parts}
use Rattle.paper.specs.Sheet.{Operand, Step, spill, reload, move, change, operation, safepoint, Sheet}
use Rattle.paper.specs.Limits.{max_succs}
use Rattle.paper.specs.Refusals.{Record, function_record, typed_record, block_record, step_record, next, ended, one_byte, numbers_of, function_of, typed_of, block_of, two_numbers_of, change_of, allocation_of, operands_of, counted_operands_of, operation_of, safepoint_of, by_letter, record_of}
use Rattle.paper.specs.Writing.{allocation_text, operand_texts, letter_of, texts_of, record_text, records_text, records_of}
use Rattle.fields.specs.Fields.{ends_field, name_made}
use Rattle.fields.specs.Spelling.{number, digit_range, number_of_digits, name_of_text}
use Rattle.fields.specs.Told.{unbroken}
use Rattle.spelling.specs.Parted.{row, Plain, row_fields, first_line}

-- five digits are enough

abbrev pub Short : ℕ → Type 0
Short v = v < 100000

abbrev pub ShortName : Name → Type 0
ShortName (real n) = Short n
ShortName (virtual n) = Short n

abbrev pub ShortRegister : Option ℕ → Type 0
ShortRegister none = Unit {0}
ShortRegister (some r) = Short r

pub record ShortOperand (u : Operand) : Type 0 where
  pub name : ShortName u.name
  pub reg : ShortRegister u.reg

unfoldable pub ShortOperands : List Operand → Type 0
ShortOperands [] = Unit {0}
ShortOperands (u ∷ us) = ShortOperand u × ShortOperands us

pub record ShortGroup (us : List Operand) : Type 0 where
  pub count : Short (length us)
  pub operands : ShortOperands us

abbrev pub ShortStep : Step → Type 0
ShortStep (spill k r) = Short k × Short r
ShortStep (reload r k) = Short r × Short k
ShortStep (move into from) = Short into × Short from
ShortStep (change inst k from to) = Short inst × Short k × ShortName from × ShortName to
ShortStep (operation inst uses defs) = Short inst × ShortGroup uses × ShortGroup defs
ShortStep (safepoint inst slots) = Short inst × All Short slots

abbrev pub ShortRecord : Record → Type 0
ShortRecord (function_record regs slots vregs blocks entry) = Short regs × Short slots × Short vregs × Short blocks × Short entry
ShortRecord (typed_record n) = Short n
ShortRecord (block_record succs) = All Short succs
ShortRecord (step_record x) = ShortStep x

unfoldable pub ShortRecords : List Record → Type 0
ShortRecords [] = Unit {0}
ShortRecords (r ∷ rs) = ShortRecord r × ShortRecords rs

abbrev pub ShortSheet : Sheet → Type 0
ShortSheet S = ShortRecords (records_of S)

-- fields without a tab or a line feed

unbroken_digits : (f : Bytes) → all_digits f ≡ true → unbroken f ≡ true
unfolding unbroken all_digits ends_field
unbroken_digits [] e = refl
unbroken_digits (b ∷ bs) e =
    let r = digit_range b (and_left _ _ e) in
    rw (ne_eqb b 9 (omega arith), ne_eqb b 10 (omega arith)) (unbroken_digits bs (and_right (is_digit b) (all_digits bs) e))

plain_number : (v : ℕ) → Short v → unbroken (digits v) ≡ true
plain_number v h = unbroken_digits (digits v) (number (number_of_digits v h)).all

plain_name : (n : Name) → ShortName n → unbroken (name_text n) ≡ true
unfolding unbroken name_text ends_field
plain_name (real n) h = plain_number n h
plain_name (virtual n) h = plain_number n h

plain_register : (r : Option ℕ) → ShortRegister r → unbroken (allocation_text r) ≡ true
unfolding unbroken allocation_text ends_field
plain_register none h = refl
plain_register (some r) h = plain_number r h

plain_numbers : (ns : List ℕ) → All Short ns → Plain (map digits ns)
unfolding Plain All
plain_numbers [] h = tt
plain_numbers (n ∷ ns) h = (plain_number n h.0, plain_numbers ns h.1)

plain_operands : (us : List Operand) (more : List Bytes) → ShortOperands us → Plain more → Plain (operand_texts us ++ more)
unfolding Plain operand_texts ShortOperands
plain_operands [] more h p = p
plain_operands (u ∷ us) more h p =
    (plain_name u.name h.0.name, (plain_register u.reg h.0.reg, plain_operands us more h.1 p))

plain_texts : (r : Record) → ShortRecord r → Plain (texts_of r)
unfolding Plain texts_of
plain_texts (function_record a b c d e) h =
    (plain_number a h.0, (plain_number b h.1, (plain_number c h.2, (plain_number d h.3, (plain_number e h.4, tt)))))
plain_texts (typed_record n) h = (plain_number n h, tt)
plain_texts (block_record succs) h = plain_numbers succs h
plain_texts (step_record (spill k r)) h = (plain_number k h.0, (plain_number r h.1, tt))
plain_texts (step_record (reload r k)) h = (plain_number r h.0, (plain_number k h.1, tt))
plain_texts (step_record (move into from)) h = (plain_number into h.0, (plain_number from h.1, tt))
plain_texts (step_record (change inst k from to)) h =
    (plain_number inst h.0, (plain_number k h.1, (plain_name from h.2, (plain_name to h.3, tt))))
plain_texts (step_record (operation inst uses defs)) h =
    let behind : Plain (operand_texts defs) = rw append-nil at (plain_operands defs [] h.2.operands tt) in
    let more : Plain (digits (length defs) ∷ operand_texts defs) = (plain_number (length defs) h.2.count, behind) in
    (plain_number inst h.0, (plain_number (length uses) h.1.count, plain_operands uses _ h.1.operands more))
plain_texts (step_record (safepoint inst slots)) h = (plain_number inst h.0, plain_numbers slots h.1)

plain_letter : (r : Record) → unbroken (letter_of r ∷ []) ≡ true
unfolding unbroken letter_of ends_field
plain_letter (function_record a b c d e) = refl
plain_letter (typed_record n) = refl
plain_letter (block_record succs) = refl
plain_letter (step_record (spill k r)) = refl
plain_letter (step_record (reload r k)) = refl
plain_letter (step_record (move into from)) = refl
plain_letter (step_record (change inst k from to)) = refl
plain_letter (step_record (operation inst uses defs)) = refl
plain_letter (step_record (safepoint inst slots)) = refl

-- the lines of what is written

unfoldable pub line_of : Record → Bytes
line_of r = letter_of r ∷ row (texts_of r)

pub lines_written : (rs : List Record) → ShortRecords rs → lines (records_text rs) ≡ map line_of rs
unfolding records_text record_text line_of ShortRecords lines parts
lines_written [] h = refl
lines_written (r ∷ rs) h =
    first_line (letter_of r ∷ []) (texts_of r) (records_text rs) (plain_letter r) (plain_texts r h.0)
    ∙ ap (λ (ls : List Bytes). (letter_of r ∷ row (texts_of r)) ∷ ls) (lines_written rs h.1)

fields_written : (r : Record) → ShortRecord r → fields (line_of r) ≡ (letter_of r ∷ []) ∷ texts_of r
unfolding line_of
fields_written r h = row_fields (letter_of r ∷ []) (texts_of r) (plain_letter r) (plain_texts r h)

-- and what they are read as

read_name : (n : Name) → ShortName n → name_of (name_text n) ≡ some n
unfolding name_made
read_name (real n) h = name_of_text true n h
read_name (virtual n) h = name_of_text false n h

not_hyphen : (f : Bytes) → all_digits f ≡ true → eqb (one_byte f) hyphen ≡ false
unfolding one_byte all_digits
not_hyphen [] e = refl
not_hyphen (x ∷ []) e = let r = digit_range x (and_left _ _ e) in ne_eqb x hyphen (omega arith)
not_hyphen (x ∷ y ∷ f) e = refl

read_register : (r : Option ℕ) → ShortRegister r → allocation_of (allocation_text r) ≡ some r
unfolding allocation_of allocation_text one_byte
read_register none h = refl
read_register (some r) h = rw (not_hyphen (digits r) (number (number_of_digits r h)).all, number_of_digits r h)

read_numbers : (ns : List ℕ) → All Short ns → numbers_of (map digits ns) ≡ some ns
unfolding numbers_of All
read_numbers [] h = refl
read_numbers (n ∷ ns) h = rw (number_of_digits n h.0, read_numbers ns h.1)

read_operands : (us : List Operand) (more : List Bytes) → ShortOperands us
    → operands_of (length us) (operand_texts us ++ more) ≡ some (record { value = us; rest = more })
unfolding operands_of operand_texts next ShortOperands
read_operands [] more h = refl
read_operands (u ∷ us) more h = rw (read_name u.name h.0.name, read_register u.reg h.0.reg, read_operands us more h.1)

read_group : (us : List Operand) (more : List Bytes) → ShortGroup us
    → counted_operands_of (digits (length us) ∷ (operand_texts us ++ more)) ≡ some (record { value = us; rest = more })
unfolding counted_operands_of next
read_group us more h = rw (number_of_digits (length us) h.count, read_operands us more h.operands)

-- a record, where there is one
abbrev Again : Record → Option Record → Type 0
Again r none = Unit {0}
Again r (some q) = q ≡ r

block_again : (ns : List ℕ) (b : Bool) → Again (block_record ns) (cond b (some (block_record ns)) none)
block_again ns true = refl
block_again ns false = tt

record_again : (r : Record) → ShortRecord r → Again r (record_of ((letter_of r ∷ []) ∷ texts_of r))
unfolding record_of by_letter one_byte letter_of texts_of function_of typed_of block_of two_numbers_of change_of operation_of safepoint_of next ended
record_again (function_record a b c d e) h =
    rw (number_of_digits a h.0, number_of_digits b h.1, number_of_digits c h.2, number_of_digits d h.3, number_of_digits e h.4) refl
record_again (typed_record n) h = rw (number_of_digits n h) refl
record_again (block_record succs) h = rw (read_numbers succs h) (block_again succs (leb (length succs) max_succs))
record_again (step_record (spill k r)) h = rw (number_of_digits k h.0, number_of_digits r h.1) refl
record_again (step_record (reload r k)) h = rw (number_of_digits r h.0, number_of_digits k h.1) refl
record_again (step_record (move into from)) h = rw (number_of_digits into h.0, number_of_digits from h.1) refl
record_again (step_record (change inst k from to)) h =
    rw (number_of_digits inst h.0, number_of_digits k h.1, read_name from h.2, read_name to h.3) refl
record_again (step_record (operation inst uses defs)) h =
    let behind : counted_operands_of (digits (length defs) ∷ operand_texts defs) ≡ some (record { value = defs; rest = [] }) =
    rw append-nil at (read_group defs [] h.2) in
    rw (number_of_digits inst h.0, read_group uses (digits (length defs) ∷ operand_texts defs) h.1, behind) refl
record_again (step_record (safepoint inst slots)) h = rw (number_of_digits inst h.0, read_numbers slots h.1) refl

-- a line that was written of a record says that record, or none
pub line_again : (r q : Record) → ShortRecord r → record_of (fields (line_of r)) ≡ some q → q ≡ r
line_again r q h e =
    let o : record_of ((letter_of r ∷ []) ∷ texts_of r) ≡ some q = rw (fields_written r h) at e in
    rw o at (record_again r h)
