-- What a report's text is read as: a report that is written of lines whose numbers have at most five digits is well formed. So
-- whatever is answered to a sheet that is read, under either rule, is a well-formed report. And the text `N b` is one of its lines
-- exactly when no allocation is missing and no walk comes to block b.
use Rattle.std.proofs.Math.Path.{◌≡◌, sym, subst}
use Rattle.std.specs.Prelude.{refl, true, false, cond, not, ◌↔◌, ℕ, suc, ◌+◌, eqb, length}
use Rattle.std.proofs.Common.{ap, ◌∙◌, true≢false, add-zero, eq-eqb, ne_eqb}
use mathlib.Core.List.{List, [], ◌∷◌, ◌++◌, append_assoc, append-nil, nil≢cons}
use Rattle.std.proofs.Math.Option.{Option, none, some}
use native.Mathlib.Omega.{arith}
use Rattle.lists.specs.Split.{by_test, and_left, and_right}
use Rattle.paper.specs.Text.{Bytes, tab, line_feed, parts, onto_first, fields, is_digit, all_digits, number_of, digits, digit_from, Name, real, virtual, name_text}
use Rattle.paper.specs.Steps.{Fault, missing_allocation_for_reg, unknown_value_in_reg, incorrect_value_in_reg, unknown_value_in_slot, incorrect_value_in_slot, stack_map_specifies_non_ref_slot, stack_map_specifies_undefined_slot}
use Rattle.paper.specs.Sheet.{Sheet}
use Rattle.paper.specs.Refusals.{next, ended, any, empty, loaded, read}
use Rattle.paper.specs.Report.{Line, Entry, fault_entry, unreached_entry, entries, faults_in, kind_of, reg_text, slot_text, fault_fields, behind_tabs, line_text, unreached_text, entry_text, lines_text, rule_text, header_text, report_text, letter_E, letter_N, letter_R}
use Rattle.paper.specs.Answer.{said_by, said_of, said_after, answer, written}
use Rattle.paper.specs.Walks.{In, here, there}
use Rattle.paper.specs.declared.Rule.{Rule}
use Rattle.paper.specs.declared.Rule.TheVariants.{Old, House}
use Rattle.paper.specs.Comparison.{given, same_text, a_number, a_name, lettered, fits, fault_shape, fault_shapes, fault_shaped, unreached_shaped, past, a_rule, count_of, pieces, bad_from, bad_behind, bad_first, bad_line}
use Rattle.fields.specs.Fields.{ends_field, name_made}
use Rattle.fields.specs.Spelling.{number, digit_range, number_of_digits, name_of_text}
use Rattle.fields.specs.Told.{unbroken}
use Rattle.walks.specs.Choices.{some_inj, in_nil}
use Rattle.walks.proofs.Unreached.{Unwalked}
use Rattle.walks.specs.Small.{Small, SmallName, SmallReg, SmallFault, SmallLine, SmallEntries, SmallReport}
use Rattle.walks.proofs.Theorems.{read_reported, ReadSheet, read_sheet}
use Rattle.compare.specs.Pieces.{pieces_none, pieces_feed, pieces_more, pieces_some, not_empty}

-- fields without a tab or a line feed

unbroken_digits : (f : Bytes) → all_digits f ≡ true → unbroken f ≡ true
unfolding unbroken all_digits ends_field
unbroken_digits [] e = refl
unbroken_digits (b ∷ bs) e =
    let r = digit_range b (and_left _ _ e) in
    rw (ne_eqb b 9 (omega arith), ne_eqb b 10 (omega arith)) (unbroken_digits bs (and_right (is_digit b) (all_digits bs) e))

plain_number : (v : ℕ) → Small v → unbroken (digits v) ≡ true
plain_number v h = unbroken_digits (digits v) (number (number_of_digits v h)).all

plain_name : (n : Name) → SmallName n → unbroken (name_text n) ≡ true
unfolding unbroken name_text ends_field
plain_name (real n) h = plain_number n h
plain_name (virtual n) h = plain_number n h

plain_reg : (r : Option ℕ) → SmallReg r → unbroken (reg_text r) ≡ true
unfolding unbroken reg_text ends_field
plain_reg (some r) h = plain_number r h
plain_reg none h = absurd h

plain_slot : (k : ℕ) → Small k → unbroken (slot_text k) ≡ true
unfolding unbroken slot_text ends_field
plain_slot k h = plain_number k h

unfoldable Plain : List Bytes → Type 0
Plain [] = Unit {0}
Plain (f ∷ fs) = (unbroken f ≡ true) × Plain fs

-- the fields behind a letter, each behind a tab
unfoldable row : List Bytes → Bytes
row [] = []
row (f ∷ fs) = tab ∷ (f ++ row fs)

row_closed : (fs : List Bytes) (rest : Bytes) → behind_tabs fs ++ rest ≡ row fs ++ (line_feed ∷ rest)
unfolding behind_tabs row
row_closed [] rest = refl
row_closed (f ∷ fs) rest = ap (λ (t : Bytes). tab ∷ t) (append_assoc f (behind_tabs fs) rest ∙ ap (λ (t : Bytes). f ++ t) (row_closed fs rest) ∙ sym (append_assoc f (row fs) (line_feed ∷ rest)))

no_tab : (b : ℕ) (bs : Bytes) → unbroken (b ∷ bs) ≡ true → eqb b tab ≡ false
unfolding unbroken ends_field
no_tab b bs e = by_test (eqb b tab) (λ y. absurd (true≢false (sym e ∙ rw y))) λ y. y

no_feed : (b : ℕ) (bs : Bytes) → unbroken (b ∷ bs) ≡ true → eqb b line_feed ≡ false
unfolding unbroken ends_field
no_feed b bs e =
    by_test (eqb b line_feed)
    (λ y. absurd (by_test (eqb b tab) (λ x. true≢false (sym e ∙ rw x)) λ x. true≢false (sym e ∙ rw (x, y))))
    λ y. y

tail_plain : (b : ℕ) (bs : Bytes) → unbroken (b ∷ bs) ≡ true → unbroken bs ≡ true
unfolding unbroken
tail_plain b bs e = and_right (not (ends_field b)) (unbroken bs) e

-- a row is parted into its fields

field_onto : (f rest : Bytes) (gs : List Bytes) → unbroken f ≡ true → fields rest ≡ [] ∷ gs → fields (f ++ rest) ≡ f ∷ gs
unfolding fields parts onto_first
field_onto [] rest gs e q = q
field_onto (b ∷ bs) rest gs e q = rw (no_tab b bs e, field_onto bs rest gs (tail_plain b bs e) q)

row_behind : (fs : List Bytes) → Plain fs → fields (row fs) ≡ [] ∷ fs
unfolding fields parts row Plain
row_behind [] p = refl
row_behind (g ∷ gs) p = ap (λ (t : List Bytes). [] ∷ t) (field_onto g (row gs) gs p.0 (row_behind gs p.1))

row_fields : (f : Bytes) (fs : List Bytes) → unbroken f ≡ true → Plain fs → fields (f ++ row fs) ≡ f ∷ fs
row_fields f fs e p = field_onto f (row fs) fs e (row_behind fs p)

-- and is one piece of the text

piece_onto : (f rest : Bytes) (r : Bytes) (ps : List Bytes) → unbroken f ≡ true → pieces rest ≡ r ∷ ps → pieces (f ++ rest) ≡ (f ++ r) ∷ ps
unfolding onto_first
piece_onto [] rest r ps e q = q
piece_onto (b ∷ bs) rest r ps e q = pieces_more b (bs ++ rest) (no_feed b bs e) ∙ rw (piece_onto bs rest r ps (tail_plain b bs e) q)

row_piece : (fs : List Bytes) (rest : Bytes) → Plain fs → pieces (row fs ++ (line_feed ∷ rest)) ≡ row fs ∷ pieces rest
unfolding row Plain onto_first
row_piece [] rest p = pieces_feed line_feed rest refl
row_piece (g ∷ gs) rest p =
    pieces_more tab ((g ++ row gs) ++ (line_feed ∷ rest)) refl
    ∙ rw (append_assoc g (row gs) (line_feed ∷ rest), piece_onto g (row gs ++ (line_feed ∷ rest)) (row gs) (pieces rest) p.0 (row_piece gs rest p.1))

piece_of : (f : Bytes) (fs : List Bytes) (rest : Bytes) → unbroken f ≡ true → Plain fs → pieces ((f ++ row fs) ++ (line_feed ∷ rest)) ≡ (f ++ row fs) ∷ pieces rest
piece_of f fs rest e p =
    rw (append_assoc f (row fs) (line_feed ∷ rest)) (piece_onto f (row fs ++ (line_feed ∷ rest)) (row fs) (pieces rest) e (row_piece fs rest p))

-- each field has its shape

read_number : (v : ℕ) → Small v → a_number (digits v) ≡ true
unfolding a_number given
read_number v h = rw (number_of_digits v h)

read_name : (n : Name) → SmallName n → a_name (name_text n) ≡ true
unfolding a_name given name_made
read_name (real n) h = rw (name_of_text true n h)
read_name (virtual n) h = rw (name_of_text false n h)

read_reg : (r : Option ℕ) → SmallReg r → lettered 114 (reg_text r) ≡ true
unfolding lettered reg_text
read_reg (some r) h = read_number r h
read_reg none h = absurd h

read_slot : (k : ℕ) → Small k → lettered 115 (slot_text k) ≡ true
unfolding lettered slot_text
read_slot k h = read_number k h

-- the kinds' digits
kind_digits : (digits 1 ≡ 49 ∷ []) × (digits 2 ≡ 50 ∷ []) × (digits 3 ≡ 51 ∷ []) × (digits 4 ≡ 52 ∷ []) × (digits 5 ≡ 53 ∷ []) × (digits 6 ≡ 54 ∷ []) × (digits 7 ≡ 55 ∷ [])
unfolding digits digit_from
kind_digits = (refl, refl, refl, refl, refl, refl, refl)

abbrev behind_letter : ℕ → ℕ → ℕ → Fault → List Bytes
behind_letter block place inst fault = digits block ∷ digits place ∷ digits inst ∷ digits (kind_of fault) ∷ fault_fields fault

plain_fields : (f : Fault) → SmallFault f → Plain (fault_fields f)
unfolding Plain fault_fields unbroken ends_field
plain_fields (missing_allocation_for_reg n) h = (refl, (plain_name n h, (refl, (tt))))
plain_fields (unknown_value_in_reg r) h = (plain_reg r h, (refl, (refl, (tt))))
plain_fields (incorrect_value_in_reg r e a) h = (plain_reg r h.0, (plain_name e h.1, (plain_name a h.2, (tt))))
plain_fields (unknown_value_in_slot k e) h = (plain_slot k h.0, (plain_name e h.1, (refl, (tt))))
plain_fields (incorrect_value_in_slot k e a) h = (plain_slot k h.0, (plain_name e h.1, (plain_name a h.2, (tt))))
plain_fields (stack_map_specifies_non_ref_slot k) h = (plain_slot k h, (refl, (refl, (tt))))
plain_fields (stack_map_specifies_undefined_slot k) h = (plain_slot k h, (refl, (refl, (tt))))

small_kind : (f : Fault) → Small (kind_of f)
unfolding kind_of
small_kind (missing_allocation_for_reg n) = omega arith
small_kind (unknown_value_in_reg r) = omega arith
small_kind (incorrect_value_in_reg r e a) = omega arith
small_kind (unknown_value_in_slot k e) = omega arith
small_kind (incorrect_value_in_slot k e a) = omega arith
small_kind (stack_map_specifies_non_ref_slot k) = omega arith
small_kind (stack_map_specifies_undefined_slot k) = omega arith

module _ (block place inst : ℕ) (hb : Small block) (hp : Small place) (hi : Small inst) where
  shapes_fit : (f : Fault) → SmallFault f → any (λ shapes. fits shapes ((letter_E ∷ []) ∷ behind_letter block place inst f)) fault_shapes ≡ true
  unfolding any fault_shapes fault_shape fits same_text fault_fields kind_of empty
  shapes_fit (missing_allocation_for_reg n) h =
      rw (read_number block hb, read_number place hp, read_number inst hi, kind_digits.0, read_name n h)
  shapes_fit (unknown_value_in_reg r) h =
      rw (read_number block hb, read_number place hp, read_number inst hi, kind_digits.0, kind_digits.1, read_reg r h)
  shapes_fit (incorrect_value_in_reg r e a) h =
      rw (read_number block hb, read_number place hp, read_number inst hi, kind_digits.0, kind_digits.1, kind_digits.2, read_reg r h.0, read_name e h.1, read_name a h.2)
  shapes_fit (unknown_value_in_slot k e) h =
      rw (read_number block hb, read_number place hp, read_number inst hi, kind_digits.0, kind_digits.1, kind_digits.2, kind_digits.3, read_slot k h.0, read_name e h.1)
  shapes_fit (incorrect_value_in_slot k e a) h =
      rw (read_number block hb, read_number place hp, read_number inst hi, kind_digits.0, kind_digits.1, kind_digits.2, kind_digits.3, kind_digits.4, read_slot k h.0, read_name e h.1, read_name a h.2)
  shapes_fit (stack_map_specifies_non_ref_slot k) h =
      rw (read_number block hb, read_number place hp, read_number inst hi, kind_digits.0, kind_digits.1, kind_digits.2, kind_digits.3, kind_digits.4, kind_digits.5, read_slot k h)
  shapes_fit (stack_map_specifies_undefined_slot k) h =
      rw (read_number block hb, read_number place hp, read_number inst hi, kind_digits.0, kind_digits.1, kind_digits.2, kind_digits.3, kind_digits.4, kind_digits.5, kind_digits.6, read_slot k h)

-- a line

abbrev row_of : Line → Bytes
row_of l = (letter_E ∷ []) ++ row (behind_letter l.block l.place l.inst l.fault)

line_plain : (l : Line) → SmallLine l → Plain (behind_letter l.block l.place l.inst l.fault)
unfolding Plain
line_plain l h = (plain_number l.block h.block, (plain_number l.place h.place, (plain_number l.inst h.inst, (plain_number (kind_of l.fault) (small_kind l.fault), (plain_fields l.fault h.fault)))))

plain_E : unbroken (letter_E ∷ []) ≡ true
unfolding unbroken ends_field
plain_E = refl

line_shaped : (l : Line) → SmallLine l → fault_shaped (row_of l) ≡ true
unfolding fault_shaped
line_shaped l h =
    rw (row_fields (letter_E ∷ []) (behind_letter l.block l.place l.inst l.fault) plain_E (line_plain l h))
    (shapes_fit l.block l.place l.inst h.block h.place h.inst l.fault h.fault)

line_piece : (l : Line) (rest : Bytes) → SmallLine l → pieces (line_text l ++ rest) ≡ row_of l ∷ pieces rest
unfolding line_text
line_piece l rest h =
    ap (λ (t : Bytes). pieces (letter_E ∷ t)) (row_closed (behind_letter l.block l.place l.inst l.fault) rest)
    ∙ piece_of (letter_E ∷ []) (behind_letter l.block l.place l.inst l.fault) rest plain_E (line_plain l h)

-- the line of an unreached block

abbrev unreached_row : ℕ → Bytes
unreached_row block = (letter_N ∷ []) ++ row (digits block ∷ [])

plain_N : unbroken (letter_N ∷ []) ≡ true
unfolding unbroken ends_field
plain_N = refl

unreached_plain : (block : ℕ) → Small block → Plain (digits block ∷ [])
unfolding Plain
unreached_plain block h = (plain_number block h, (tt))

unreached_fields : (block : ℕ) → Small block → fields (unreached_row block) ≡ (letter_N ∷ []) ∷ digits block ∷ []
unreached_fields block h = row_fields (letter_N ∷ []) (digits block ∷ []) plain_N (unreached_plain block h)

unreached_no_fault : (block : ℕ) → Small block → fault_shaped (unreached_row block) ≡ false
unfolding fault_shaped any fault_shapes fault_shape fits same_text
unreached_no_fault block h = rw (unreached_fields block h)

unreached_fits : (block : ℕ) → Small block → unreached_shaped (unreached_row block) ≡ true
unfolding unreached_shaped fits same_text empty
unreached_fits block h = rw (unreached_fields block h, read_number block h)

unreached_piece : (block : ℕ) (rest : Bytes) → Small block → pieces (unreached_text block ++ rest) ≡ unreached_row block ∷ pieces rest
unfolding unreached_text
unreached_piece block rest h =
    ap (λ (t : Bytes). pieces (letter_N ∷ t)) (row_closed (digits block ∷ []) rest)
    ∙ piece_of (letter_N ∷ []) (digits block ∷ []) rest plain_N (unreached_plain block h)

-- all lines

later_some : (es : List Entry) → empty (pieces (lines_text es)) ≡ false
later_some es = not_empty (pieces (lines_text es)) (pieces_some (lines_text es))

lines_judged : (count faults line : ℕ) (es : List Entry) → SmallEntries es
    → bad_from count faults line (pieces (lines_text es)) ≡ cond (eqb count (faults + length (faults_in es))) 0 1
unfolding lines_text entry_text SmallEntries faults_in bad_from empty
lines_judged count faults line [] h = rw (pieces_none, add-zero faults) ended_well
  where
    ended_well : bad_from count faults line ([] ∷ []) ≡ cond (eqb count faults) 0 1
    ended_well = refl
lines_judged count faults line (fault_entry l ∷ es) h =
    let q : faults + suc (length (faults_in es)) ≡ suc faults + length (faults_in es) = omega arith in
    rw (line_piece l (lines_text es) h.0, later_some es, line_shaped l h.0, lines_judged count (suc faults) (suc line) es h.1, q)
lines_judged count faults line (unreached_entry b ∷ es) h =
    rw (
      unreached_piece b (lines_text es) h.0,
      later_some es,
      unreached_no_fault b h.0,
      unreached_fits b h.0,
      lines_judged count faults (suc line) es h.1,
    )

-- the header

plain_rule : (rule : Rule) → unbroken (rule_text rule) ≡ true
unfolding unbroken rule_text ends_field
plain_rule Old = refl
plain_rule House = refl

plain_R : unbroken (letter_R ∷ []) ≡ true
unfolding unbroken ends_field
plain_R = refl

header_plain : (rule : Rule) (n : ℕ) → Small n → Plain (rule_text rule ∷ digits n ∷ [])
unfolding Plain
header_plain rule n h = (plain_rule rule, (plain_number n h, (tt)))

header_counts : (rule : Rule) (n : ℕ) → Small n → count_of ((letter_R ∷ []) ∷ rule_text rule ∷ digits n ∷ []) ≡ some n
unfolding count_of past same_text a_rule rule_text next ended
header_counts Old n h = rw (number_of_digits n h)
header_counts House n h = rw (number_of_digits n h)

-- the header, and the lines behind it
report_pieces : (rule : Rule) (es : List Entry) → Small (length (faults_in es))
    → pieces (report_text rule es) ≡ ((letter_R ∷ []) ++ row (rule_text rule ∷ digits (length (faults_in es)) ∷ [])) ∷ pieces (lines_text es)
unfolding report_text header_text
report_pieces rule es few =
    let fs : List Bytes = rule_text rule ∷ digits (length (faults_in es)) ∷ [] in
    rw (row_closed fs (lines_text es), piece_of (letter_R ∷ []) fs (lines_text es) plain_R (header_plain rule (length (faults_in es)) few))

-- whatever is written of such lines, under either rule, is well formed
pub written_well : (rule : Rule) (es : List Entry) → SmallEntries es → Small (length (faults_in es)) → bad_line (report_text rule es) ≡ 0
unfolding bad_line bad_first bad_behind
written_well rule es h few =
    let count : ℕ = length (faults_in es) in
    let fs : List Bytes = rule_text rule ∷ digits count ∷ [] in
    rw (
      report_pieces rule es few,
      later_some es,
      row_fields (letter_R ∷ []) fs plain_R (header_plain rule count few),
      header_counts rule count few,
      lines_judged count 0 2 es h,
      eq-eqb count (0 + count) (omega arith),
    )

-- what is written of a sheet that is read is the report of its lines
said_text : (rule : Rule) (es : List Entry) → written (said_of rule es) ≡ report_text rule es
unfolding said_of said_by written
said_text rule es = at (faults_in es)
  where
    at : (ls : List Line) → written (said_by ls (report_text rule es)) ≡ report_text rule es
    at [] = refl
    at (l ∷ ls) = refl

pub answer_text : (rule : Rule) (bytes : Bytes) (S : Sheet) → read bytes ≡ loaded S → written (answer rule bytes) ≡ report_text rule (entries rule S)
unfolding answer said_after
answer_text rule bytes S e = rw (e, said_text rule (entries rule S))

-- under either rule, and it is well formed
pub report_well_formed : (rule : Rule) (bytes : Bytes) (S : Sheet) → read bytes ≡ loaded S → bad_line (written (answer rule bytes)) ≡ 0
report_well_formed rule bytes S e =
    let r = read_reported rule bytes S e in
    rw (answer_text rule bytes S e) (written_well rule (entries rule S) r.lines r.count)

-- Document 02, A5: the line `N b` among the report's lines

-- its text, without LF
unfoldable pub unreached_line : ℕ → Bytes
unreached_line b = letter_N ∷ tab ∷ digits b

line_is : (b : ℕ) → unreached_row b ≡ unreached_line b
unfolding unreached_line row
line_is b = ap (λ (t : Bytes). letter_N ∷ tab ∷ t) (append-nil (digits b))

-- one number's digits are no other's
digits_once : (b c : ℕ) → Small b → Small c → unreached_line b ≡ unreached_line c → b ≡ c
unfolding unreached_line
digits_once b c hb hc e =
    let d : digits b ≡ digits c = cc in
    some_inj (number_of_digits b hb) (ap number_of d ∙ number_of_digits c hc)

module _ (b : ℕ) (hb : Small b) where
  line_entry : (es : List Entry) → SmallEntries es → In (unreached_line b) (pieces (lines_text es)) → In (unreached_entry b) es
  unfolding lines_text entry_text SmallEntries unreached_line row
  line_entry [] h i = none_there (subst (In (unreached_line b)) pieces_none i)
    where
      none_there : In (unreached_line b) ([] ∷ []) → In (unreached_entry b) []
      none_there (here e) = absurd (nil≢cons (sym e))
      none_there (there j) = absurd (in_nil j)
  line_entry (fault_entry l ∷ es) h i = behind (subst (In (unreached_line b)) (line_piece l (lines_text es) h.0) i) (line_entry es h.1)
    where
      behind : In (unreached_line b) (row_of l ∷ pieces (lines_text es)) → (In (unreached_line b) (pieces (lines_text es)) → In (unreached_entry b) es)
          → In (unreached_entry b) (fault_entry l ∷ es)
      behind (here e) rec = let z : ◌≡◌ {A = ℕ} letter_N letter_E = cc in absurd (omega arith)
      behind (there j) rec = there (rec j)
  line_entry (unreached_entry c ∷ es) h i = behind (subst (In (unreached_line b)) (unreached_piece c (lines_text es) h.0) i) (line_entry es h.1)
    where
      behind : In (unreached_line b) (unreached_row c ∷ pieces (lines_text es)) → (In (unreached_line b) (pieces (lines_text es)) → In (unreached_entry b) es)
          → In (unreached_entry b) (unreached_entry c ∷ es)
      behind (here e) rec = here (ap unreached_entry (digits_once b c hb h.0 (e ∙ line_is c)))
      behind (there j) rec = there (rec j)

  entry_line : (es : List Entry) → SmallEntries es → In (unreached_entry b) es → In (unreached_line b) (pieces (lines_text es))
  unfolding lines_text entry_text SmallEntries
  entry_line [] h i = absurd (in_nil i)
  entry_line (fault_entry l ∷ es) h (here e) = let z : ◌≡◌ {A = ℕ} 0 1 = cc in absurd (omega arith)
  entry_line (fault_entry l ∷ es) h (there i) = subst (In (unreached_line b)) (sym (line_piece l (lines_text es) h.0)) (there (entry_line es h.1 i))
  entry_line (unreached_entry c ∷ es) h (here e) =
      let same : b ≡ c = cc in
      subst (In (unreached_line b)) (sym (unreached_piece c (lines_text es) h.0)) (here (ap unreached_line same ∙ sym (line_is c)))
  entry_line (unreached_entry c ∷ es) h (there i) =
      subst (In (unreached_line b)) (sym (unreached_piece c (lines_text es) h.0)) (there (entry_line es h.1 i))

  -- it is no header
  no_header : (fs : List Bytes) → unreached_line b ≡ (letter_R ∷ []) ++ row fs → ⊥
  unfolding unreached_line
  no_header fs e = let z : ◌≡◌ {A = ℕ} letter_N letter_R = cc in omega arith

  -- of what is answered to a sheet that is read: it stands there exactly when no allocation is missing, b is a block, and no walk comes
  pub named_exactly : (bytes : Bytes) (S : Sheet) → read bytes ≡ loaded S
      → In (unreached_line b) (pieces (written (answer House bytes))) ↔ Unwalked S b
  named_exactly bytes S e = (
    λ i. (known.unreached b).0 (line_entry es r.lines (behind_header (subst (In (unreached_line b)) whole i))),
    λ u. subst (In (unreached_line b)) (sym whole) (there (entry_line es r.lines ((known.unreached b).1 u))),
  )
    where
      es : List Entry
      es = entries House S

      r : SmallReport es
      r = read_reported House bytes S e

      known : ReadSheet S
      known = read_sheet bytes S e

      header : List Bytes
      header = rule_text House ∷ digits (length (faults_in es)) ∷ []

      whole : pieces (written (answer House bytes)) ≡ ((letter_R ∷ []) ++ row header) ∷ pieces (lines_text es)
      whole = ap pieces (answer_text House bytes S e) ∙ report_pieces House es r.count

      behind_header : In (unreached_line b) (((letter_R ∷ []) ++ row header) ∷ pieces (lines_text es)) → In (unreached_line b) (pieces (lines_text es))
      behind_header (here q) = absurd (no_header header q)
      behind_header (there j) = j
