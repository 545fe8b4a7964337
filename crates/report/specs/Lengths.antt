-- How long a header and a line are, part by part, and how long they can get.
use Rattle.std.specs.Prelude.{◌≡◌, refl, Some, None, List, [], ◌∷◌, ℕ, ◌+◌, ◌-◌, ◌%◌, ◌≤◌, ◌<◌, length}
use Rattle.std.proofs.Common.{arith, lt-ltb, le-ltb, length-append}
use Rattle.lists.specs.Split.{by_order}
use Rattle.fields.specs.Spelling.{length_one, length_two, length_three, length_four, length_digits}
use Rattle.paper.specs.Limits.{max_regs, max_slots, max_blocks, longest_fault_line, longest_header, longest_unreached_line}
use Rattle.paper.specs.Text.{Bytes, digits, name_text}
use Rattle.paper.specs.Report.{slot_text, behind_tabs, unreached_text, rule_text, header_text}
use Rattle.paper.specs.declared.Rule.{Rule}
use Rattle.paper.specs.declared.Rule.TheVariants.{Old, House}
use Rattle.cells.specs.Packed.{name_of_word}
use Rattle.report.specs.Lines.{field_text, field_texts, fields_line, PositionWithin}
use Rattle.report.specs.declared.Field.TheVariants.{Register, Slot, Named}
use Rattle.report.specs.declared.Position.{Position}
use Rattle.report.specs.declared.FaultFields.{FaultFields}

-- how long a text is, by its fields

pub behind : (f : Bytes) (fs : List Bytes) → length (behind_tabs (f ∷ fs)) ≡ 1 + length f + length (behind_tabs fs)
unfolding behind_tabs
behind f fs = rw length-append (omega arith)

pub behind_none : length (behind_tabs []) ≡ 1
unfolding behind_tabs
behind_none = refl

-- how long it can get

pub header_short : (rule : Rule) (count : ℕ) → length (header_text rule count) ≤ longest_header
unfolding header_text rule_text
header_short Old count = omega (arith, behind (rule_text Old) (digits count ∷ []), behind (digits count) [], behind_none, length_digits count)
header_short House count = omega (arith, behind (rule_text House) (digits count ∷ []), behind (digits count) [], behind_none, length_digits count)

pub name_short : (w : ℕ) → length (name_text (name_of_word w)) ≤ 4
unfolding name_text name_of_word
name_short w =
    by_order (w % 512) 256
    (λ h. rw (lt-ltb (w % 512) 256 h) (omega (arith, length_three (w % 512) (omega arith))))
    λ h. rw (le-ltb (w % 512) 256 h) (omega (arith, length_three (w % 512 - 256) (omega arith)))

-- a field of each kind
pub nothing_short : length (field_text None) ≡ 1
unfolding field_text
nothing_short = refl

pub register_short : (r : ℕ) → r < max_regs → length (field_text (Some (Register r))) ≤ 3
unfolding field_text
register_short r h = omega (arith, length_two r (omega arith))

pub slot_short : (k : ℕ) → k < max_slots → length (field_text (Some (Slot k))) ≤ 3
unfolding field_text slot_text
slot_short k h = omega (arith, length_two k (omega arith))

pub named_short : (w : ℕ) → length (field_text (Some (Named w))) ≤ 4
unfolding field_text
named_short w = name_short w

-- the fields that make a line long
pub record ShortFields (f : FaultFields) : Type 0 where
  pub kind : f.kind < 10
  pub location : length (field_text f.location) ≤ 3
  pub expected : length (field_text f.expected) ≤ 4
  pub actual : length (field_text f.actual) ≤ 4

-- "An E line may now take 33 bytes"
pub line_short : (p : Position) (f : FaultFields) → PositionWithin p → ShortFields f → length (fields_line p f) ≤ longest_fault_line
unfolding fields_line field_texts
line_short p f within s =
    let x = field_text f.location in
    let y = field_text f.expected in
    let z = field_text f.actual in
    omega (
      arith,
      behind (digits p.block) (digits p.place ∷ digits p.inst ∷ digits f.kind ∷ x ∷ y ∷ z ∷ []),
      behind (digits p.place) (digits p.inst ∷ digits f.kind ∷ x ∷ y ∷ z ∷ []),
      behind (digits p.inst) (digits f.kind ∷ x ∷ y ∷ z ∷ []),
      behind (digits f.kind) (x ∷ y ∷ z ∷ []),
      behind x (y ∷ z ∷ []),
      behind y (z ∷ []),
      behind z [],
      behind_none,
      length_three p.block (omega arith),
      length_four p.place (omega arith),
      length_digits p.inst,
      length_one f.kind s.kind,
      s,
    )

-- "an `N` line 6": six bytes for a block of three digits
pub unreached_length : (block : ℕ) → length (unreached_text block) ≡ 3 + length (digits block)
unfolding unreached_text
unreached_length block = omega (arith, behind (digits block) [], behind_none)

pub unreached_short : (block : ℕ) → block < max_blocks → length (unreached_text block) ≤ longest_unreached_line
unreached_short block h = omega (arith, unreached_length block, length_three block (omega arith))
