-- The fields of each error are those of the fault that it is, and make a line of at most 32 bytes.
use mathlib.Core.Path.{◌≡◌, refl, ap₂}
use mathlib.Core.List.{List, ◌∷◌}
use mathlib.Core.Option.{some}
use Prim.Native.Nat.{ℕ, ◌≤◌, ◌<◌}
use native.Mathlib.Omega.{arith}
use borrow.Author.Tests.{ne_eqb}
use lib.ListN.{length}
use Rattle.std.specs.Prelude.{Option, Some, None}
use Rattle.paper.specs.Limits.{max_regs, max_slots, longest_fault_line}
use Rattle.paper.specs.Text.{Bytes, digits}
use Rattle.paper.specs.Steps.{Fault, missing_allocation_for_reg}
use Rattle.paper.specs.Report.{behind_tabs, letter_E, kind_of, fault_fields, reg_text, line_text}
use Rattle.cells.specs.Packed.{name_of_word}
use Rattle.loaded.specs.Actions.{no_register, register_of}
use Rattle.steps.specs.Faults.{error_fault}
use Rattle.steps.specs.declared.CheckerError.TheVariants as error
use Rattle.report.specs.Lines.{field_text, field_texts, fields_line, PositionWithin}
use Rattle.report.specs.Lengths.{nothing_short, register_short, slot_short, named_short, ShortFields, line_short}
use Rattle.report.specs.declared.Field.{Field}
use Rattle.report.specs.declared.Field.TheVariants.{Register, Slot, Named}
use Rattle.report.specs.declared.Position.{Position}
use Rattle.report.specs.declared.FaultFields.{FaultFields}
use Rattle.faults.specs.Errors.{FieldsOf}

abbrev fields : ℕ → Option Field → Option Field → Option Field → FaultFields
fields kind location expected actual = record { kind = kind; location = location; expected = expected; actual = actual }

-- how long the fields are: with no name, with one, with two

module _ (kind : ℕ) (small : kind < 10) (location : Option Field) (short : length (field_text location) ≤ 3) where
  no_name : ShortFields (fields kind location None None)
  no_name = record { kind = small; location = short; expected = omega (arith, nothing_short); actual = omega (arith, nothing_short) }

  one_name : (w : ℕ) → ShortFields (fields kind location (Some (Named w)) None)
  one_name w = record { kind = small; location = short; expected = named_short w; actual = omega (arith, nothing_short) }

  two_names : (v w : ℕ) → ShortFields (fields kind location (Some (Named v)) (Some (Named w)))
  two_names v w = record { kind = small; location = short; expected = named_short v; actual = named_short w }

-- what they stand for

module _ (r : ℕ) (h : r < max_regs) where
  register_small : register_of r ≡ some r
  unfolding register_of
  register_small = rw (ne_eqb r no_register (λ e. omega arith))

  pub unknown_in_reg : FieldsOf (error_fault (error.UnknownValueInReg r)) (fields 2 (Some (Register r)) None None)
  unfolding error_fault kind_of fault_fields field_text field_texts reg_text
  unknown_in_reg = rw register_small (record { kind = refl; texts = refl; short = no_name 2 (omega arith) (Some (Register r)) (register_short r h) })

  pub incorrect_in_reg : (e a : ℕ) → FieldsOf (error_fault (error.IncorrectValueInReg r e a)) (fields 3 (Some (Register r)) (Some (Named e)) (Some (Named a)))
  unfolding error_fault kind_of fault_fields field_text field_texts reg_text
  incorrect_in_reg e a =
      rw register_small (record { kind = refl; texts = refl; short = two_names 3 (omega arith) (Some (Register r)) (register_short r h) e a })

module _ (k : ℕ) (h : k < max_slots) where
  pub unknown_in_slot : (e : ℕ) → FieldsOf (error_fault (error.UnknownValueInSlot k e)) (fields 4 (Some (Slot k)) (Some (Named e)) None)
  unfolding error_fault kind_of fault_fields field_text field_texts
  unknown_in_slot e = record { kind = refl; texts = refl; short = one_name 4 (omega arith) (Some (Slot k)) (slot_short k h) e }

  pub incorrect_in_slot : (e a : ℕ) → FieldsOf (error_fault (error.IncorrectValueInSlot k e a)) (fields 5 (Some (Slot k)) (Some (Named e)) (Some (Named a)))
  unfolding error_fault kind_of fault_fields field_text field_texts
  incorrect_in_slot e a = record { kind = refl; texts = refl; short = two_names 5 (omega arith) (Some (Slot k)) (slot_short k h) e a }

  pub non_ref_slot : FieldsOf (error_fault (error.StackMapSpecifiesNonRefSlot k)) (fields 6 (Some (Slot k)) None None)
  unfolding error_fault kind_of fault_fields field_text field_texts
  non_ref_slot = record { kind = refl; texts = refl; short = no_name 6 (omega arith) (Some (Slot k)) (slot_short k h) }

  pub undefined_slot : FieldsOf (error_fault (error.StackMapSpecifiesUndefinedSlot k)) (fields 7 (Some (Slot k)) None None)
  unfolding error_fault kind_of fault_fields field_text field_texts
  undefined_slot = record { kind = refl; texts = refl; short = no_name 7 (omega arith) (Some (Slot k)) (slot_short k h) }

-- the line

pub line_of_fields : {fault : Fault} {f : FaultFields} (p : Position) → FieldsOf fault f
    → fields_line p f
    ≡ letter_E ∷ behind_tabs (digits p.block ∷ digits p.place ∷ digits p.inst ∷ digits (kind_of fault) ∷ fault_fields fault)
unfolding fields_line
line_of_fields p F =
    ap₂ (λ (k : ℕ) (fs : List Bytes). letter_E ∷ behind_tabs (digits p.block ∷ digits p.place ∷ digits p.inst ∷ digits k ∷ fs))
    F.kind F.texts

-- the line of an operand with no allocation
abbrev pub missing_fields : ℕ → FaultFields
missing_fields w = fields 1 None (Some (Named w)) None

module _ (p : Position) (w : ℕ) where
  pub missing_short : PositionWithin p → length (fields_line p (missing_fields w)) ≤ longest_fault_line
  missing_short within = line_short p (missing_fields w) within (one_name 1 (omega arith) None (omega (arith, nothing_short)) w)

  pub missing_text : fields_line p (missing_fields w)
      ≡ line_text (record { block = p.block; place = p.place; inst = p.inst; fault = missing_allocation_for_reg (name_of_word w) })
  unfolding fields_line field_texts field_text line_text kind_of fault_fields
  missing_text = refl
