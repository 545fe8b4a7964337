-- What is found, as a line of the report: where it stands, and its fields.
use Rattle.std.specs.Prelude.{◌≡◌, Some, None, List, map, ℕ, ◌<◌}
use Rattle.std.specs.Prelude as prelude
use Rattle.std.proofs.Math.Option.{Option}
use Rattle.paper.specs.Text.{Name}
use Rattle.paper.specs.Limits.{max_regs, max_slots}
use Rattle.paper.specs.Steps.{Fault}
use Rattle.paper.specs.Report.{Entry, fault_entry, line_of, names_lines, kind_of, fault_fields}
use Rattle.steps.specs.declared.CheckerError.{CheckerError}
use Rattle.steps.specs.declared.CheckerError.TheVariants as error
use Rattle.report.specs.Lines.{field_texts}
use Rattle.report.specs.Lengths.{ShortFields}
use Rattle.report.specs.declared.Field.{Field}
use Rattle.report.specs.declared.Field.TheVariants.{Named}
use Rattle.report.specs.declared.Position.{Position}
use Rattle.report.specs.declared.FaultFields.{FaultFields}

-- the line of a fault, if there is one, and of each name that has no allocation
unfoldable pub line_at : Position → Option Fault → List Entry
line_at p fault = map fault_entry (line_of p.block p.place p.inst fault)

unfoldable pub names_at : Position → List Name → List Entry
names_at p names = map fault_entry (names_lines p.block p.place p.inst names)

-- the fields of a fault at a register or slot, with the names that are there
abbrev pub name_field : prelude.Option ℕ → prelude.Option Field
name_field None = None
name_field (Some w) = Some (Named w)

abbrev pub fields_at : ℕ → Field → prelude.Option ℕ → prelude.Option ℕ → FaultFields
fields_at kind location expected actual = record { kind = kind; location = Some location; expected = name_field expected; actual = name_field actual }

-- f stands for the fault, and its line is short
pub record FieldsOf (fault : Fault) (f : FaultFields) : Type 0 where
  pub kind : f.kind ≡ kind_of fault
  pub texts : field_texts f ≡ fault_fields fault
  pub short : ShortFields f

-- the register or slot of a fault is one that a sheet can have
abbrev pub ErrorWithin : CheckerError → Type 0
ErrorWithin (error.UnknownValueInReg r) = r < max_regs
ErrorWithin (error.IncorrectValueInReg r expected actual) = r < max_regs
ErrorWithin (error.UnknownValueInSlot k expected) = k < max_slots
ErrorWithin (error.IncorrectValueInSlot k expected actual) = k < max_slots
ErrorWithin (error.StackMapSpecifiesNonRefSlot k) = k < max_slots
ErrorWithin (error.StackMapSpecifiesUndefinedSlot k) = k < max_slots
