-- `columns::Search::shown_field` meets its contract: one case for each letter, behind which its fields are counted, and one for any other first
-- field, which shows the refusal itself.
use mathlib.Core.Path.{◌≡◌, ap, ◌∙◌, subst}
use Prim.Native.Nat.{ℕ, ◌+◌, ◌<◌}
use native.Mathlib.Omega.{arith}
use Rattle.paper.specs.Text.{Bytes, fields}
use Rattle.paper.specs.Sheet.{Sheet}
use Rattle.paper.specs.Refusals.{field_by_letter, field_shown}
use Rattle.fields.specs.Fields.{line_at, fields_behind}
use Rattle.columns.specs.Columns.{Opening}
use Rattle.columns.proofs.LawsLines.{behind_its_letter, by_its_letter, by_no_letter, typed_counted, block_counted, change_counted, operation_counted, safepoint_counted}
use Rattle.columns.proofs.Search.shown_field.Goals as goal

-- the fields that pass behind a letter tell the line's field
told : {s : Bytes} {at x : ℕ} (number : ℕ) → Opening s at x → (letter : ℕ) → x ≡ letter → 0 < letter → (S : Sheet) {n : ℕ}
    → n ≡ field_by_letter number S letter (fields_behind s (at + 1)) → n ≡ field_shown number S (fields (line_at s at))
told {s} {at} number o letter is some S e = by_its_letter (subst (Opening s at) is o) number S some e

pub passing_function-requires : goal.passing_function-requires
passing_function-requires c = behind_its_letter c.requires (omega (arith, c.in-70.is))

pub passing_typed-requires : goal.passing_typed-requires
passing_typed-requires c = behind_its_letter c.requires (omega (arith, c.in-84.is))

pub passing_block-requires : goal.passing_block-requires
passing_block-requires c = behind_its_letter c.requires (omega (arith, c.in-66.is))

pub passing_pair-requires : goal.passing_pair-requires
passing_pair-requires c = behind_its_letter c.requires (omega (arith, c.in-83.is))

pub passing_pair-requires-in-76 : goal.passing_pair-requires-in-76
passing_pair-requires-in-76 c = behind_its_letter c.requires (omega (arith, c.in-76.is))

pub passing_pair-requires-in-77 : goal.passing_pair-requires-in-77
passing_pair-requires-in-77 c = behind_its_letter c.requires (omega (arith, c.in-77.is))

pub passing_change-requires : goal.passing_change-requires
passing_change-requires c = behind_its_letter c.requires (omega (arith, c.in-67.is))

pub passing_operation-requires : goal.passing_operation-requires
passing_operation-requires c = behind_its_letter c.requires (omega (arith, c.in-79.is))

pub passing_safepoint-requires : goal.passing_safepoint-requires
passing_safepoint-requires c = behind_its_letter c.requires (omega (arith, c.in-80.is))

pub returns-in-70 : goal.returns-in-70
unfolding field_by_letter
returns-in-70 c S k = told c.args.self.number c.requires 70 c.in-70.is (omega arith) S (ap (λ (n : ℕ). 2 + n) c.passing_function.ensures)

pub returns-in-84 : goal.returns-in-84
unfolding field_by_letter
returns-in-84 c S k = told c.args.self.number c.requires 84 c.in-84.is (omega arith) S (ap (λ (n : ℕ). 2 + n) (c.passing_typed.ensures ∙ typed_counted _ k _))

pub returns-in-66 : goal.returns-in-66
unfolding field_by_letter
returns-in-66 c S k = told c.args.self.number c.requires 66 c.in-66.is (omega arith) S (ap (λ (n : ℕ). 2 + n) (c.passing_block.ensures ∙ block_counted _ k _))

pub returns-in-83 : goal.returns-in-83
unfolding field_by_letter
returns-in-83 c S k = told c.args.self.number c.requires 83 c.in-83.is (omega arith) S (rw (k.slots, k.regs) (ap (λ (n : ℕ). 2 + n) c.passing_pair.ensures))

pub returns-in-76 : goal.returns-in-76
unfolding field_by_letter
returns-in-76 c S k = told c.args.self.number c.requires 76 c.in-76.is (omega arith) S (rw (k.slots, k.regs) (ap (λ (n : ℕ). 2 + n) c.passing_pair-in-76.ensures))

pub returns-in-77 : goal.returns-in-77
unfolding field_by_letter
returns-in-77 c S k = told c.args.self.number c.requires 77 c.in-77.is (omega arith) S (rw k.regs (ap (λ (n : ℕ). 2 + n) c.passing_pair-in-77.ensures))

pub returns-in-67 : goal.returns-in-67
unfolding field_by_letter
returns-in-67 c S k = told c.args.self.number c.requires 67 c.in-67.is (omega arith) S (ap (λ (n : ℕ). 2 + n) (c.passing_change.ensures ∙ change_counted _ k _))

pub returns-in-79 : goal.returns-in-79
unfolding field_by_letter
returns-in-79 c S k = told c.args.self.number c.requires 79 c.in-79.is (omega arith) S (ap (λ (n : ℕ). 2 + n) (c.passing_operation.ensures ∙ operation_counted _ k _))

pub returns-in-80 : goal.returns-in-80
unfolding field_by_letter
returns-in-80 c S k = told c.args.self.number c.requires 80 c.in-80.is (omega arith) S (ap (λ (n : ℕ). 2 + n) (c.passing_safepoint.ensures ∙ safepoint_counted _ k _))

pub returns-in_default : goal.returns-in_default
returns-in_default c S k =
    by_no_letter c.requires c.args.self.number S (λ e. omega (arith, e)) (λ e. omega (arith, e)) (λ e. omega (arith, e)) (λ e. omega (arith, e)) (λ e. omega (arith, e)) (λ e. omega (arith, e)) (λ e. omega (arith, e)) (λ e. omega (arith, e)) (λ e. omega (arith, e))
