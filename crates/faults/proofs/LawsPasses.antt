-- What a pass was told of lines one after the other, and of one step.
use mathlib.Core.Path.{◌≡◌, refl, sym, ◌∙◌}
use mathlib.Core.List.{List, [], ◌∷◌, ◌++◌, append-nil}
use mathlib.Core.Option.{none, some}
use Prim.Native.Nat.{ℕ, ◌+◌, ◌≤◌}
use native.Mathlib.Omega.{arith}
use lib.ListN.{length}
use Rattle.lists.specs.Sets.{Wrote}
use Rattle.paper.specs.Steps.{Fault}
use Rattle.paper.specs.Report.{Entry, unreached_entry, faults_in, line_text, unreached_text, entry_text, lines_text, line_of}
use Rattle.report.specs.Lines.{fields_line}
use Rattle.report.specs.declared.Position.{Position}
use Rattle.report.specs.declared.FaultFields.{FaultFields}
use Rattle.faults.specs.Errors.{line_at, FieldsOf}
use Rattle.faults.specs.Passes.{PassLaws, AfterPass}
use Rattle.faults.proofs.LawsFields.{line_of_fields}

pub one_line : (e : Entry) → lines_text (e ∷ []) ≡ entry_text e
unfolding lines_text
one_line e = append-nil (entry_text e)

-- what the two passes do with a fault's line and with that of an unreached block

module _ (p : Position) where
  pub fault_counted : (fault : Fault) → length (faults_in (line_at p (some fault))) ≡ 1
  unfolding line_at line_of faults_in
  fault_counted fault = refl

  text_of_fault : (fault : Fault) (f : FaultFields) → FieldsOf fault f → fields_line p f ≡ lines_text (line_at p (some fault))
  unfolding line_at line_of entry_text line_text
  text_of_fault fault f F = line_of_fields p F ∙ sym (one_line _)

  pub fault_wrote : {fault : Fault} {f : FaultFields} {l l' : List ℕ} {i j : ℕ} → FieldsOf fault f
      → Wrote l i (fields_line p f) l' j → Wrote l i (lines_text (line_at p (some fault))) l' j
  fault_wrote {fault} {f} F w = rw (← text_of_fault fault f F) w

module _ (b : ℕ) where
  pub unreached_counted : length (faults_in (unreached_entry b ∷ [])) ≡ 0
  unfolding faults_in
  unreached_counted = refl

  pub unreached_wrote : {l l' : List ℕ} {i j : ℕ} → Wrote l i (unreached_text b) l' j → Wrote l i (lines_text (unreached_entry b ∷ [])) l' j
  unfolding entry_text
  unreached_wrote w = rw (one_line (unreached_entry b)) w

-- of any pass: no line, one after the other

module _ {S : Type 0} {told : List Entry → S → S → Type 0} {taken size : S → ℕ} (laws : PassLaws told) where
  pub pass_none : (most : ℕ) (s : S) → AfterPass told taken size [] most s s
  pass_none most s = record { lines = laws.nothing s; most = omega arith; kept = refl }

  pub pass_nothing : (p : Position) (most : ℕ) (s : S) → AfterPass told taken size (line_at p none) most s s
  unfolding line_at line_of
  pass_nothing p most s = pass_none most s

  pub pass_then : {xs ys : List Entry} {m n : ℕ} {s t u : S} → AfterPass told taken size xs m s t → AfterPass told taken size ys n t u
      → AfterPass told taken size (xs ++ ys) (m + n) s u
  pass_then {xs} {ys} {m} {n} {s} {t} {u} p q = record {
    lines = laws.more xs ys s t u p.lines q.lines;
    most = omega (arith, p.most, q.most);
    kept = q.kept ∙ p.kept;
  }

-- with more room asked for
pub pass_within : {S : Type 0} {told : List Entry → S → S → Type 0} {taken size : S → ℕ} {es : List Entry} {m n : ℕ} {s t : S}
    → m ≤ n → AfterPass told taken size es m s t → AfterPass told taken size es n s t
pass_within h p = record { lines = p.lines; most = omega (arith, p.most); kept = p.kept }
