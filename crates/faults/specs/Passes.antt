-- A pass over the sheet's blocks counts the faults or writes all lines. What it was told, as a relation of its states; the count so far,
-- or the text so far.
use Rattle.std.specs.Prelude.{◌≡◌, refl, List, [], ◌∷◌, ◌++◌, ℕ, ◌+◌, ◌≤◌, length}
use Rattle.std.proofs.Common.{◌∙◌, append_assoc, length-append, arith}
use Rattle.lists.specs.Sets.{Wrote, then}
use Rattle.paper.specs.Report.{Entry, faults_in, lines_text}
use Rattle.walks.specs.Entries.{faults_append}

-- nothing was told; one list was told after another
pub record PassLaws {S : Type 0} (told : List Entry → S → S → Type 0) : Type 0 where
  pub nothing : (s : S) → told [] s s
  pub more : (xs ys : List Entry) (s t u : S) → told xs s t → told ys t u → told (xs ++ ys) s u

-- es was told, and took no more than `room`
pub record AfterPass {S : Type 0} (told : List Entry → S → S → Type 0) (taken size : S → ℕ) (es : List Entry) (room : ℕ) (s s' : S) : Type 0 where
  pub lines : told es s s'
  pub most : taken s' ≤ taken s + room
  pub kept : size s' ≡ size s

-- the faults among es were counted
abbrev pub counted_told : {S : Type 0} → (S → ℕ) → List Entry → S → S → Type 0
counted_told faults es s s' = faults s' ≡ faults s + length (faults_in es)

pub counted_laws : {S : Type 0} (faults : S → ℕ) → PassLaws (counted_told faults)
unfolding faults_in
counted_laws faults = record {
  nothing = λ s. omega arith;
  more = λ xs ys s t u p q. rw (faults_append, length-append) (omega arith);
}

pub lines_append : (xs ys : List Entry) → lines_text (xs ++ ys) ≡ lines_text xs ++ lines_text ys
unfolding lines_text
lines_append [] ys = refl
lines_append (x ∷ xs) ys = rw (append_assoc, ← lines_append xs ys)

-- all of es was written, in the same report
abbrev pub written_told : {S N : Type 0} → (S → N) → (S → List ℕ) → (S → ℕ) → List Entry → S → S → Type 0
written_told name report at es s s' = (name s' ≡ name s) × Wrote (report s) (at s) (lines_text es) (report s') (at s')

pub written_laws : {S N : Type 0} (name : S → N) (report : S → List ℕ) (at : S → ℕ) → PassLaws (written_told name report at)
unfolding lines_text
written_laws name report at = record {
  nothing = λ s. (refl, record { list = refl; next = omega arith });
  more = λ xs ys s t u p q. (q.0 ∙ p.0, rw lines_append (then p.1 q.1));
}
