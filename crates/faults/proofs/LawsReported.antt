-- A report from its header and its lines: the text at the buffer's start, and the answer.
use mathlib.Core.Path.{◌≡◌, refl, sym, ap, ◌∙◌}
use mathlib.Core.Bool.{true, true≢false}
use mathlib.Core.List.{List, [], ◌∷◌}
use Prim.Native.Nat.{ℕ, suc, ◌+◌, ◌≤◌}
use native.Mathlib.Omega.{arith}
use lib.ListN.{length}
use Rattle.lists.specs.Sets.{Wrote, then}
use Rattle.paper.specs.Limits.{report_size}
use Rattle.paper.specs.Text.{Bytes, Name}
use Rattle.paper.specs.Sheet.{Sheet}
use Rattle.paper.specs.Report.{Line, Entry, first_list, missing_allocations, find_errors, entries, faults_in, lines_text, report_text, header_text, names_lines}
use Rattle.paper.specs.Answer.{accepted, faulty, said_by, said_of, answer_of, report_of}
use Rattle.paper.specs.declared.Rule.{Rule}
use Rattle.paper.specs.declared.Answer.TheVariants.{Accepted, Faulty}
use Rattle.steps.specs.Faults.{some_in}
use Rattle.report.specs.Laid.{wrote_laid}
use Rattle.report.specs.declared.Position.{Position}
use Rattle.faults.specs.Errors.{names_at}
use Rattle.faults.specs.Reported.{Reported}

-- the whole text
wrote_report : (rule : Rule) (es : List Entry) {l l₁ l₂ : List ℕ} {j k : ℕ} → Wrote l 0 (header_text rule (length (faults_in es))) l₁ j
    → Wrote l₁ j (lines_text es) l₂ k → Wrote l 0 (report_text rule es) l₂ k
unfolding report_text
wrote_report rule es p q = then p q

-- what is said of lines with a fault, and with none
said_faulty : (ls : List Line) (text : Bytes) → (length ls ≡ 0 → ⊥) → said_by ls text ≡ faulty text
unfolding said_by
said_faulty [] text n = absurd (n refl)
said_faulty (l ∷ ls) text n = refl

said_accepted : (ls : List Line) (text : Bytes) → length ls ≡ 0 → said_by ls text ≡ accepted text
unfolding said_by
said_accepted [] text n = refl
said_accepted (l ∷ ls) text n = absurd (omega arith)

-- header and lines
module _ (rule : Rule) (es : List Entry) {l l₁ l₂ : List ℕ} {j k : ℕ} (head : Wrote l 0 (header_text rule (length (faults_in es))) l₁ j)
    (lines : Wrote l₁ j (lines_text es) l₂ k) (small : k ≤ report_size) (fits : report_size ≤ length l) where
  whole : Wrote l 0 (report_text rule es) l₂ k
  whole = wrote_report rule es head lines

  length_is : k ≡ length (report_text rule es)
  length_is = omega (arith, whole.next)

  pub reported_faulty : (length (faults_in es) ≡ 0 → ⊥) → Reported rule es l (Faulty k) l₂
  unfolding said_of answer_of report_of
  reported_faulty n =
      let s : said_of rule es ≡ faulty (report_text rule es) = said_faulty (faults_in es) _ n in
      record { answer = rw s (ap Faulty length_is); text = rw s (wrote_laid whole (omega arith)); fits = omega (arith, length_is) }

  pub reported_accepted : length (faults_in es) ≡ 0 → Reported rule es l (Accepted k) l₂
  unfolding said_of answer_of report_of
  reported_accepted n =
      let s : said_of rule es ≡ accepted (report_text rule es) = said_accepted (faults_in es) _ n in
      record { answer = rw s (ap Accepted length_is); text = rw s (wrote_laid whole (omega arith)); fits = omega (arith, length_is) }

-- what is reported

-- no fault was counted
pub none_counted : (es : List Entry) {count : ℕ} → count ≡ 0 + length (faults_in es) → count ≡ 0 → faults_in es ≡ []
none_counted es n z = empty_list (faults_in es) (omega arith)
  where
    empty_list : (ls : List Line) → length ls ≡ 0 → ls ≡ []
    empty_list [] e = refl
    empty_list (l ∷ ls) e = absurd (omega arith)

module _ (rule : Rule) (es : List Entry) {l l₂ : List ℕ} {count j : ℕ} (n : count ≡ 0 + length (faults_in es))
    (h : Wrote l 0 (header_text rule count) l₂ j) {l₃ : List ℕ} {k : ℕ} (w : Wrote l₂ j (lines_text es) l₃ k)
    (small : k ≤ report_size) (fits : report_size ≤ length l) where
  behind_count : Wrote l 0 (header_text rule (length (faults_in es))) l₂ j
  behind_count = let e : length (faults_in es) ≡ count = omega arith in rw e h

  -- no fault was counted, and the lines that there are are written
  pub errors_accepted : count ≡ 0 → Reported rule es l (Accepted k) l₃
  errors_accepted z = reported_accepted rule es behind_count w small fits (omega arith)

  -- the faults that were counted are written
  pub errors_faulty : (count ≡ 0 → ⊥) → Reported rule es l (Faulty k) l₃
  errors_faulty z = reported_faulty rule es behind_count w small fits (λ e. z (omega arith))

pub entries_found : (rule : Rule) (S : Sheet) → missing_allocations S ≡ [] → entries rule S ≡ find_errors rule S
unfolding entries first_list
entries_found rule S e = rw e

some_long : {A : Type 0} (xs : List A) → some_in xs ≡ true → length xs ≡ 0 → ⊥
unfolding some_in
some_long [] s e = true≢false (sym s)
some_long (x ∷ xs) s e = omega arith

names_long : (p : Position) (names : List Name) → length (faults_in (names_at p names)) ≡ length names
unfolding names_at names_lines faults_in
names_long p [] = refl
names_long p (n ∷ names) = ap suc (names_long p names)

-- the lines of names that have no allocation
pub reported_names : (rule : Rule) {l l₁ l₂ : List ℕ} {j k : ℕ} (p : Position) (names : List Name) (count : ℕ) → count ≡ length names
    → Wrote l 0 (header_text rule count) l₁ j → Wrote l₁ j (lines_text (names_at p names)) l₂ k → some_in names ≡ true
    → k ≤ report_size → report_size ≤ length l → Reported rule (names_at p names) l (Faulty k) l₂
reported_names rule p names count e head lines s small fits =
    let long : length (faults_in (names_at p names)) ≡ length names = names_long p names in
    let c : count ≡ length (faults_in (names_at p names)) = e ∙ sym long in
    reported_faulty rule (names_at p names) (rw c at head) lines small fits (λ z. some_long names s (sym long ∙ z))
