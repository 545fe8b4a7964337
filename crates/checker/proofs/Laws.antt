-- From what the callees promise to what is said of a sheet, and from that to the paper's outcome.
use Rattle.std.specs.Prelude.{Result, Ok, Err, Option, None}
use mathlib.Core.Path.{◌≡◌, refl, sym, ap, ◌∙◌, subst}
use mathlib.Core.Bool.{true, false}
use mathlib.Core.List.{List, [], ◌∷◌}
use Prim.Native.Nat.{ℕ, zero, suc, ◌≤◌, ◌<◌}
use native.Mathlib.Omega.{arith}
use lib.ListN.{length, get_or, replicate}
use Rattle.paper.specs.Text.{Bytes}
use Rattle.paper.specs.Sheet.{Sheet}
use Rattle.paper.specs.Limits.{report_size, words_size, max_steps}
use Rattle.paper.specs.Refusals.{Reading, loaded, refused, read, step_count}
use Rattle.paper.specs.Steps.{counts_of}
use Rattle.paper.specs.Runs.{analysis, checked_from}
use Rattle.paper.specs.Report.{Line, Entry, entries, faults_in, report_text, missing_allocations}
use Rattle.paper.specs.Answer.{Said, said_by, said_of, said_after, answer, Lent, too_short, zeros, answer_of, report_of, Outcome, outcome_of, outcome}
use Rattle.paper.specs.declared.Rule.{Rule}
use Rattle.paper.specs.declared.Rule.TheVariants.{Old, House}
use Rattle.paper.specs.declared.Answer.{Answer}
use Rattle.paper.specs.declared.Refusal.{Refusal}
use Rattle.paper.specs.declared.Answer.TheVariants.{Refused}
use Rattle.layout.specs.Layout.{state_at, mark_at}
use Rattle.walks.specs.Reading.{read_few}
use Rattle.loaded.specs.Loaded.{sheet_of, Loaded}
use Rattle.sheet.specs.Reading.{loading_of, Load}
use Rattle.cells.specs.States.{stored_state}
use Rattle.tables.specs.Table.{mark_of}
use Rattle.runs.specs.Stands.{Analysed, analysed_sheet, analysed_loaded}
use Rattle.faults.specs.Missing.{missing_lines, MissingOf}
use Rattle.faults.specs.declared.Missing.{Missing}
use Rattle.faults.specs.Reported.{Checkable, Reported}
use Rattle.checker.specs.Checked.{Few, lent, AnswerWithin, Answered, Checked, verdict_of, rule_of, Exported}
use Rattle.checker.specs.declared.Verdict.{Verdict}
use Rattle.checker.proofs.Refused.{read_bounded}

-- what `report` answers and writes is said of the lines
said_within : (rule : Rule) (es : List Entry) → length (report_text rule es) ≤ report_size → AnswerWithin (answer_of (said_of rule es))
unfolding said_of said_by answer_of
said_within rule es h = at (faults_in es)
  where
    at : (ls : List Line) → AnswerWithin (answer_of (said_by ls (report_text rule es)))
    at [] = h
    at (l ∷ ls) = h

pub reported : {rule : Rule} {es : List Entry} {report words queue report' words' queue' : List ℕ} {r : Answer} → Reported rule es report r report'
    → length words' ≡ length words → length queue' ≡ length queue → Answered (said_of rule es) report words queue report' words' queue' r
reported {rule} {es} p w q = record {
  answer_is = p.answer;
  report_is = p.text;
  same_words = w;
  same_queue = q;
  within = subst AnswerWithin (sym p.answer) (said_within rule es p.fits);
}

-- the words behind the analysis can be checked
module _ {rule : Rule} {words queue words' queue' : List ℕ} (loads : Loaded words) (few : Few words) (full : missing_allocations (sheet_of words) ≡ [])
    (room : words_size ≤ length words) (a : Analysed rule words queue words' queue') where
  pub same_sheet : sheet_of words' ≡ sheet_of words
  same_sheet = analysed_sheet loads a

  StatesOf : Sheet → Type 0
  StatesOf S = (b : ℕ) → b < S.blocks → stored_state (counts_of S) (state_at b) words' ≡ checked_from rule S b

  states_of : StatesOf (sheet_of words)
  unfolding StatesOf sheet_of
  states_of = a.states

  MarksOf : Sheet → Type 0
  MarksOf S = (b : ℕ) → b < S.blocks → get_or words' (mark_at b) 0 ≡ mark_of ((analysis rule S).table b)

  marks_of : MarksOf (sheet_of words)
  unfolding MarksOf sheet_of
  marks_of = a.marks

  pub checkable : Checkable rule words'
  unfolding StatesOf MarksOf sheet_of counts_of
  checkable = record {
    loaded = analysed_loaded loads a;
    room = omega (arith, a.kept.same_length);
    few = subst (λ (S : Sheet). step_count S.body ≤ max_steps) (sym same_sheet) few;
    allocated = subst (λ (S : Sheet). missing_allocations S ≡ []) (sym same_sheet) full;
    states = subst StatesOf (sym same_sheet) states_of;
    marks = subst MarksOf (sym same_sheet) marks_of;
  }

-- a sheet that was loaded, or was refused
pub loads_sheet : {sheet : Bytes} {before after : List ℕ} {r : Result (Unit {0}) Refusal} → Load sheet before after r → r ≡ (Ok tt) → (S : Sheet) × (read sheet ≡ loaded S)
unfolding loading_of
loads_sheet {sheet} l e = go (read sheet) refl (sym l.answer ∙ e)
  where
    go : (o : Reading) → read sheet ≡ o → loading_of o ≡ (Ok tt) → (S : Sheet) × (read sheet ≡ loaded S)
    go (loaded S) h f = (S, h)
    go (refused refusal) h f = let z : ◌≡◌ {A = ℕ} 0 1 = cc in absurd (omega arith)

pub refuses_sheet : {sheet : Bytes} {before after : List ℕ} {r : Result (Unit {0}) Refusal} {refusal : Refusal} → Load sheet before after r → r ≡ Err refusal
    → read sheet ≡ refused refusal
unfolding loading_of
refuses_sheet {sheet} {refusal} l e = go (read sheet) refl (sym l.answer ∙ e)
  where
    go : (o : Reading) → read sheet ≡ o → loading_of o ≡ Err refusal → read sheet ≡ refused refusal
    go (loaded S) h f = let z : ◌≡◌ {A = ℕ} 0 1 = cc in absurd (omega arith)
    go (refused other) h f = h ∙ (cc)

module _ {sheet : Bytes} {before after : List ℕ} {r : Result (Unit {0}) Refusal} (l : Load sheet before after r) where
  module _ (e : r ≡ (Ok tt)) where
    pub loaded_words : Loaded after
    loaded_words = (l.meaning (loads_sheet l e).0 (loads_sheet l e).1).1

    is_sheet : sheet_of after ≡ (loads_sheet l e).0
    is_sheet = (l.meaning (loads_sheet l e).0 (loads_sheet l e).1).0

    pub few_steps : Few after
    few_steps = subst (λ (S : Sheet). step_count S.body ≤ max_steps) (sym is_sheet) (read_few sheet (loads_sheet l e).0 (loads_sheet l e).1)

    -- what is said of the loaded sheet is what is said of the bytes
    pub said_of_loaded : (rule : Rule) → said_of rule (entries rule (sheet_of after)) ≡ answer rule sheet
    unfolding answer said_after
    said_of_loaded rule = ap (λ (S : Sheet). said_of rule (entries rule S)) is_sheet ∙ sym (ap (said_after rule) (loads_sheet l e).1)

  -- a refusal is said as it is
  pub refused_answer : (rule : Rule) {report words queue : List ℕ} {refusal : Refusal} → r ≡ Err refusal → length after ≡ length words
      → Answered (answer rule sheet) report words queue report after queue (Refused refusal)
  unfolding answer said_after answer_of report_of
  refused_answer rule {report} {words} {queue} {refusal} e w =
      let h : read sheet ≡ refused refusal = refuses_sheet l e in
      let b = read_bounded sheet refusal h in
      rw h (record { answer_is = refl; report_is = refl; same_words = w; same_queue = refl; within = (b.most, omega (arith, b.inside), b.shown) })

-- no step lacks an allocation
pub nothing_missing : {words : List ℕ} {r : Option Missing} → MissingOf words r → r ≡ None → missing_allocations (sheet_of words) ≡ []
unfolding missing_lines
nothing_missing {words} m e = m.lines ∙ ap (missing_lines words) e

-- said of the loaded words, and so of the sheet
pub answered_from : {said said' : Said} {report words words₁ queue report' words' queue' : List ℕ} {r : Answer}
    → Answered said report words₁ queue report' words' queue' r → said ≡ said' → length words₁ ≡ length words → Answered said' report words queue report' words' queue' r
answered_from {report} {r} a e w = record {
  answer_is = a.answer_is ∙ ap answer_of e;
  report_is = a.report_is ∙ ap (λ (s : Said). report_of s report) e;
  same_words = a.same_words ∙ w;
  same_queue = a.same_queue;
  within = a.within;
}

-- refusal 1 changes nothing
pub turned_short : (rule : Rule) (sheet : Bytes) (before : Lent) → too_short report_size before ≡ true → Checked rule sheet before before (Refused (record { number = 1; line = 0; field = 0 }))
unfolding outcome
turned_short rule sheet before e = record { whole = rw e; within = (omega arith, omega arith, omega arith) }

-- any other answer leaves the scratch zero
pub checked : {rule : Rule} {sheet : Bytes} {report words queue report' words₁ queue₁ words' queue' : List ℕ} {r : Answer}
    → Answered (answer rule sheet) report words queue report' words₁ queue₁ r → words' ≡ replicate (length words₁) 0 → queue' ≡ replicate (length queue₁) 0
    → too_short report_size (lent report words queue) ≡ false → Checked rule sheet (lent report words queue) (lent report' words' queue') r
unfolding outcome outcome_of zeros
checked a w q e = record {
  whole = rw (e, w, q, a.same_words, a.same_queue, a.answer_is, a.report_is);
  within = a.within;
}

-- the rule by its number
pub number_0 : (number : ℕ) → number ≡ 0 → Old ≡ rule_of number
unfolding rule_of
number_0 number e = rw e

pub number_other : (number : ℕ) → ¬ (number ≡ 0) → House ≡ rule_of number
unfolding rule_of
number_other zero e = absurd (e refl)
number_other (suc n) e = refl

-- the same over the C interface
pub exported : {number : ℕ} {rule : Rule} {sheet : Bytes} {before after : Lent} {a : Answer} {r : Verdict} → Checked rule sheet before after a → rule ≡ rule_of number
    → r ≡ verdict_of a → Exported number sheet before after r
exported {sheet} {before} c e v =
    let w = c.whole ∙ ap (λ (rule : Rule). outcome rule sheet before) e in
    record { verdict_is = v ∙ ap (λ (o : Outcome). verdict_of o.answer) w; lent_is = ap (λ (o : Outcome). o.lent) w }
