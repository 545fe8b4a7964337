-- What a call of the checker means, over the functions' promises `Checked`, `Exported` and `Stated`. One outcome only: two results
-- that both meet a promise on the same input are equal, buffers included. Demand 3 for `check`, for `itanropen_check` and for the
-- text that `answer_text` leaves and `regcheck` writes: accepted under the house rule exactly when the sheet is read and the
-- acceptance sentence holds of it; then its two programs read equal values at every use. And for every sheet that is read, accepted
-- or not, the report is of states that are the meet over all walks, it is well formed, and it has a line `N b` exactly where no
-- allocation is missing and no walk comes to block b; a refusal's field is that of its line.
use mathlib.Core.Path.{◌≡◌, refl, sym, ap, ◌∙◌, subst}
use mathlib.Core.Logic.{◌↔◌, ◌⊎◌, inl, inr, ⊎_map}
use mathlib.Core.Bool.{Bool, true, false}
use Prim.Native.Nat.{ℕ, ◌≤◌}
use native.Mathlib.Omega.{arith}
use mathlib.Core.List.{List, [], ◌∷◌}
use lib.ListN.{length, take, drop}
use lib.Seq.{take_at}
use Rattle.lists.specs.Split.{by_equal}
use Rattle.paper.specs.Text.{Bytes, lines}
use Rattle.paper.specs.Sheet.{Sheet}
use Rattle.paper.specs.Limits.{report_size}
use Rattle.paper.specs.Runs.{visit_bound, EndsAfter}
use Rattle.paper.specs.Refusals.{names_field, Reading, loaded, refused, read}
use Rattle.paper.specs.Report.{Line, Entry, find_errors, first_list, missing_allocations, entries, faults_in, faults, report_text}
use Rattle.paper.specs.Walks.{In, Acceptance}
use Rattle.paper.specs.Comparison.{pieces, bad_line}
use Rattle.paper.specs.Answer.{Said, accepted, faulty, turned_away, said_by, said_of, said_after, answer, written, Lent, too_short, laid, answer_of, report_of, Outcome, outcome_of, outcome}
use Rattle.paper.specs.declared.Rule.{Rule}
use Rattle.paper.specs.declared.Rule.TheVariants.{Old, House}
use Rattle.paper.specs.declared.Refusal.{Refusal}
use Rattle.paper.specs.declared.Answer.{Answer}
use Rattle.paper.specs.declared.Answer.TheVariants.{Accepted, Faulty, Refused}
use Rattle.walks.specs.Small.{Small}
use Rattle.walks.proofs.Unreached.{Unwalked}
use Rattle.walks.proofs.Theorems.{ReadSheet, read_sheet, acceptance, read_closed, read_typed, Acceptable, AcceptedBytes, acceptable, accepted_bytes, bytes_acceptance}
use Rattle.compare.specs.Spelled.{report_well_formed, unreached_line, named_exactly}
use Rattle.columns.specs.Theorems.{Located, unlocated, read_located}
use Rattle.checker.specs.Checked.{Checked, TextOutcome, Stated, verdict_of, rule_of, Exported}
use Rattle.checker.specs.declared.Verdict.{Verdict}
use Rattle.checker.proofs.Laws.{number_0, number_other}
use Rattle.checker.proofs.Texts.{text_left_by}
use Rattle.checker.proofs.Zero.{BeginsZero, zero_begins, zero_said, zero_left}

pub check_one_outcome : {rule : Rule} {sheet : Bytes} {before after after' : Lent} {r r' : Answer} → Checked rule sheet before after r → Checked rule sheet before after' r'
    → (r ≡ r') × (after ≡ after')
check_one_outcome p q =
    let e = p.whole ∙ sym q.whole in
    (ap (λ (o : Outcome). o.answer) e, ap (λ (o : Outcome). o.lent) e)

-- `answer_text`, `entry_states` and `text_of`, each with its text
pub text_one_outcome : {size : ℕ} {text : Bytes} {before after after' : Lent} {r r' : ℕ} → Stated size text before after r → Stated size text before after' r'
    → (r ≡ r') × (after ≡ after')
text_one_outcome p q =
    let e = p.whole ∙ sym q.whole in
    (ap (λ (o : TextOutcome). o.text_length) e, ap (λ (o : TextOutcome). o.buffers) e)

pub export_one_outcome : {rule : ℕ} {sheet : Bytes} {before after after' : Lent} {r r' : Verdict} → Exported rule sheet before after r → Exported rule sheet before after' r'
    → (r ≡ r') × (after ≡ after')
export_one_outcome p q = (p.verdict_is ∙ sym q.verdict_is, p.lent_is ∙ sym q.lent_is)

-- an answer that is accepted is what the paper says of the bytes
outcome_accepted : (rule : Rule) (sheet : Bytes) (before : Lent) (n : ℕ) → Accepted n ≡ (outcome rule sheet before).answer → (text : Bytes) × (answer rule sheet ≡ accepted text)
unfolding outcome outcome_of answer_of
outcome_accepted rule sheet before n e = at (too_short report_size before) refl (answer rule sheet) refl
  where
    told : (o : Outcome) → outcome rule sheet before ≡ o → Accepted n ≡ o.answer
    told o f = e ∙ ap (λ (x : Outcome). x.answer) f

    at : (b : Bool) → too_short report_size before ≡ b → (said : Said) → answer rule sheet ≡ said → (text : Bytes) × (answer rule sheet ≡ accepted text)
    at true s said t = let p = told (record { answer = Refused (record { number = 1; line = 0; field = 0 }); lent = before }) (rw s) in let z : ◌≡◌ {A = ℕ} 0 1 = cc in absurd (omega arith)
    at false s (accepted text) t = (text, t)
    at false s (faulty text) t = let p = told (outcome_of (faulty text) before) (rw (s, t)) in let z : ◌≡◌ {A = ℕ} 0 1 = cc in absurd (omega arith)
    at false s (turned_away refusal) t = let p = told (outcome_of (turned_away refusal) before) (rw (s, t)) in let z : ◌≡◌ {A = ℕ} 0 1 = cc in absurd (omega arith)

accepted_outcome : (sheet : Bytes) (before : Lent) (n : ℕ) → Accepted n ≡ (outcome House sheet before).answer → AcceptedBytes sheet
accepted_outcome sheet before n e = let s = outcome_accepted House sheet before n e in accepted_bytes sheet s.0 s.1

-- and a sheet that the acceptance sentence holds of has that outcome, where the lent buffers are long enough
outcome_accepts : (sheet : Bytes) (before : Lent) (S : Sheet) → too_short report_size before ≡ false → read sheet ≡ loaded S → Acceptance S
    → (outcome House sheet before).answer ≡ Accepted (length (report_text House (entries House S)))
unfolding outcome outcome_of answer_of
outcome_accepts sheet before S long h E = rw (long, (bytes_acceptance sheet S h).1 E)

-- `check`
module _ {sheet : Bytes} {before after : Lent} where
  pub check_accepted : {n : ℕ} → Checked House sheet before after (Accepted n) → AcceptedBytes sheet
  check_accepted {n} c = accepted_outcome sheet before n (ap (λ (o : Outcome). o.answer) c.whole)

  pub check_accepts : {r : Answer} (S : Sheet) → Checked House sheet before after r → too_short report_size before ≡ false → read sheet ≡ loaded S → Acceptance S
      → r ≡ Accepted (length (report_text House (entries House S)))
  check_accepts S c long h E = ap (λ (o : Outcome). o.answer) c.whole ∙ outcome_accepts sheet before S long h E

  pub check_exactly : {r : Answer} → Checked House sheet before after r → too_short report_size before ≡ false → ((n : ℕ) × (r ≡ Accepted n)) ↔ Acceptable sheet
  check_exactly c long = (
    λ a. acceptable (check_accepted (subst (λ (r : Answer). Checked House sheet before after r) a.1 c)),
    λ a. (_, check_accepts a.sheet c long a.is_read a.sentence),
  )

-- `itanropen_check`: no number but 0 is the old rule
pub old_by_0 : (rule : ℕ) → (rule_of rule ≡ Old) ↔ (rule ≡ 0)
old_by_0 rule = (λ e. by_equal rule 0 (λ z. z) (λ other. let z : House ≡ Old = number_other rule other ∙ e in let no : ◌≡◌ {A = ℕ} 0 1 = cc in absurd (omega arith)), λ z. sym (number_0 rule z))

-- under the house rule: answer 0
module _ {rule : ℕ} {sheet : Bytes} {before after : Lent} {r : Verdict} (house : ¬ (rule ≡ 0)) (c : Exported rule sheet before after r) where
  verdict_is : (a : Answer) → (outcome House sheet before).answer ≡ a → r ≡ verdict_of a
  verdict_is a t = c.verdict_is ∙ ap (λ (rule : Rule). verdict_of (outcome rule sheet before).answer) (sym (number_other rule house)) ∙ ap verdict_of t

  pub export_accepted : r.answer ≡ 0 → AcceptedBytes sheet
  unfolding verdict_of
  export_accepted e = at (outcome House sheet before).answer refl
    where
      at : (a : Answer) → (outcome House sheet before).answer ≡ a → AcceptedBytes sheet
      at (Accepted n) t = accepted_outcome sheet before n (sym t)
      at (Faulty n) t = let p : r.answer ≡ 1 = ap (λ (v : Verdict). v.answer) (verdict_is (Faulty n) t) in absurd (omega arith)
      at (Refused refusal) t = let p : r.answer ≡ 2 = ap (λ (v : Verdict). v.answer) (verdict_is (Refused refusal) t) in absurd (omega arith)

  pub export_accepts : (S : Sheet) → too_short report_size before ≡ false → read sheet ≡ loaded S → Acceptance S
      → r ≡ verdict_of (Accepted (length (report_text House (entries House S))))
  export_accepts S long h E = verdict_is _ (outcome_accepts sheet before S long h E)

  pub export_exactly : too_short report_size before ≡ false → (r.answer ≡ 0) ↔ Acceptable sheet
  unfolding verdict_of
  export_exactly long = (
    λ e. acceptable (export_accepted e),
    λ a. ap (λ (v : Verdict). v.answer) (export_accepts a.sheet long a.is_read a.sentence),
  )

-- the text that `answer_text` leaves under the house rule and `regcheck` writes: it begins with `R house 0` and LF, the ten bytes of
-- `house_zero`
module _ (sheet : Bytes) {before after : Lent} {n : ℕ} (c : Stated report_size (written (answer House sheet)) before after n) where
  pub text_accepted : BeginsZero (take n after.report) → AcceptedBytes sheet
  text_accepted e = let s = zero_said sheet (zero_left c e) in accepted_bytes sheet s.0 s.1

  pub text_accepts : (S : Sheet) → too_short report_size before ≡ false → read sheet ≡ loaded S → Acceptance S → BeginsZero (take n after.report)
  unfolding written faults
  text_accepts S long h E =
      let none : faults House S ≡ [] = (acceptance S (read_closed sheet S h) (read_typed sheet S h)).1 E in
      ap (take 10) (text_left_by c long ∙ ap written ((bytes_acceptance sheet S h).1 E)) ∙ zero_begins (entries House S) none

  pub text_exactly : too_short report_size before ≡ false → BeginsZero (take n after.report) ↔ Acceptable sheet
  text_exactly long = (λ e. acceptable (text_accepted e), λ a. text_accepts a.sheet long a.is_read a.sentence)

-- Every answer with a report, accepted or faulty, under either rule: the sheet that was read; its states are the meet over all walks
-- and each run ends within document 01's count of visits (`ReadSheet`); the report's lines, which are those of a missing
-- allocation, or every block's: its faults, checked from its state, or `N` where it has none.
pub record ReportOf (rule : Rule) (bytes : Bytes) (before after : Lent) : Type 0 where
  pub sheet : Sheet
  pub is_read : read bytes ≡ loaded sheet
  pub known : ReadSheet sheet
  pub report_is : after.report ≡ laid (report_text rule (entries rule sheet)) before.report
  pub each_block : missing_allocations sheet ≡ [] → entries rule sheet ≡ find_errors rule sheet

no_missing : (rule : Rule) (S : Sheet) → missing_allocations S ≡ [] → entries rule S ≡ find_errors rule S
unfolding entries first_list
no_missing rule S e = rw e

reported_lines : (rule : Rule) (es : List Entry) (report : List ℕ) → report_of (said_of rule es) report ≡ laid (report_text rule es) report
unfolding said_of said_by report_of
reported_lines rule es report = at (faults_in es)
  where
    at : (ls : List Line) → report_of (said_by ls (report_text rule es)) report ≡ laid (report_text rule es) report
    at [] = refl
    at (l ∷ ls) = refl

outcome_reported : (rule : Rule) (sheet : Bytes) (before : Lent) → ((refusal : Refusal) → ¬ ((outcome rule sheet before).answer ≡ Refused refusal)) → ReportOf rule sheet before (outcome rule sheet before).lent
unfolding outcome outcome_of answer said_after answer_of
outcome_reported rule sheet before given = at (too_short report_size before) refl (read sheet) refl
  where
    at : (b : Bool) → too_short report_size before ≡ b → (o : Reading) → read sheet ≡ o → ReportOf rule sheet before (outcome rule sheet before).lent
    at true s o h = absurd (given (record { number = 1; line = 0; field = 0 }) (rw s))
    at false s (refused refusal) h = absurd (given refusal (rw (s, h)))
    at false s (loaded S) h = record {
      sheet = S;
      is_read = h;
      known = read_sheet sheet S h;
      report_is = rw (s, h) (reported_lines rule (entries rule S) before.report);
      each_block = no_missing rule S;
    }

pub check_reported : {rule : Rule} {sheet : Bytes} {before after : Lent} {r : Answer} → Checked rule sheet before after r → ((refusal : Refusal) → ¬ (r ≡ Refused refusal))
    → ReportOf rule sheet before after
check_reported {rule} {sheet} {before} c given =
    subst (λ (after : Lent). ReportOf rule sheet before after) (sym (ap (λ (o : Outcome). o.lent) c.whole))
    (outcome_reported rule sheet before (λ refusal e. given refusal (ap (λ (o : Outcome). o.answer) c.whole ∙ e)))

-- "every run ends within document 01's count of block visits": where `check` answers with a report, its sheet's run under its rule is
-- over after one number of visits, which stays within the count. `check` returns no number: that the run it makes takes so many is
-- the contract of `runs::analyze`, which returns that very number (`EndsAfter`; `visits_once` of `walks` has that there is no other).
pub check_visits : {rule : Rule} {sheet : Bytes} {before after : Lent} {r : Answer} → Checked rule sheet before after r → ((refusal : Refusal) → ¬ (r ≡ Refused refusal))
    → (S : Sheet) × ((read sheet ≡ loaded S) × ((k : ℕ) × (EndsAfter rule S k × (k ≤ visit_bound rule S))))
check_visits {rule} c given = let p = check_reported c given in (p.sheet, (p.is_read, p.known.visits rule))

-- What an answer with a report leaves, under either rule: the sheet that was read, and the text of its answer, in as many bytes as the
-- answer says.
pub record TextOf (rule : Rule) (bytes left : Bytes) : Type 0 where
  pub sheet : Sheet
  pub is_read : read bytes ≡ loaded sheet
  pub is_text : left ≡ written (answer rule bytes)

apart : {Q : Type 0} {n : ℕ} {refusal : Refusal} → (Refused refusal ≡ Accepted n) ⊎ (Refused refusal ≡ Faulty n) → Q
apart (inl e) = let z : ◌≡◌ {A = ℕ} 0 1 = cc in absurd (omega arith)
apart (inr e) = let z : ◌≡◌ {A = ℕ} 0 1 = cc in absurd (omega arith)

accepted_long : (text : Bytes) {n : ℕ} → (Accepted (length text) ≡ Accepted n) ⊎ (Accepted (length text) ≡ Faulty n) → n ≡ length text
accepted_long text (inl e) = cc
accepted_long text (inr e) = let z : ◌≡◌ {A = ℕ} 0 1 = cc in absurd (omega arith)

faulty_long : (text : Bytes) {n : ℕ} → (Faulty (length text) ≡ Accepted n) ⊎ (Faulty (length text) ≡ Faulty n) → n ≡ length text
faulty_long text (inl e) = let z : ◌≡◌ {A = ℕ} 0 1 = cc in absurd (omega arith)
faulty_long text (inr e) = cc

outcome_text : (rule : Rule) (sheet : Bytes) (before : Lent) (n : ℕ)
    → ((outcome rule sheet before).answer ≡ Accepted n) ⊎ ((outcome rule sheet before).answer ≡ Faulty n)
    → TextOf rule sheet (take n (outcome rule sheet before).lent.report)
unfolding outcome outcome_of answer said_after said_of said_by answer_of report_of written laid
outcome_text rule sheet before n e = at (too_short report_size before) refl (read sheet) refl
  where
    whole : (text : Bytes) → n ≡ length text → take n (laid text before.report) ≡ text
    whole text k = ap (λ (j : ℕ). take j (laid text before.report)) k ∙ take_at text (drop (length text) before.report) (length text) refl

    lines : (ls : List Line) (text : Bytes) → let o = outcome_of (said_by ls text) before in (o.answer ≡ Accepted n) ⊎ (o.answer ≡ Faulty n)
        → take n o.lent.report ≡ written (said_by ls text)
    lines [] text f = whole text (accepted_long text f)
    lines (l ∷ ls) text f = whole text (faulty_long text f)

    at : (b : Bool) → too_short report_size before ≡ b → (o : Reading) → read sheet ≡ o
        → TextOf rule sheet (take n (outcome rule sheet before).lent.report)
    at true s o h = apart (rw s at e)
    at false s (refused refusal) h = apart (rw (s, h) at e)
    at false s (loaded S) h = record {
      sheet = S;
      is_read = h;
      is_text = rw (s, h) (lines (faults_in (entries rule S)) (report_text rule (entries rule S)) (rw (s, h) at e));
    }

check_text : {rule : Rule} {sheet : Bytes} {before after : Lent} {r : Answer} → Checked rule sheet before after r
    → (n : ℕ) → (r ≡ Accepted n) ⊎ (r ≡ Faulty n) → TextOf rule sheet (take n after.report)
check_text {rule} {sheet} {before} c n e =
    let a = sym (ap (λ (o : Outcome). o.answer) c.whole) in
    subst (λ (l : Lent). TextOf rule sheet (take n l.report)) (sym (ap (λ (o : Outcome). o.lent) c.whole))
    (outcome_text rule sheet before n (⊎_map (λ h. a ∙ h) (λ h. a ∙ h) e))

-- `itanropen_check`, where it does not refuse
export_text : {rule : ℕ} {sheet : Bytes} {before after : Lent} {r : Verdict} → Exported rule sheet before after r → ¬ (r.answer ≡ 2)
    → TextOf (rule_of rule) sheet (take r.length after.report)
unfolding verdict_of
export_text {rule} {sheet} {before} {after} {r} c given = at (outcome (rule_of rule) sheet before).answer refl
  where
    is : (a : Answer) → (outcome (rule_of rule) sheet before).answer ≡ a → r ≡ verdict_of a
    is a t = c.verdict_is ∙ ap verdict_of t

    left : (n : ℕ) → r.length ≡ n → TextOf (rule_of rule) sheet (take n (outcome (rule_of rule) sheet before).lent.report)
        → TextOf (rule_of rule) sheet (take r.length after.report)
    left n e w = rw (e, c.lent_is) w

    at : (a : Answer) → (outcome (rule_of rule) sheet before).answer ≡ a → TextOf (rule_of rule) sheet (take r.length after.report)
    at (Accepted n) t = left n (ap (λ (v : Verdict). v.length) (is (Accepted n) t)) (outcome_text (rule_of rule) sheet before n (inl t))
    at (Faulty n) t = left n (ap (λ (v : Verdict). v.length) (is (Faulty n) t)) (outcome_text (rule_of rule) sheet before n (inr t))
    at (Refused refusal) t = absurd (given (ap (λ (v : Verdict). v.answer) (is (Refused refusal) t)))

-- Document 02, A1: whatever is answered with a report, under either rule, leaves a well-formed report, in its first bytes as many as
-- the answer says.
text_well_formed : {rule : Rule} {sheet left : Bytes} → TextOf rule sheet left → bad_line left ≡ 0
text_well_formed {rule} {sheet} t = ap bad_line t.is_text ∙ report_well_formed rule sheet t.sheet t.is_read

pub check_well_formed : {rule : Rule} {sheet : Bytes} {before after : Lent} {r : Answer} → Checked rule sheet before after r
    → (n : ℕ) → (r ≡ Accepted n) ⊎ (r ≡ Faulty n) → bad_line (take n after.report) ≡ 0
check_well_formed c n e = text_well_formed (check_text c n e)

pub export_well_formed : {rule : ℕ} {sheet : Bytes} {before after : Lent} {r : Verdict} → Exported rule sheet before after r → ¬ (r.answer ≡ 2)
    → bad_line (take r.length after.report) ≡ 0
export_well_formed c given = text_well_formed (export_text c given)

-- Document 02, A5: under the house rule the line `N b` stands among them exactly when the sheet that was read misses no allocation, b is
-- one of its blocks, and no walk comes to it.
pub record UnwalkedBytes (bytes : Bytes) (b : ℕ) : Type 0 where
  pub sheet : Sheet
  pub is_read : read bytes ≡ loaded sheet
  pub unwalked : Unwalked sheet b

text_named : {sheet left : Bytes} → TextOf House sheet left → (b : ℕ) → Small b → In (unreached_line b) (pieces left) ↔ UnwalkedBytes sheet b
text_named {sheet} {left} t b small = (
  λ i. record {
    sheet = t.sheet;
    is_read = t.is_read;
    unwalked = (exactly t.sheet t.is_read).0 (subst (λ (text : Bytes). In (unreached_line b) (pieces text)) t.is_text i);
  },
  λ u. subst (λ (text : Bytes). In (unreached_line b) (pieces text)) (sym t.is_text) ((exactly u.sheet u.is_read).1 u.unwalked),
)
  where
    exactly : (S : Sheet) → read sheet ≡ loaded S → In (unreached_line b) (pieces (written (answer House sheet))) ↔ Unwalked S b
    exactly S h = named_exactly b small sheet S h

pub check_named : {sheet : Bytes} {before after : Lent} {r : Answer} → Checked House sheet before after r → (n : ℕ) → (r ≡ Accepted n) ⊎ (r ≡ Faulty n)
    → (b : ℕ) → Small b → In (unreached_line b) (pieces (take n after.report)) ↔ UnwalkedBytes sheet b
check_named c n e = text_named (check_text c n e)

pub export_named : {rule : ℕ} {sheet : Bytes} {before after : Lent} {r : Verdict} → ¬ (rule ≡ 0) → Exported rule sheet before after r → ¬ (r.answer ≡ 2)
    → (b : ℕ) → Small b → In (unreached_line b) (pieces (take r.length after.report)) ↔ UnwalkedBytes sheet b
export_named {rule} {sheet} {after = after} {r = r} house c given =
    text_named (subst (λ (chosen : Rule). TextOf chosen sheet (take r.length after.report)) (sym (number_other rule house)) (export_text c given))

-- Document 02, A4: the field of a refusal. Whatever sheet `check` refuses, the field is other than 0 exactly where the number names
-- one; then it is that of the bad line, beside what the lines before it say.

outcome_located : (rule : Rule) (sheet : Bytes) (before : Lent) (refusal : Refusal) → (outcome rule sheet before).answer ≡ Refused refusal → Located (lines sheet) 1 refusal
unfolding outcome outcome_of answer said_after answer_of said_of said_by names_field
outcome_located rule sheet before refusal e = at (too_short report_size before) refl (read sheet) refl
  where
    told : (o : Outcome) → outcome rule sheet before ≡ o → o.answer ≡ Refused refusal
    told o f = sym (ap (λ (x : Outcome). x.answer) f) ∙ e

    one : (r : Refusal) → Refused r ≡ Refused refusal → Located (lines sheet) 1 r → Located (lines sheet) 1 refusal
    one r f l = let z : r ≡ refusal = cc in subst (Located (lines sheet) 1) z l

    said : (ls : List Line) (text : Bytes) → answer_of (said_by ls text) ≡ Refused refusal → Located (lines sheet) 1 refusal
    said [] text f = let z : ◌≡◌ {A = ℕ} 0 1 = cc in absurd (omega arith)
    said (l ∷ ls) text f = let z : ◌≡◌ {A = ℕ} 0 1 = cc in absurd (omega arith)

    at : (b : Bool) → too_short report_size before ≡ b → (o : Reading) → read sheet ≡ o → Located (lines sheet) 1 refusal
    at true s o h =
        let short : Refusal = record { number = 1; line = 0; field = 0 } in
        one short (told (record { answer = Refused short; lent = before }) (rw s)) (unlocated (lines sheet) 1 1 0 refl)
    at false s (refused r) h = one r (told (outcome_of (turned_away r) before) (rw (s, h))) (read_located sheet r h)
    at false s (loaded S) h =
        said (faults_in (entries rule S)) (report_text rule (entries rule S)) (told (outcome_of (said_of rule (entries rule S)) before) (rw (s, h)))

pub check_located : {rule : Rule} {sheet : Bytes} {before after : Lent} {refusal : Refusal} → Checked rule sheet before after (Refused refusal)
    → Located (lines sheet) 1 refusal
check_located {rule} {sheet} {before} {after} {refusal} c = outcome_located rule sheet before refusal (sym (ap (λ (o : Outcome). o.answer) c.whole))
