-- What a sealed call means, over its promises `CheckedSealed` and `ExportedSealed`: one outcome only, the buffers included; the text that it
-- leaves is good; and it accepts exactly as the plain call does.
use mathlib.Core.Path.{◌≡◌, refl, sym, ap, ◌∙◌, subst}
use mathlib.Core.Logic.{◌↔◌}
use mathlib.Core.Bool.{Bool, true, false}
use mathlib.Core.List.{List, [], ◌∷◌}
use Prim.Native.Nat.{ℕ}
use native.Mathlib.Omega.{arith}
use lib.ListN.{length, take, drop}
use lib.Seq.{take_at}
use Rattle.paper.specs.Text.{Bytes}
use Rattle.paper.specs.Limits.{sealed_size}
use Rattle.paper.specs.Refusals.{Reading, loaded, refused, read}
use Rattle.paper.specs.Report.{Line, Entry, entries, faults_in, report_text}
use Rattle.paper.specs.Answer.{Said, accepted, faulty, turned_away, said_by, said_of, said_after, answer, Lent, too_short, laid, answer_of, report_of, Outcome, outcome_of}
use Rattle.paper.specs.Seal.{sealed, seal_of, sealed_said, sealed_outcome}
use Rattle.paper.specs.declared.Rule.{Rule}
use Rattle.paper.specs.declared.Rule.TheVariants.{House}
use Rattle.paper.specs.declared.Refusal.{Refusal}
use Rattle.paper.specs.declared.Answer.{Answer}
use Rattle.paper.specs.declared.Answer.TheVariants.{Accepted, Faulty, Refused}
use Rattle.paper.specs.declared.Seal.TheVariants.{Good}
use Rattle.walks.proofs.Theorems.{Acceptable, AcceptedBytes, acceptable, accepted_bytes, bytes_acceptance}
use Rattle.checker.specs.declared.Verdict.{Verdict}
use Rattle.seal.specs.Theorems.{report_good}
use Rattle.sealed.specs.Sealed.{CheckedSealed, ExportedSealed}

pub sealed_one_outcome : {rule : Rule} {sheet : Bytes} {before after after' : Lent} {r r' : Answer} → CheckedSealed rule sheet before after r
    → CheckedSealed rule sheet before after' r' → (r ≡ r') × (after ≡ after')
sealed_one_outcome p q = let e = p.whole ∙ sym q.whole in (ap (λ (o : Outcome). o.answer) e, ap (λ (o : Outcome). o.lent) e)

pub export_one_outcome : {rule : ℕ} {sheet : Bytes} {before after after' : Lent} {r r' : Verdict} → ExportedSealed rule sheet before after r
    → ExportedSealed rule sheet before after' r' → (r ≡ r') × (after ≡ after')
export_one_outcome p q = (p.verdict_is ∙ sym q.verdict_is, p.lent_is ∙ sym q.lent_is)

-- the text of an answer is that of a report
abbrev IsReport : Rule → Bytes → Type 0
IsReport rule text = (es : List Entry) × (text ≡ report_text rule es)

text_of : Said → Bytes
text_of (accepted text) = text
text_of (faulty text) = text
text_of (turned_away refusal) = []

said_report : (rule : Rule) (sheet : Bytes) (said : Said) → answer rule sheet ≡ said → ((refusal : Refusal) → said ≡ turned_away refusal → ⊥)
    → IsReport rule (text_of said)
unfolding answer said_after said_of said_by text_of
said_report rule sheet said e given = at (read sheet) e
  where
    text_by : (ls : List Line) (text : Bytes) → text_of (said_by ls text) ≡ text
    text_by [] text = refl
    text_by (l ∷ ls) text = refl

    at : (o : Reading) → said_after rule o ≡ said → IsReport rule (text_of said)
    at (loaded S) f = let es = entries rule S in (es, ap text_of (sym f) ∙ text_by (faults_in es) (report_text rule es))
    at (refused refusal) f = absurd (given refusal (sym f))

-- the answer and the report of a call with a report
pub record Told (rule : Rule) (before : Lent) (n : ℕ) (report : List ℕ) : Type 0 where
  pub lines : List Entry
  pub length_is : n ≡ length (sealed (report_text rule lines))
  pub report_is : report ≡ laid (sealed (report_text rule lines)) before.report

apart : {Q : Type 0} {text : Bytes} {refusal : Refusal} → accepted text ≡ turned_away refusal → Q
apart e = let z : ◌≡◌ {A = ℕ} 0 1 = cc in absurd (omega arith)

apart_faulty : {Q : Type 0} {text : Bytes} {refusal : Refusal} → faulty text ≡ turned_away refusal → Q
apart_faulty e = let z : ◌≡◌ {A = ℕ} 0 1 = cc in absurd (omega arith)

module _ {rule : Rule} {sheet : Bytes} {before after : Lent} where
  accepted_told : {n : ℕ} → CheckedSealed rule sheet before after (Accepted n)
      → (Told rule before n after.report) × ((text : Bytes) × (answer rule sheet ≡ accepted text))
  unfolding sealed_outcome outcome_of answer_of report_of sealed_said text_of
  accepted_told {n} c = at (too_short sealed_size before) refl (answer rule sheet) refl
    where
      told : (o : Outcome) → sealed_outcome rule sheet before ≡ o → ◌≡◌ {A = Outcome} (record { answer = Accepted n; lent = after }) o
      told o e = c.whole ∙ e

      at : (b : Bool) → too_short sealed_size before ≡ b → (said : Said) → answer rule sheet ≡ said
          → (Told rule before n after.report) × ((text : Bytes) × (answer rule sheet ≡ accepted text))
      at true s said t =
          let w = ap (λ (x : Outcome). x.answer) (told (record { answer = Refused (record { number = 1; line = 0; field = 0 }); lent = before }) (rw s)) in
          let z : ◌≡◌ {A = ℕ} 0 1 = cc in absurd (omega arith)
      at false s (accepted text) t =
          let o = told (outcome_of (accepted (sealed text)) before) (rw (s, t)) in
          let w = ap (λ (x : Outcome). x.answer) o in
          let k : n ≡ length (sealed text) = cc in
          let r = said_report rule sheet (accepted text) t (λ refusal e. apart e) in (
            record {
              lines = r.0;
              length_is = k ∙ ap (λ (x : Bytes). length (sealed x)) r.1;
              report_is = ap (λ (x : Outcome). x.lent.report) o ∙ ap (λ (x : Bytes). laid (sealed x) before.report) r.1;
            },
            (text, t),
          )
      at false s (faulty text) t =
          let w = ap (λ (x : Outcome). x.answer) (told (outcome_of (faulty (sealed text)) before) (rw (s, t))) in
          let z : ◌≡◌ {A = ℕ} 0 1 = cc in absurd (omega arith)
      at false s (turned_away refusal) t =
          let w = ap (λ (x : Outcome). x.answer) (told (outcome_of (turned_away refusal) before) (rw (s, t))) in
          let z : ◌≡◌ {A = ℕ} 0 1 = cc in absurd (omega arith)

  faulty_told : {n : ℕ} → CheckedSealed rule sheet before after (Faulty n) → Told rule before n after.report
  unfolding sealed_outcome outcome_of answer_of report_of sealed_said text_of
  faulty_told {n} c = at (too_short sealed_size before) refl (answer rule sheet) refl
    where
      told : (o : Outcome) → sealed_outcome rule sheet before ≡ o → ◌≡◌ {A = Outcome} (record { answer = Faulty n; lent = after }) o
      told o e = c.whole ∙ e

      at : (b : Bool) → too_short sealed_size before ≡ b → (said : Said) → answer rule sheet ≡ said → Told rule before n after.report
      at true s said t =
          let w = ap (λ (x : Outcome). x.answer) (told (record { answer = Refused (record { number = 1; line = 0; field = 0 }); lent = before }) (rw s)) in
          let z : ◌≡◌ {A = ℕ} 0 1 = cc in absurd (omega arith)
      at false s (accepted text) t =
          let w = ap (λ (x : Outcome). x.answer) (told (outcome_of (accepted (sealed text)) before) (rw (s, t))) in
          let z : ◌≡◌ {A = ℕ} 0 1 = cc in absurd (omega arith)
      at false s (faulty text) t =
          let o = told (outcome_of (faulty (sealed text)) before) (rw (s, t)) in
          let w = ap (λ (x : Outcome). x.answer) o in
          let k : n ≡ length (sealed text) = cc in
          let r = said_report rule sheet (faulty text) t (λ refusal e. apart_faulty e) in
          record {
            lines = r.0;
            length_is = k ∙ ap (λ (x : Bytes). length (sealed x)) r.1;
            report_is = ap (λ (x : Outcome). x.lent.report) o ∙ ap (λ (x : Bytes). laid (sealed x) before.report) r.1;
          }
      at false s (turned_away refusal) t =
          let w = ap (λ (x : Outcome). x.answer) (told (outcome_of (turned_away refusal) before) (rw (s, t))) in
          let z : ◌≡◌ {A = ℕ} 0 1 = cc in absurd (omega arith)

-- the text that a call leaves is good
told_good : {rule : Rule} {before : Lent} {n : ℕ} {report : List ℕ} → Told rule before n report → seal_of (take n report) ≡ Good
unfolding laid
told_good {rule} {before} {n} {report} t =
    let text = sealed (report_text rule t.lines) in
    let whole : take (length text) (laid text before.report) ≡ text = take_at text (drop (length text) before.report) (length text) refl in
    let e : take n report ≡ text =
    ap (λ (l : List ℕ). take n l) t.report_is ∙ ap (λ (k : ℕ). take k (laid text before.report)) t.length_is ∙ whole in
    ap seal_of e ∙ report_good rule t.lines

pub accepted_good : {rule : Rule} {sheet : Bytes} {before after : Lent} {n : ℕ} → CheckedSealed rule sheet before after (Accepted n)
    → seal_of (take n after.report) ≡ Good
accepted_good c = told_good (accepted_told c).0

pub faulty_good : {rule : Rule} {sheet : Bytes} {before after : Lent} {n : ℕ} → CheckedSealed rule sheet before after (Faulty n)
    → seal_of (take n after.report) ≡ Good
faulty_good c = told_good (faulty_told c)

-- demand 3 for the sealed call: accepted under the house rule exactly when the sheet is read and the acceptance sentence holds of it
pub sealed_accepted : {sheet : Bytes} {before after : Lent} {n : ℕ} → CheckedSealed House sheet before after (Accepted n) → AcceptedBytes sheet
sealed_accepted {sheet} c = let t = (accepted_told c).1 in accepted_bytes sheet t.0 t.1

pub sealed_exactly : {sheet : Bytes} {before after : Lent} {r : Answer} → CheckedSealed House sheet before after r → too_short sealed_size before ≡ false
    → ((n : ℕ) × (r ≡ Accepted n)) ↔ Acceptable sheet
unfolding sealed_outcome outcome_of answer_of sealed_said
sealed_exactly {sheet} {before} {after} {r} c long =
    let said = ap (λ (o : Outcome). o.answer) c.whole in (
      λ p. acceptable (sealed_accepted (subst (CheckedSealed House sheet before after) p.1 c)),
      λ a. (length (sealed (report_text House (entries House a.sheet))), said ∙ rw (long, (bytes_acceptance sheet a.sheet a.is_read).1 a.sentence)),
    )
