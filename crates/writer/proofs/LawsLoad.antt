-- Words that a sheet was loaded into hold its form, and what the loading call leaves, answer by answer.
use Rattle.std.specs.Prelude.{Result, Ok, Err}
use mathlib.Core.Path.{◌≡◌, refl, sym, ap, ◌∙◌}
use mathlib.Core.Bool.{true}
use mathlib.Core.List.{List}
use mathlib.Core.Option.{some}
use Prim.Native.Nat.{ℕ, suc, zero, ◌+◌, ◌≤◌, ◌<◌}
use native.Mathlib.Omega.{arith}
use borrow.Author.Tests.{le-leb}
use lib.ListN.{length, get_or, replicate, length-replicate}
use Rattle.paper.specs.Text.{Bytes}
use Rattle.paper.specs.Sheet.{Sheet}
use Rattle.paper.specs.Limits.{max_blocks, max_succs, max_steps, words_size}
use Rattle.paper.specs.Refusals.{Reading, loaded, refused, read}
use Rattle.paper.specs.Answer.{zeros}
use Rattle.paper.specs.Writing.{SheetOut, room_outcome}
use Rattle.paper.specs.declared.Unwritten.{Unwritten}
use Rattle.paper.specs.declared.Unwritten.TheVariants.{NoSheet}
use Rattle.paper.specs.declared.Refusal.{Refusal}
use Rattle.layout.specs.Layout.{opened_word, steps_word}
use Rattle.loaded.specs.Loaded.{first_step, step_total, succ_total, sheet_of, BlockBounds, Loaded}
use Rattle.sheet.specs.Reading.{loading_of, Load}
use Rattle.spelling.specs.Theorems.{own_bytes}
use Rattle.writer.specs.Form.{blocks_fit, fits, form_of, form_outcome}
use Rattle.writer.specs.Within.{text_within}
use Rattle.writer.specs.Load.{too_short, SheetLoaded, back_outcome, WrittenBack, load_verdict_of, LoadExported}
use Rattle.writer.specs.declared.LoadVerdict.{LoadVerdict}

-- words that a sheet was loaded into hold its form

blocks_loaded : (words : List ℕ) (b n : ℕ) → ((i : ℕ) → b ≤ i → i < b + n → BlockBounds words i) → get_or words steps_word 0 ≤ max_steps
    → blocks_fit words b n ≡ true
unfolding blocks_fit
blocks_loaded words b zero each few = refl
blocks_loaded words b (suc n) each few =
    let here = each b (omega arith) (omega arith) in
    rw (le-leb (succ_total words b) max_succs here.succs, le-leb (first_step words b + step_total words b) max_steps (omega (arith, here.steps)))
    (blocks_loaded words (b + 1) n (λ i p q. each i (omega arith) (omega arith)) few)

pub loaded_form : (words : List ℕ) → words_size ≤ length words → Loaded words → form_of words ≡ some (sheet_of words)
unfolding form_of fits
loaded_form words size l =
    let few = l.bounds.opened in
    let most = l.bounds.blocks in
    rw (
      le-leb words_size (length words) size,
      le-leb (get_or words opened_word 0) max_blocks (omega arith),
      blocks_loaded words 0 (get_or words opened_word 0) (λ i p q. l.bounds.each_block i (omega arith)) l.bounds.steps,
    )

-- the call's answers

loaded_not_refused : {Q : Type 0} {refusal : Refusal} (R : Reading) → R ≡ refused refusal → (Ok tt) ≡ loading_of R → Q
unfolding loading_of
loaded_not_refused R e p = let q = rw e at p in let z : ◌≡◌ {A = ℕ} 0 1 = cc in absurd (omega arith)

refused_not_loaded : {Q : Type 0} {refusal : Refusal} (R : Reading) (S : Sheet) → R ≡ loaded S → Err refusal ≡ loading_of R → Q
unfolding loading_of
refused_not_loaded R S e p = let q = rw e at p in let z : ◌≡◌ {A = ℕ} 0 1 = cc in absurd (omega arith)

pub refused_short : (sheet : Bytes) (words : List ℕ) → length words < words_size → SheetLoaded sheet words words (Err too_short)
refused_short sheet words h = record {
  short = λ p. (refl, refl);
  answer = λ p. absurd (omega arith);
  same_length = refl;
  form = λ p S q. absurd (omega arith);
  cleared = λ p refusal q. absurd (omega arith);
}

module _ {sheet : Bytes} {before after : List ℕ} {r : Result (Unit {0}) Refusal} (size : words_size ≤ length before) (l : Load sheet before after r) where
  pub read_loaded : r ≡ (Ok tt) → SheetLoaded sheet before after (Ok tt)
  read_loaded e = record {
    short = λ p. absurd (omega arith);
    answer = λ p. sym e ∙ l.answer;
    same_length = l.same_length;
    form = λ p S q. let m = l.meaning S q in loaded_form after (omega (arith, l.same_length)) m.1 ∙ ap some m.0;
    cleared = λ p refusal q. loaded_not_refused (read sheet) q (sym e ∙ l.answer);
  }

  pub read_refused : (refusal : Refusal) (later : List ℕ) → r ≡ Err refusal → later ≡ replicate (length after) 0
      → SheetLoaded sheet before later (Err refusal)
  unfolding zeros
  read_refused refusal later e z = record {
    short = λ p. absurd (omega arith);
    answer = λ p. sym e ∙ l.answer;
    same_length = rw z (length-replicate (length after) 0 ∙ l.same_length);
    form = λ p S q. refused_not_loaded (read sheet) S q (sym e ∙ l.answer);
    cleared = λ p refusal q. z ∙ ap (λ (n : ℕ). replicate n 0) l.same_length;
  }

-- a sheet written back

abbrev said : Result ℕ Unwritten → List ℕ → SheetOut
said answer after = record { answer = answer; out = after }

no_text : {Q : Type 0} {n : ℕ} → (Err NoSheet) ≡ Ok n → Q
no_text q = let z : ◌≡◌ {A = ℕ} 0 1 = cc in absurd (omega arith)

pub back_short : (sheet : Bytes) (words out : List ℕ) → length words < words_size → WrittenBack sheet words out words out (Err NoSheet)
back_short sheet words out h = record {
  short = λ p. (refl, refl, refl);
  back = λ p. absurd (omega arith);
  cleared = λ p. absurd (omega arith);
  within = λ n e. no_text e;
}

refused_only : {Q : Type 0} (R : Reading) (refusal : Refusal) → Err refusal ≡ loading_of R → ((q : Refusal) → R ≡ refused q → Q) → Q
unfolding loading_of
refused_only (loaded S) refusal e k = let z : ◌≡◌ {A = ℕ} 0 1 = cc in absurd (omega arith)
refused_only (refused q) refusal e k = k q refl

loaded_only : {Q : Type 0} (R : Reading) → (Ok tt) ≡ loading_of R → ((S : Sheet) → R ≡ loaded S → Q) → Q
unfolding loading_of
loaded_only (loaded S) e k = k S refl
loaded_only (refused q) e k = let z : ◌≡◌ {A = ℕ} 0 1 = cc in absurd (omega arith)

module _ {sheet : Bytes} {before after : List ℕ} {r : Result (Unit {0}) Refusal} (size : words_size ≤ length before) (l : SheetLoaded sheet before after r) (out : List ℕ) where
  pub back_refused : (refusal : Refusal) → r ≡ Err refusal → WrittenBack sheet before out after out (Err NoSheet)
  unfolding back_outcome
  back_refused refusal e = refused_only (read sheet) refusal (sym e ∙ l.answer size) λ q p. record {
    short = λ h. absurd (omega arith);
    back = λ h. rw p;
    cleared = λ h. l.cleared size q p;
    within = λ n f. no_text f;
  }

  pub back_written : (written : Result ℕ Unwritten) (out' later : List ℕ) → r ≡ (Ok tt) → said written out' ≡ form_outcome (form_of after) out
      → later ≡ replicate (length after) 0 → WrittenBack sheet before out later out' written
  unfolding back_outcome form_outcome zeros
  back_written written out' later e w z = loaded_only (read sheet) (sym e ∙ l.answer size) λ S p.
      let own : said written out' ≡ room_outcome sheet out = (rw (l.form size S p) at w) ∙ own_bytes sheet S out p in
      record {
        short = λ h. absurd (omega arith);
        back = λ h. rw p own;
        cleared = λ h. z ∙ ap (λ (n : ℕ). replicate n 0) l.same_length;
        within = λ n f. text_within sheet out out' n (sym own ∙ ap (λ (a : Result ℕ Unwritten). said a out') f);
      }

pub load_exported : {sheet : Bytes} {before after : List ℕ} {r : Result (Unit {0}) Refusal} {v : LoadVerdict} → SheetLoaded sheet before after r → v ≡ load_verdict_of r
    → LoadExported sheet before after v
load_exported s e = record {
  short = λ p. (e ∙ ap load_verdict_of (s.short p).0, (s.short p).1);
  answer = λ p. e ∙ ap load_verdict_of (s.answer p);
  same_length = s.same_length;
  form = s.form;
  cleared = s.cleared;
}
