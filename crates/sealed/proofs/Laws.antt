-- From what `check` promises, and the line that is written behind its report, to the paper's sealed outcome.
use mathlib.Core.Path.{◌≡◌, refl, sym, ap, ap₂, ◌∙◌, subst}
use mathlib.Core.Bool.{true, false}
use mathlib.Core.List.{List, ◌++◌}
use Prim.Native.Nat.{ℕ, ◌+◌, ◌≤◌}
use native.Mathlib.Omega.{arith}
use borrow.Author.Tests.{le-ltb}
use lib.ListN.{length, take, drop, replicate, length-append, length-drop, length-replicate}
use lib.Seq.{take_at, sets, sets-eq, drop-append-add, drop-drop}
use Rattle.lists.specs.Sets.{Wrote, length_wrote}
use Rattle.paper.specs.Text.{Bytes}
use Rattle.paper.specs.Limits.{report_size, queue_size, seal_size, sealed_size}
use Rattle.paper.specs.Answer.{Said, accepted, faulty, turned_away, answer, written, Lent, too_short, laid, zeros, answer_of, report_of, Outcome, outcome_of, outcome}
use Rattle.paper.specs.Seal.{crc_of, seal_line, sealed, sealed_said, sealed_outcome}
use Rattle.paper.specs.declared.Rule.{Rule}
use Rattle.paper.specs.declared.Refusal.{Refusal}
use Rattle.paper.specs.declared.Answer.{Answer}
use Rattle.paper.specs.declared.Answer.TheVariants.{Accepted, Faulty, Refused}
use Rattle.checker.specs.Checked.{lent, Checked, TextOutcome, text_outcome, Stated, verdict_of, rule_of}
use Rattle.checker.specs.Lengths.{long, by_queue}
use Rattle.checker.specs.declared.Verdict.{Verdict}
use Rattle.seal.specs.Theorems.{line_length}
use Rattle.sealed.specs.Sealed.{AnswerInside, CheckedSealed, ExportedSealed}

-- the line behind a text that was laid, and the sealed text laid at once
module _ (text report : Bytes) (room : length text + seal_size ≤ length report) where
  abbrev line : Bytes
  line = seal_line (crc_of text)

  laid_text : take (length text) (laid text report) ≡ text
  unfolding laid
  laid_text = take_at text (drop (length text) report) (length text) refl

  laid_length : length (laid text report) ≡ length report
  unfolding laid
  laid_length = omega (arith, length-append text (drop (length text) report), length-drop (length text) report)

  behind : drop (length text + seal_size) (laid text report) ≡ drop (length text + seal_size) report
  unfolding laid
  behind = drop-append-add text (drop (length text) report) seal_size ∙ drop-drop seal_size (length text) report

  pub laid_sealed : {report' : List ℕ} {r : ℕ} → Wrote (laid text report) (length text) (seal_line (crc_of (take (length text) (laid text report)))) report' r
      → (report' ≡ laid (sealed text) report) × (r ≡ length (sealed text))
  unfolding laid sealed
  laid_sealed {report'} {r} w =
      let one : seal_line (crc_of (take (length text) (laid text report))) ≡ line = ap (λ (t : Bytes). seal_line (crc_of t)) laid_text in
      let eleven : length line ≡ seal_size = line_length (crc_of text) in
      let whole = sets-eq line (laid text report) (length text) (omega (arith, laid_length)) in
      let ends : length text + length line ≡ length (text ++ line) = sym (length-append text line) in
      let rest : drop (length text + length line) (laid text report) ≡ drop (length (text ++ line)) report =
      ap (λ (n : ℕ). drop (length text + n) (laid text report)) eleven ∙ behind
      ∙ ap (λ (n : ℕ). drop n report) (ap (λ (n : ℕ). length text + n) (sym eleven) ∙ ends) in (
        w.list ∙ ap (λ (l : Bytes). sets (laid text report) (length text) l) one ∙ whole
            ∙ ap₂ (λ (a b : Bytes). a ++ line ++ b) laid_text rest,
        w.next ∙ ap (λ (l : Bytes). length text + length l) one ∙ ends,
      )

-- a report that is long enough for the seal is long enough without it
module _ (report words queue : List ℕ) where
  pub long_plain : too_short sealed_size (lent report words queue) ≡ false → too_short report_size (lent report words queue) ≡ false
  long_plain e =
      let l = long sealed_size report words queue e in
      sym (by_queue report_size report words queue (omega (arith, l.0)) l.1) ∙ le-ltb (length queue) queue_size l.2

-- refusal 1 changes nothing
pub turned_short : (rule : Rule) (sheet : Bytes) (before : Lent) → too_short sealed_size before ≡ true
    → CheckedSealed rule sheet before before (Refused (record { number = 1; line = 0; field = 0 }))
unfolding sealed_outcome
turned_short rule sheet before e = record { whole = rw e; inside = tt }

-- an answer that `check` gave to buffers with room for the seal
module _ {rule : Rule} {sheet : Bytes} {report words queue : List ℕ} {after : Lent} {a : Answer}
    (c : Checked rule sheet (lent report words queue) after a) (room : too_short sealed_size (lent report words queue) ≡ false) where
  -- what was said of the sheet
  said_whole : (said : Said) → answer rule sheet ≡ said → ◌≡◌ {A = Outcome} (record { answer = a; lent = after }) (outcome_of said (lent report words queue))
  unfolding outcome
  said_whole said e = c.whole ∙ rw (long_plain report words queue room, e)

  sealed_is : (said : Said) → answer rule sheet ≡ said
      → sealed_outcome rule sheet (lent report words queue) ≡ outcome_of (sealed_said said) (lent report words queue)
  unfolding sealed_outcome
  sealed_is said e = rw (room, e)

  -- a report of n bytes, accepted or faulty
  pub record TextOf (said : Bytes → Said) (n : ℕ) : Type 0 where
    pub text : Bytes
    pub is_said : answer rule sheet ≡ said text
    pub length_is : n ≡ length text
    pub report_is : after.report ≡ laid text report
    pub words_is : after.words ≡ zeros words
    pub queue_is : after.queue ≡ zeros queue
    pub has_room : length text + seal_size ≤ length report

  module _ {n : ℕ} (small : n ≤ report_size) where
    roomy : (text : Bytes) → n ≡ length text → length text + seal_size ≤ length report
    roomy text e = let l = long sealed_size report words queue room in omega (arith, l.0)

    pub accepted_text : a ≡ Accepted n → TextOf accepted n
    unfolding outcome_of answer_of report_of
    accepted_text e = at (answer rule sheet) refl
      where
        at : (said : Said) → answer rule sheet ≡ said → TextOf accepted n
        at (accepted text) t =
            let o = said_whole (accepted text) t in
            let w = ap (λ (x : Outcome). x.answer) o in
            let k : n ≡ length text = cc in
            record {
              text = text;
              is_said = t;
              length_is = k;
              report_is = ap (λ (x : Outcome). x.lent.report) o;
              words_is = ap (λ (x : Outcome). x.lent.words) o;
              queue_is = ap (λ (x : Outcome). x.lent.queue) o;
              has_room = roomy text k;
            }
        at (faulty text) t = let w = ap (λ (x : Outcome). x.answer) (said_whole (faulty text) t) in let z : ◌≡◌ {A = ℕ} 0 1 = cc in absurd (omega arith)
        at (turned_away q) t = let w = ap (λ (x : Outcome). x.answer) (said_whole (turned_away q) t) in let z : ◌≡◌ {A = ℕ} 0 1 = cc in absurd (omega arith)

    pub faulty_text : a ≡ Faulty n → TextOf faulty n
    unfolding outcome_of answer_of report_of
    faulty_text e = at (answer rule sheet) refl
      where
        at : (said : Said) → answer rule sheet ≡ said → TextOf faulty n
        at (faulty text) t =
            let o = said_whole (faulty text) t in
            let w = ap (λ (x : Outcome). x.answer) o in
            let k : n ≡ length text = cc in
            record {
              text = text;
              is_said = t;
              length_is = k;
              report_is = ap (λ (x : Outcome). x.lent.report) o;
              words_is = ap (λ (x : Outcome). x.lent.words) o;
              queue_is = ap (λ (x : Outcome). x.lent.queue) o;
              has_room = roomy text k;
            }
        at (accepted text) t = let w = ap (λ (x : Outcome). x.answer) (said_whole (accepted text) t) in let z : ◌≡◌ {A = ℕ} 0 1 = cc in absurd (omega arith)
        at (turned_away q) t = let w = ap (λ (x : Outcome). x.answer) (said_whole (turned_away q) t) in let z : ◌≡◌ {A = ℕ} 0 1 = cc in absurd (omega arith)

  module _ {said : Bytes → Said} {n : ℕ} (t : TextOf said n) where
    pub room_for_line : n + seal_size ≤ length after.report
    room_for_line = omega (arith, t.length_is, ap length t.report_is, laid_length t.text report t.has_room, t.has_room)

    -- the line behind it
    module _ {report' : List ℕ} {r : ℕ} (w : Wrote after.report n (seal_line (crc_of (take n after.report))) report' r) where
      line_behind : (report' ≡ laid (sealed t.text) report) × (r ≡ length (sealed t.text))
      line_behind =
          let w₁ : Wrote (laid t.text report) n (seal_line (crc_of (take n (laid t.text report)))) report' r = rw t.report_is at w in
          laid_sealed t.text report t.has_room (rw t.length_is at w₁)

      pub ends_inside : r ≤ length report'
      ends_inside = omega (arith, w.next, line_length (crc_of (take n after.report)), length_wrote w, room_for_line)

      pub buffers : lent report' after.words after.queue ≡ lent (laid (sealed t.text) report) (zeros words) (zeros queue)
      buffers = rw (line_behind.0, t.words_is, t.queue_is)

      pub size : r ≡ length (sealed t.text)
      size = line_behind.1

  module _ {n : ℕ} {report' : List ℕ} {r : ℕ} (w : Wrote after.report n (seal_line (crc_of (take n after.report))) report' r) where
    pub sealed_accepted : TextOf accepted n → CheckedSealed rule sheet (lent report words queue) (lent report' after.words after.queue) (Accepted r)
    unfolding outcome_of answer_of report_of sealed_said
    sealed_accepted t = record { whole = rw (buffers t w, size t w) (sym (sealed_is (accepted t.text) t.is_said)); inside = ends_inside t w }

    pub sealed_faulty : TextOf faulty n → CheckedSealed rule sheet (lent report words queue) (lent report' after.words after.queue) (Faulty r)
    unfolding outcome_of answer_of report_of sealed_said
    sealed_faulty t = record { whole = rw (buffers t w, size t w) (sym (sealed_is (faulty t.text) t.is_said)); inside = ends_inside t w }

  -- a refusal stays as it is
  pub refused_sealed : {refusal : Refusal} → a ≡ Refused refusal → CheckedSealed rule sheet (lent report words queue) after (Refused refusal)
  unfolding outcome_of answer_of report_of sealed_said
  refused_sealed {refusal} e = at (answer rule sheet) refl
    where
      at : (said : Said) → answer rule sheet ≡ said → CheckedSealed rule sheet (lent report words queue) after (Refused refusal)
      at (accepted text) t = let w = ap (λ (o : Outcome). o.answer) (said_whole (accepted text) t) in let z : ◌≡◌ {A = ℕ} 0 1 = cc in absurd (omega arith)
      at (faulty text) t = let w = ap (λ (o : Outcome). o.answer) (said_whole (faulty text) t) in let z : ◌≡◌ {A = ℕ} 0 1 = cc in absurd (omega arith)
      at (turned_away q) t = record {
        whole = ap (λ (x : Answer). record { answer = x; lent = after }) (sym e) ∙ said_whole (turned_away q) t ∙ sym (sealed_is (turned_away q) t);
        inside = tt;
      }

-- the same over the C interface
pub exported : {number : ℕ} {rule : Rule} {sheet : Bytes} {before after : Lent} {a : Answer} {r : Verdict}
    → CheckedSealed rule sheet before after a → rule ≡ rule_of number → r ≡ verdict_of a → ExportedSealed number sheet before after r
exported {sheet} {before} c e v =
    let w = c.whole ∙ ap (λ (rule : Rule). sealed_outcome rule sheet before) e in
    record { verdict_is = v ∙ ap (λ (o : Outcome). verdict_of o.answer) w; lent_is = ap (λ (o : Outcome). o.lent) w }

-- what a program writes
zeros_twice : (buffer : List ℕ) → zeros (zeros buffer) ≡ zeros buffer
unfolding zeros
zeros_twice buffer = ap (λ (n : ℕ). replicate n 0) (length-replicate (length buffer) 0)

zeros_length : (buffer : List ℕ) → length (zeros buffer) ≡ length buffer
unfolding zeros
zeros_length buffer = length-replicate (length buffer) 0

stated : {size : ℕ} {text : Bytes} {before after : Lent} {n : ℕ} → too_short size before ≡ false → n ≡ length text
    → after ≡ lent (laid text before.report) (zeros before.words) (zeros before.queue) → n ≤ length after.report → Stated size text before after n
unfolding text_outcome
stated s k a fits = record { whole = rw (s, k, a); fits = fits }

pub text_short : (text : Bytes) (before : Lent) → too_short sealed_size before ≡ true → Stated sealed_size text before before 0
unfolding text_outcome
text_short text before e = record { whole = rw e; fits = omega arith }

module _ {rule : Rule} {sheet : Bytes} {report words queue : List ℕ} {after : Lent} {a : Answer}
    (c : CheckedSealed rule sheet (lent report words queue) after a) (room : too_short sealed_size (lent report words queue) ≡ false) where
  said_sealed : (said : Said) → answer rule sheet ≡ said
      → ◌≡◌ {A = Outcome} (record { answer = a; lent = after }) (outcome_of (sealed_said said) (lent report words queue))
  unfolding sealed_outcome
  said_sealed said e = c.whole ∙ rw (room, e)

  pub text_accepted : (n : ℕ) → a ≡ Accepted n → Stated sealed_size (written (sealed_said (answer rule sheet))) (lent report words queue) after n
  unfolding outcome_of answer_of report_of sealed_said written
  text_accepted n e = at (answer rule sheet) refl
    where
      at : (said : Said) → answer rule sheet ≡ said → Stated sealed_size (written (sealed_said (answer rule sheet))) (lent report words queue) after n
      at (accepted text) t =
          let o = said_sealed (accepted text) t in
          let w = ap (λ (x : Outcome). x.answer) o in
          let k : n ≡ length (sealed text) = cc in
          rw t (stated {text = sealed text} room k (ap (λ (x : Outcome). x.lent) o) (subst (AnswerInside after.report) e c.inside))
      at (faulty text) t = let w = ap (λ (x : Outcome). x.answer) (said_sealed (faulty text) t) in let z : ◌≡◌ {A = ℕ} 0 1 = cc in absurd (omega arith)
      at (turned_away q) t = let w = ap (λ (x : Outcome). x.answer) (said_sealed (turned_away q) t) in let z : ◌≡◌ {A = ℕ} 0 1 = cc in absurd (omega arith)

  pub text_faulty : (n : ℕ) → a ≡ Faulty n → Stated sealed_size (written (sealed_said (answer rule sheet))) (lent report words queue) after n
  unfolding outcome_of answer_of report_of sealed_said written
  text_faulty n e = at (answer rule sheet) refl
    where
      at : (said : Said) → answer rule sheet ≡ said → Stated sealed_size (written (sealed_said (answer rule sheet))) (lent report words queue) after n
      at (faulty text) t =
          let o = said_sealed (faulty text) t in
          let w = ap (λ (x : Outcome). x.answer) o in
          let k : n ≡ length (sealed text) = cc in
          rw t (stated {text = sealed text} room k (ap (λ (x : Outcome). x.lent) o) (subst (AnswerInside after.report) e c.inside))
      at (accepted text) t = let w = ap (λ (x : Outcome). x.answer) (said_sealed (accepted text) t) in let z : ◌≡◌ {A = ℕ} 0 1 = cc in absurd (omega arith)
      at (turned_away q) t = let w = ap (λ (x : Outcome). x.answer) (said_sealed (turned_away q) t) in let z : ◌≡◌ {A = ℕ} 0 1 = cc in absurd (omega arith)

  -- a refusal: the buffers are as they were, the scratch is zero, and so the plain call writes its line
  cleared : Lent
  cleared = lent report (zeros words) (zeros queue)

  still_long : too_short report_size cleared ≡ false
  unfolding cleared
  still_long =
      let l = long sealed_size report words queue room in
      sym (by_queue report_size report (zeros words) (zeros queue) (omega (arith, l.0)) (omega (arith, l.1, zeros_length words)))
      ∙ le-ltb (length (zeros queue)) queue_size (omega (arith, l.2, zeros_length queue))

  plain_text : (text : Bytes) {last : Lent} {n : ℕ} → Stated report_size text cleared last n → Stated sealed_size text (lent report words queue) last n
  unfolding text_outcome cleared
  plain_text text {last} {n} p =
      let o = p.whole in
      let left : TextOutcome = record { text_length = length text; buffers = lent (laid text report) (zeros words) (zeros queue) } in
      let w : ◌≡◌ {A = TextOutcome} (record { text_length = n; buffers = last }) left =
      o ∙ rw (still_long, zeros_twice words, zeros_twice queue) in
      record { whole = w ∙ rw room; fits = p.fits }

  pub text_refused : (refusal : Refusal) → a ≡ Refused refusal → {last : Lent} {n : ℕ} → Stated report_size (written (answer rule sheet)) after last n
      → Stated sealed_size (written (sealed_said (answer rule sheet))) (lent report words queue) last n
  unfolding outcome_of answer_of report_of sealed_said cleared
  text_refused refusal e {last} {n} p = at (answer rule sheet) refl
    where
      at : (said : Said) → answer rule sheet ≡ said → Stated sealed_size (written (sealed_said (answer rule sheet))) (lent report words queue) last n
      at (accepted text) t = let w = ap (λ (x : Outcome). x.answer) (said_sealed (accepted text) t) in let z : ◌≡◌ {A = ℕ} 0 1 = cc in absurd (omega arith)
      at (faulty text) t = let w = ap (λ (x : Outcome). x.answer) (said_sealed (faulty text) t) in let z : ◌≡◌ {A = ℕ} 0 1 = cc in absurd (omega arith)
      at (turned_away q) t =
          let left : after ≡ cleared = ap (λ (x : Outcome). x.lent) (said_sealed (turned_away q) t) in
          let p₁ : Stated report_size (written (turned_away q)) after last n = rw t at p in
          let p₂ : Stated report_size (written (turned_away q)) cleared last n = rw left at p₁ in
          rw t (plain_text (written (turned_away q)) p₂)
