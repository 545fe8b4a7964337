-- What a program writes: from the outcome of a call to the text at the start of the report.
use mathlib.Core.Path.{◌≡◌, refl, ap, ◌∙◌, subst}
use mathlib.Core.Bool.{Bool, true, false}
use mathlib.Core.Logic.{◌⊎◌, ⊎_elim}
use mathlib.Core.List.{List, [], ◌∷◌, ◌++◌, append_assoc}
use Prim.Native.Nat.{ℕ, ◌≤◌}
use native.Mathlib.Omega.{arith}
use lib.ListN.{length, take, drop, length-append}
use lib.Seq.{take_at}
use Rattle.lists.specs.Sets.{Wrote}
use Rattle.fields.specs.Spelling.{length_digits}
use Rattle.paper.specs.Text.{Bytes, tab, line_feed, digits}
use Rattle.paper.specs.Limits.{report_size}
use Rattle.paper.specs.Refusals.{Reading, loaded, refused, read}
use Rattle.paper.specs.Report.{Line, entries, faults_in, behind_tabs, report_text}
use Rattle.paper.specs.Answer.{Said, accepted, faulty, turned_away, said_by, said_of, said_after, answer, letter_X, written, Lent, too_short, laid, zeros, answer_of, report_of, Outcome, outcome_of, outcome}
use Rattle.paper.specs.declared.Rule.{Rule}
use Rattle.paper.specs.declared.Refusal.{Refusal}
use Rattle.paper.specs.declared.Answer.{Answer}
use Rattle.paper.specs.declared.Answer.TheVariants.{Accepted, Faulty, Refused}
use Rattle.report.specs.Laid.{wrote_laid}
use Rattle.checker.specs.Lengths.{long}
use Rattle.checker.specs.Checked.{lent, refusal_text, Checked, TextOutcome, text_outcome, Stated}
use Rattle.checker.proofs.Refused.{read_bounded}

-- `X number line field`, as it is written part by part
module _ (refusal : Refusal) where
  refusal_spelled : (((((letter_X ∷ []) ++ (tab ∷ digits refusal.number)) ++ (tab ∷ digits refusal.line)) ++ (tab ∷ digits refusal.field)) ++ (line_feed ∷ [])) ≡ refusal_text refusal
  unfolding refusal_text written behind_tabs
  refusal_spelled =
      let n = digits refusal.number in
      let l = tab ∷ digits refusal.line in
      let f = tab ∷ digits refusal.field in
      ap (λ (t : Bytes). letter_X ∷ tab ∷ t)
      (append_assoc (n ++ l) f (line_feed ∷ []) ∙ append_assoc n l (f ++ (line_feed ∷ [])))

  pub refusal_wrote : {l l' : List ℕ} {r : ℕ} → Wrote l 0 (((((letter_X ∷ []) ++ (tab ∷ digits refusal.number)) ++ (tab ∷ digits refusal.line)) ++ (tab ∷ digits refusal.field)) ++ (line_feed ∷ [])) l' r
      → Wrote l 0 (refusal_text refusal) l' r
  refusal_wrote {l} {l'} {r} w = subst (λ (t : Bytes). Wrote l 0 t l' r) refusal_spelled w

  refusal_length : length (refusal_text refusal) ≤ 20
  unfolding refusal_text written behind_tabs
  refusal_length =
      omega (
        arith,
        length-append (digits refusal.number) (tab ∷ (digits refusal.line ++ (tab ∷ (digits refusal.field ++ (line_feed ∷ []))))),
        length-append (digits refusal.line) (tab ∷ (digits refusal.field ++ (line_feed ∷ []))),
        length-append (digits refusal.field) (line_feed ∷ []),
        length_digits refusal.number,
        length_digits refusal.line,
        length_digits refusal.field,
      )

pub laid_length : (text report : List ℕ) → length text ≤ length (laid text report)
unfolding laid
laid_length text report = omega (arith, length-append text (drop (length text) report))

-- refusal 1 changes nothing
pub short_outcome : (size : ℕ) (text : Bytes) (before : Lent) → too_short size before ≡ true → Stated size text before before 0
unfolding text_outcome
short_outcome size text before e = record { whole = rw e; fits = omega arith }

-- any other answer leaves a text, and the scratch zero
pub text_left : {size : ℕ} {text : Bytes} {before after : Lent} {n : ℕ} → too_short size before ≡ false → n ≡ length text
    → after ≡ record { report = laid text before.report; words = zeros before.words; queue = zeros before.queue } → Stated size text before after n
unfolding text_outcome
text_left {text = text} {before = before} s k a = record { whole = rw (s, k, a); fits = rw (a, k) (laid_length text before.report) }

-- and the text is what stands at the report's start
pub text_left_by : {size : ℕ} {text : Bytes} {before after : Lent} {n : ℕ} → Stated size text before after n → too_short size before ≡ false → take n after.report ≡ text
unfolding text_outcome laid
text_left_by {size} {text} {before} {after} {n} c long =
    let e : text_outcome size text before ≡ record { text_length = length text; buffers = record { report = laid text before.report; words = zeros before.words; queue = zeros before.queue } } = rw long in
    let k : n ≡ length text = ap (λ (o : TextOutcome). o.text_length) (c.whole ∙ e) in
    let r : after.report ≡ text ++ drop (length text) before.report = ap (λ (o : TextOutcome). o.buffers.report) (c.whole ∙ e) in
    rw (r, k) (take_at text _ _ refl)

-- bytes are never refused by number 1
said_number : (rule : Rule) (sheet : Bytes) (refusal : Refusal) → answer rule sheet ≡ turned_away refusal → 2 ≤ refusal.number
unfolding answer said_after said_of said_by
said_number rule sheet refusal e = at (read sheet) refl e
  where
    no_report : (ls : List Line) (text : Bytes) → said_by ls text ≡ turned_away refusal → 2 ≤ refusal.number
    no_report [] text f = let z : ◌≡◌ {A = ℕ} 0 1 = cc in absurd (omega arith)
    no_report (l ∷ ls) text f = let z : ◌≡◌ {A = ℕ} 0 1 = cc in absurd (omega arith)

    at : (o : Reading) → read sheet ≡ o → said_after rule o ≡ turned_away refusal → 2 ≤ refusal.number
    at (loaded S) h f = no_report (faults_in (entries rule S)) (report_text rule (entries rule S)) f
    at (refused r) h f = let z : r ≡ refusal = cc in subst (λ (q : Refusal). 2 ≤ q.number) z (read_bounded sheet r h).least

module _ {rule : Rule} {sheet : Bytes} {before after : Lent} {r : Answer} (c : Checked rule sheet before after r) where
  -- the answer and the buffers of the outcome
  answer_told : (o : Outcome) → outcome rule sheet before ≡ o → (r ≡ o.answer) × (after ≡ o.lent)
  answer_told o e = (ap (λ (x : Outcome). x.answer) (c.whole ∙ e), ap (λ (x : Outcome). x.lent) (c.whole ∙ e))

  -- an answer with a report
  pub texted : (n : ℕ) → (r ≡ Accepted n) ⊎ (r ≡ Faulty n) → Stated report_size (written (answer rule sheet)) before after n
  unfolding outcome outcome_of answer_of report_of written
  texted n e = at (too_short report_size before) refl (answer rule sheet) refl
    where
      not_refused : {Q : Type 0} {refusal : Refusal} → r ≡ Refused refusal → Q
      not_refused f = ⊎_elim (λ h. let z : ◌≡◌ {A = ℕ} 0 1 = cc in absurd (omega arith)) (λ h. let z : ◌≡◌ {A = ℕ} 0 1 = cc in absurd (omega arith)) e

      at : (b : Bool) → too_short report_size before ≡ b → (said : Said) → answer rule sheet ≡ said → Stated report_size (written (answer rule sheet)) before after n
      at true s said t = not_refused (answer_told (record { answer = Refused (record { number = 1; line = 0; field = 0 }); lent = before }) (rw s)).0
      at false s (accepted text) t =
          let p = answer_told (outcome_of (accepted text) before) (rw (s, t)) in
          rw t (text_left {text = text} s (⊎_elim (λ h. (cc)) (λ h. let z : ◌≡◌ {A = ℕ} 0 1 = cc in absurd (omega arith)) e) p.1)
      at false s (faulty text) t =
          let p = answer_told (outcome_of (faulty text) before) (rw (s, t)) in
          rw t (text_left {text = text} s (⊎_elim (λ h. let z : ◌≡◌ {A = ℕ} 0 1 = cc in absurd (omega arith)) (λ h. (cc)) e) p.1)
      at false s (turned_away refusal) t = not_refused (answer_told (outcome_of (turned_away refusal) before) (rw (s, t))).0

  -- refusal 1 changes nothing, and no other has its number
  pub texted_short : (refusal : Refusal) → r ≡ Refused refusal → refusal.number ≡ 1 → Stated report_size (written (answer rule sheet)) before after 0
  unfolding outcome outcome_of answer_of report_of
  texted_short refusal e one = at (too_short report_size before) refl (answer rule sheet) refl
    where
      at : (b : Bool) → too_short report_size before ≡ b → (said : Said) → answer rule sheet ≡ said → Stated report_size (written (answer rule sheet)) before after 0
      at true s said t = let p = answer_told (record { answer = Refused (record { number = 1; line = 0; field = 0 }); lent = before }) (rw s) in rw p.1 (short_outcome report_size (written (answer rule sheet)) before s)
      at false s (accepted text) t = let p = (answer_told (outcome_of (accepted text) before) (rw (s, t))).0 in let z : ◌≡◌ {A = ℕ} 0 1 = cc in absurd (omega arith)
      at false s (faulty text) t = let p = (answer_told (outcome_of (faulty text) before) (rw (s, t))).0 in let z : ◌≡◌ {A = ℕ} 0 1 = cc in absurd (omega arith)
      at false s (turned_away q) t =
          let p = (answer_told (outcome_of (turned_away q) before) (rw (s, t))).0 in
          let z : q ≡ refusal = cc in
          absurd (omega (arith, said_number rule sheet q t, ap (λ (x : Refusal). x.number) z))

  -- any other refusal leaves the report as it was, and there is room for its line
  module _ (refusal : Refusal) (e : r ≡ Refused refusal) (other : refusal.number ≡ 1 → ⊥) where
    pub record Turned : Type 0 where
      pub long : too_short report_size before ≡ false
      pub said : answer rule sheet ≡ turned_away refusal
      pub left : after ≡ record { report = before.report; words = zeros before.words; queue = zeros before.queue }

    pub turned : Turned
    unfolding outcome outcome_of answer_of report_of
    turned = at (too_short report_size before) refl (answer rule sheet) refl
      where
        at : (b : Bool) → too_short report_size before ≡ b → (said : Said) → answer rule sheet ≡ said → Turned
        at true s said t =
            let p = (answer_told (record { answer = Refused (record { number = 1; line = 0; field = 0 }); lent = before }) (rw s)).0 in
            let z : ◌≡◌ {A = Refusal} refusal (record { number = 1; line = 0; field = 0 }) = cc in
            absurd (other (ap (λ (x : Refusal). x.number) z))
        at false s (accepted text) t = let p = (answer_told (outcome_of (accepted text) before) (rw (s, t))).0 in let z : ◌≡◌ {A = ℕ} 0 1 = cc in absurd (omega arith)
        at false s (faulty text) t = let p = (answer_told (outcome_of (faulty text) before) (rw (s, t))).0 in let z : ◌≡◌ {A = ℕ} 0 1 = cc in absurd (omega arith)
        at false s (turned_away x) t =
            let p = answer_told (outcome_of (turned_away x) before) (rw (s, t)) in
            let q = p.0 in
            let z : x ≡ refusal = cc in
            record { long = s; said = t ∙ ap turned_away z; left = p.1 }

    pub room : report_size ≤ length after.report
    room = rw turned.left (long report_size before.report before.words before.queue turned.long).0

    pub texted_refusal : {report : List ℕ} {n : ℕ} → Wrote after.report 0 (refusal_text refusal) report n
        → Stated report_size (written (answer rule sheet)) before (lent report after.words after.queue) n
    unfolding refusal_text
    texted_refusal {report} {n} w =
        let t = turned in
        let short : length (refusal_text refusal) ≤ 20 = refusal_length refusal in
        let big = room in
        let long : n ≡ length (refusal_text refusal) = omega (arith, w.next) in
        let left : lent report after.words after.queue ≡ record { report = laid (refusal_text refusal) before.report; words = zeros before.words; queue = zeros before.queue } =
        cc (wrote_laid w (omega (arith, w.next)), ap (λ (x : Lent). x.report) t.left, ap (λ (x : Lent). x.words) t.left, ap (λ (x : Lent). x.queue) t.left) in
        rw t.said (text_left {text = refusal_text refusal} t.long long left)
