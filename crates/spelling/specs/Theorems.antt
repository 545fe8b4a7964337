-- "A sheet has one spelling" (document 02, A6), over the definitions alone. Bytes that are read are the text of what they load as; so two
-- sheets that load alike are the same bytes, and the text of whatever some sheet gives is read as it again. And the other way: where the
-- text of a sheet whose numbers have at most five digits is read, it is read as that sheet.
use Rattle.std.specs.Prelude.{Result, Ok, Err, ◌≡◌, refl, Bool, true, false, cond, List, [], ◌∷◌, ◌++◌, map, ℕ, suc, ltb, length, take, drop}
use Rattle.std.proofs.Common.{sym, ap, ◌∙◌, true≢false, append-nil, append_assoc, arith, eqb-true, take_at}
use Rattle.std.proofs.Math.Option.{Option, none, some}
use Rattle.std.proofs.lemmas.Bool.{not-false}
use Rattle.lists.specs.Split.{or_right}
use Rattle.paper.specs.Text.{Bytes, line_feed, lines, fields}
use Rattle.paper.specs.Sheet.{Sheet}
use Rattle.paper.specs.Limits.{max_sheet}
use Rattle.paper.specs.Refusals.{Record, record_of, empty, out_of_place, so_far_of, first_holding, conditions, add_record, Reading, loaded, refused, Lined, good, bad, judged, read_record, read_line, read_end, carry_on, read_lines, no_text, read}
use Rattle.paper.specs.Writing.{record_text, records_text, records_of, sheet_text, is_read, SheetOut, room_outcome, sheet_outcome}
use Rattle.paper.specs.Answer.{laid}
use Rattle.paper.specs.declared.Unwritten.{Unwritten}
use Rattle.paper.specs.declared.Unwritten.TheVariants.{NoSheet, NoRoom}
use Rattle.paper.specs.declared.Refusal.{Refusal}
use Rattle.spelling.specs.Parted.{closed_lines, joined_fields, joined_lines}
use Rattle.spelling.specs.Spelled.{record_spelled}
use Rattle.spelling.specs.Short.{ShortRecords, ShortSheet, line_of, lines_written, line_again}
use Rattle.spelling.specs.Added.{text_append, so_far_records, record_more, added, all_added}

-- taking reading apart

refused_loaded : {Q : Type 0} {refusal : Refusal} {S : Sheet} → refused refusal ≡ loaded S → Q
refused_loaded e = let z : ◌≡◌ {A = ℕ} 0 1 = cc in absurd (omega arith)

good_line : {Q : Type 0} (line : ℕ) (field : ℕ → ℕ) (o : Lined) (more : Sheet → Reading) (S : Sheet) → carry_on line field o more ≡ loaded S
    → ((R : Sheet) → o ≡ good R → more R ≡ loaded S → Q) → Q
unfolding carry_on
good_line line field (good R) more S e k = k R refl e
good_line line field (bad number) more S e k = refused_loaded e

-- a line that was read is a record, added to the sheet so far; none of its conditions holds
read_as : {Q : Type 0} (so_far : Option Sheet) (l : Bytes) (R : Sheet) → read_line so_far l ≡ good R
    → ((r : Record) → record_of (fields l) ≡ some r → first_holding (conditions so_far r) ≡ none → R ≡ add_record (so_far_of so_far) r → Q) → Q
unfolding read_line read_record judged
read_as {Q} so_far l R e k = at (record_of (fields l)) refl e
  where
    met : (r : Record) → record_of (fields l) ≡ some r → (o : Option ℕ) → first_holding (conditions so_far r) ≡ o → judged so_far r o ≡ good R → Q
    met r p none h f = k r p h cc
    met r p (some number) h f = let z : ◌≡◌ {A = ℕ} 0 1 = cc in absurd (omega arith)

    at : (o : Option Record) → record_of (fields l) ≡ o → read_record so_far o ≡ good R → Q
    at none p f = let z : ◌≡◌ {A = ℕ} 0 1 = cc in absurd (omega arith)
    at (some r) p f = met r p (first_holding (conditions so_far r)) refl f

in_place : (so_far : Option Sheet) (r : Record) → first_holding (conditions so_far r) ≡ none → out_of_place so_far r ≡ false
unfolding first_holding conditions
in_place so_far r e = go (out_of_place so_far r) _ _ e
  where
    go : (b : Bool) (number : ℕ) (later : Option ℕ) → cond b (some number) later ≡ none → b ≡ false
    go true number later f = let z : ◌≡◌ {A = ℕ} 0 1 = cc in absurd (omega arith)
    go false number later f = refl

ended_with : {Q : Type 0} (line : ℕ) (so_far : Option Sheet) (S : Sheet) → read_end line so_far ≡ loaded S → (so_far ≡ some S → Q) → Q
unfolding read_end
ended_with line none S e k = refused_loaded e
ended_with {Q} line (some R) S e k = go _ (ltb (length R.body) R.blocks) e
  where
    go : (refusal : Refusal) (b : Bool) → cond b (refused refusal) (loaded R) ≡ loaded S → Q
    go refusal true f = refused_loaded f
    go refusal false f = k cc

-- bytes that are read

text_so_far : Option Sheet → Bytes
text_so_far so_far = records_text (so_far_records so_far)

line_text : (so_far : Option Sheet) (l : Bytes) (R : Sheet) → read_line so_far l ≡ good R → sheet_text R ≡ text_so_far so_far ++ (l ++ (line_feed ∷ []))
unfolding text_so_far sheet_text records_text
line_text so_far l R e =
    read_as so_far l R e λ r p h q.
    let here : record_text r ≡ l ++ (line_feed ∷ []) = sym (record_spelled (fields l) r p) ∙ joined_fields l in
    rw (q, record_more so_far r (in_place so_far r h), text_append (so_far_records so_far) (r ∷ []), append-nil, here)

lines_text : (ls : List Bytes) (line : ℕ) (so_far : Option Sheet) (S : Sheet) → read_lines line so_far ls ≡ loaded S
    → text_so_far so_far ++ closed_lines ls ≡ sheet_text S
unfolding read_lines closed_lines text_so_far so_far_records sheet_text
lines_text [] line so_far S e = ended_with line so_far S e λ q. append-nil (text_so_far so_far) ∙ ap text_so_far q
lines_text (l ∷ ls) line so_far S e =
    good_line line _ (read_line so_far l) (λ R. read_lines (suc line) (some R) ls) S e λ R h f.
    sym (append_assoc (text_so_far so_far) (l ++ (line_feed ∷ [])) (closed_lines ls))
    ∙ ap (λ (t : Bytes). t ++ closed_lines ls) (sym (line_text so_far l R h))
    ∙ lines_text ls (suc line) (some R) S f

-- a text that `no_text` lets pass is that of its lines
text_of_lines : (t : Bytes) → no_text t ≡ false → closed_lines (lines t) ≡ t
unfolding no_text empty
text_of_lines [] e = absurd (true≢false e)
text_of_lines (b ∷ bs) e =
    let t : Bytes = b ∷ bs in
    joined_lines t (omega arith) (eqb-true _ _ (not-false _ (or_right (ltb max_sheet (length t)) _ e)))

-- reading, where it comes to a sheet
read_lined : {Q : Type 0} (t : Bytes) (S : Sheet) → read t ≡ loaded S → (no_text t ≡ false → read_lines 1 none (lines t) ≡ loaded S → Q) → Q
unfolding read
read_lined {Q} t S e k = go _ (no_text t) refl e
  where
    go : (refusal : Refusal) (b : Bool) → no_text t ≡ b → cond b (refused refusal) (read_lines 1 none (lines t)) ≡ loaded S → Q
    go refusal true p f = refused_loaded f
    go refusal false p f = k p f

-- bytes that are read are the text of what they load as
pub read_text : (t : Bytes) (S : Sheet) → read t ≡ loaded S → t ≡ sheet_text S
unfolding text_so_far so_far_records records_text
read_text t S e = read_lined t S e λ p f. sym (text_of_lines t p) ∙ lines_text (lines t) 1 none S f

-- "two sheets that load alike are the same bytes"
pub alike_same : (t u : Bytes) (S : Sheet) → read t ≡ loaded S → read u ≡ loaded S → t ≡ u
alike_same t u S p q = read_text t S p ∙ sym (read_text u S q)

-- what some sheet gives, its text gives again
pub given_again : (t : Bytes) (S : Sheet) → read t ≡ loaded S → read (sheet_text S) ≡ loaded S
given_again t S e = rw (← read_text t S e) e

-- a text that is read again

lines_again : (rs : List Record) (line : ℕ) (so_far : Option Sheet) (S : Sheet) → ShortRecords rs
    → read_lines line so_far (map line_of rs) ≡ loaded S → added so_far rs ≡ some S
unfolding read_lines added ShortRecords
lines_again [] line so_far S h e = ended_with line so_far S e λ q. q
lines_again (r ∷ rs) line so_far S h e =
    good_line line _ (read_line so_far (line_of r)) (λ R. read_lines (suc line) (some R) (map line_of rs)) S e λ R p f.
    read_as so_far (line_of r) R p λ q w c here.
    let same : R ≡ add_record (so_far_of so_far) r = here ∙ ap (λ (x : Record). add_record (so_far_of so_far) x) (line_again r q h.0 w) in
    rw (← same) (lines_again rs (suc line) (some R) S h.1 f)

some_inj : {A : Type 0} {a b : A} → some a ≡ some b → a ≡ b
some_inj e = cc

-- where the text of a sheet is read, it is read as that sheet
pub read_again : (S R : Sheet) → ShortSheet S → read (sheet_text S) ≡ loaded R → R ≡ S
unfolding sheet_text
read_again S R h e =
    read_lined (sheet_text S) R e λ p f.
    some_inj (sym (lines_again (records_of S) 1 none R h (rw (lines_written (records_of S) h) at f)) ∙ all_added S)

-- what writing comes to

answer_number : Result ℕ Unwritten → ℕ
answer_number (Ok n) = 1
answer_number (Err NoSheet) = 0
answer_number (Err NoRoom) = 0

read_true : (R : Reading) (S : Sheet) → R ≡ loaded S → is_read R ≡ true
unfolding is_read
read_true R S e = rw e

true_read : {Q : Type 0} (R : Reading) → is_read R ≡ true → ((S : Sheet) → R ≡ loaded S → Q) → Q
unfolding is_read
true_read (loaded S) e k = k S refl
true_read (refused refusal) e k = absurd (true≢false (sym e))

-- "A loaded form that no sheet gives": a text is turned away exactly where no bytes load as its sheet
pub read_exactly : (S : Sheet) → ShortSheet S → is_read (read (sheet_text S)) ≡ true → read (sheet_text S) ≡ loaded S
read_exactly S h e = true_read (read (sheet_text S)) e λ R p. p ∙ ap loaded (read_again S R h p)

pub given_read : (t : Bytes) (S : Sheet) → read t ≡ loaded S → is_read (read (sheet_text S)) ≡ true
given_read t S e = read_true (read (sheet_text S)) S (given_again t S e)

pub none_gives : (S : Sheet) → ShortSheet S → is_read (read (sheet_text S)) ≡ false → (t : Bytes) → read t ≡ loaded S → ⊥
none_gives S h e t p = true≢false (sym (given_read t S p) ∙ e)

-- "writing what was read from an accepted or faulty sheet gives that sheet's own bytes"
pub own_bytes : (t : Bytes) (S : Sheet) (out : List ℕ) → read t ≡ loaded S → sheet_outcome S out ≡ room_outcome t out
unfolding sheet_outcome
own_bytes t S out e = rw (given_read t S e, ← read_text t S e)

-- "Reading what it writes gives the loaded form again"
pub written_again : (S : Sheet) (out after : List ℕ) (n : ℕ) → ShortSheet S → sheet_outcome S out ≡ record { answer = Ok n; out = after }
    → read (take n after) ≡ loaded S
unfolding sheet_outcome room_outcome laid answer_number
written_again S out after n h e = go (is_read (read (sheet_text S))) refl (ltb (length out) (length (sheet_text S))) e
  where
    said : Result ℕ Unwritten → List ℕ → SheetOut
    said answer buffer = record { answer = answer; out = buffer }

    go : (b : Bool) → is_read (read (sheet_text S)) ≡ b → (c : Bool)
        → cond b (cond c (said (Err NoRoom) out) (said (Ok (length (sheet_text S))) (laid (sheet_text S) out))) (said (Err NoSheet) out) ≡ said (Ok n) after
        → read (take n after) ≡ loaded S
    go false p c f = absurd (let z : ◌≡◌ {A = ℕ} 0 1 = ap (λ (o : SheetOut). answer_number o.answer) f in omega arith)
    go true p true f = absurd (let z : ◌≡◌ {A = ℕ} 0 1 = ap (λ (o : SheetOut). answer_number o.answer) f in omega arith)
    go true p false f =
        let count : Ok (length (sheet_text S)) ≡ Ok n = ap (λ (o : SheetOut). o.answer) f in
        let number : n ≡ length (sheet_text S) = cc in
        let text : laid (sheet_text S) out ≡ after = ap (λ (o : SheetOut). o.out) f in
        rw (← text, take_at (sheet_text S) (drop (length (sheet_text S)) out) n (sym number)) (read_exactly S h p)
