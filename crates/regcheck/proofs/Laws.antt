-- What the room holds is the sheet, and what stands at the start of the report is what is said of it.
use Rattle.std.proofs.Common.{◌≡◌, List, [], refl, sym, ap, ◌∙◌, subst, ◌++◌, append-nil, ℕ, ◌≤◌, ◌<◌, true, false, arith, length, take, drop, take_all, Result, Ok, Err, OnOk, None, Some, IfSome, inl, inr}
use Rattle.std.specs.Prelude.{Option, is_ok}
use Rattle.std.specs.Io.KnownBytes.{Consumes, IsAtEnd}
use lib.Seq.{take-append_seam}
use Rattle.std.proofs.lemmas.Bool.{cases_lt}
use Rattle.paper.specs.Text.{Bytes}
use Rattle.paper.specs.Answer.{Lent, too_short, laid, zeros}
use Rattle.paper.specs.Limits.{words_size, queue_size}
use borrow.Author.Tests.{le-ltb}
use Rattle.checker.specs.Checked.{lent, Stated, TextOutcome, text_outcome}

-- all that was read, of an input that ends or fills the room
whole : (n : ℕ) (xs bs ys : Bytes) → xs ≡ bs ++ ys → length bs ≤ n → (length bs < n → ys ≡ []) → bs ≡ take n xs
whole n xs bs ys e h end =
    elim (cases_lt (length bs) n) [
      | inl q ↦ let all : xs ≡ bs = e ∙ ap (λ l. bs ++ l) (end q) ∙ append-nil bs in rw all (sym (take_all n bs h))
      | inr q ↦ let size : n ≡ length bs = omega arith in rw (size, e) (sym (take-append_seam bs ys))
    ]

pub sheet_is : (a b : Option Bytes) (bs : Bytes) (n : ℕ) (P : Bytes → Type 0) → Consumes a b bs → length bs ≤ n → (length bs < n → IsAtEnd b) → P bs
    → IfSome a (λ xs. P (take n xs))
sheet_is None b bs n P p h end v = tt
sheet_is (Some xs) None bs n P p h end v = absurd p
sheet_is (Some xs) (Some ys) bs n P p h end v = subst P (whole n xs bs ys p h end) v

-- the text that a call leaves in buffers that are long enough
left_text : (text report words queue : List ℕ) (r : ℕ) (after : Lent)
    → ◌≡◌ {A = TextOutcome} (record { text_length = r; buffers = after }) (record { text_length = length text; buffers = lent (laid text report) words queue })
    → take r after.report ≡ text
unfolding laid
left_text text report words queue r after e =
    let size : r ≡ length text = ap (λ (o : TextOutcome). o.text_length) e in
    let room : after.report ≡ text ++ drop (length text) report = ap (λ (o : TextOutcome). o.buffers.report) e in
    rw (size, room) (take-append_seam text (drop (length text) report))

long_enough : (size : ℕ) (before : Lent) → size ≤ length before.report → words_size ≤ length before.words → queue_size ≤ length before.queue → too_short size before ≡ false
unfolding too_short
long_enough size before a b c = rw (le-ltb _ _ a, le-ltb _ _ b, le-ltb _ _ c)

pub stated_text : (size : ℕ) (text : Bytes) (before after : Lent) (r : ℕ) → size ≤ length before.report → words_size ≤ length before.words → queue_size ≤ length before.queue
    → Stated size text before after r → take r after.report ≡ text
unfolding text_outcome
stated_text size text before after r a b c s = left_text text before.report (zeros before.words) (zeros before.queue) r after (rw (long_enough size before a b c) at s.whole)

-- what holds no value is none
pub none_left : {A : Type 0} (o : Option A) → ((x : A) → o ≡ Some x → ⊥) → o ≡ None
none_left None d = refl
none_left (Some x) d = absurd (d x refl)

-- another error changes nothing of a success
pub on_ok_as : {T E D P Q : Type 0} (r : Result T E) (s : Result T D) → is_ok s ≡ is_ok r → (P → Q) → OnOk r P → OnOk s Q
on_ok_as (Ok x) (Ok y) e f p = f p
on_ok_as (Ok x) (Err d) e f p = tt
on_ok_as (Err d) (Ok y) e f p = let no : true ≡ false = e in cc
on_ok_as (Err d) (Err k) e f p = tt
