-- The call's answer: no form, a text that is too long or that the reader turns away, no room, or the text.
use Rattle.std.specs.Prelude.{Result, Ok, Err}
use mathlib.Core.Path.{◌≡◌, sym, ap, ◌∙◌}
use mathlib.Core.Bool.{Bool, true, false}
use mathlib.Core.List.{List, [], ◌∷◌, ◌++◌}
use Prim.Native.Nat.{ℕ, ◌≤◌, ◌<◌}
use native.Mathlib.Omega.{arith}
use borrow.Author.Tests.{lt-ltb, le-ltb}
use lib.ListN.{length, take, drop}
use lib.Seq.{take_at}
use Rattle.paper.specs.Text.{Bytes}
use Rattle.paper.specs.Limits.{max_sheet}
use Rattle.paper.specs.Refusals.{empty, no_text, read}
use Rattle.paper.specs.Answer.{laid}
use Rattle.paper.specs.Writing.{sheet_text, is_read, SheetOut, room_outcome, sheet_outcome}
use Rattle.paper.specs.declared.Unwritten.{Unwritten}
use Rattle.paper.specs.declared.Unwritten.TheVariants.{NoSheet, NoRoom}
use Rattle.loaded.specs.Loaded.{sheet_of}
use Rattle.report.specs.Laid.{wrote_laid}
use Rattle.writer.specs.Form.{fits, form_of, form_outcome, verdict_of, WriteExported}
use Rattle.writer.specs.Filled.{Filled, whole, beyond}
use Rattle.writer.specs.declared.WriteVerdict.{WriteVerdict}

-- a text that is longer than every sheet is turned away
long_refused : (t : Bytes) → max_sheet < length t → is_read (read t) ≡ false
unfolding read no_text empty is_read
long_refused [] h = absurd (omega arith)
long_refused (b ∷ bs) h = rw (lt-ltb _ _ h)

filled_long : {l xs l' : List ℕ} {n : ℕ} → Filled l 0 xs l' n → max_sheet < n → max_sheet < length xs
filled_long (whole w) h = omega (arith, w.next)
filled_long (beyond e p q) h = omega arith

-- a text within a sheet's size stands whole
record Stands (xs l' : List ℕ) (n : ℕ) : Type 0 where
  text : take n l' ≡ xs
  count : n ≡ length xs

stands : {l xs l' : List ℕ} {n : ℕ} → Filled l 0 xs l' n → n ≤ max_sheet → n ≤ length l → Stands xs l' n
unfolding laid
stands {l} {xs} {l'} {n} (whole w) h room =
    let count : n ≡ length xs = omega (arith, w.next) in
    let all : l' ≡ xs ++ drop (length xs) l = wrote_laid w room in
    record { text = rw all (take_at xs (drop (length xs) l) n (sym count)); count = count }
stands (beyond e p q) h room = absurd (omega arith)

module _ (words out : List ℕ) where
  abbrev said : Result ℕ Unwritten → List ℕ → SheetOut
  said answer after = record { answer = answer; out = after }

  pub no_form : fits words ≡ false → said (Err NoSheet) out ≡ form_outcome (form_of words) out
  unfolding form_of form_outcome
  no_form e = rw e

  module _ (e : fits words ≡ true) where
    form_is : form_outcome (form_of words) out ≡ sheet_outcome (sheet_of words) out
    unfolding form_of form_outcome
    form_is = rw e

    unread : is_read (read (sheet_text (sheet_of words))) ≡ false → said (Err NoSheet) out ≡ form_outcome (form_of words) out
    unfolding sheet_outcome
    unread p = rw (form_is, p)

    read_as : is_read (read (sheet_text (sheet_of words))) ≡ true → room_outcome (sheet_text (sheet_of words)) out ≡ form_outcome (form_of words) out
    unfolding sheet_outcome
    read_as p = rw (form_is, p)

    module _ {l l' : List ℕ} {n : ℕ} (f : Filled l 0 (sheet_text (sheet_of words)) l' n) where
      pub too_long : max_sheet < n → said (Err NoSheet) out ≡ form_outcome (form_of words) out
      too_long h = unread (long_refused (sheet_text (sheet_of words)) (filled_long f h))

      module _ (short : n ≤ max_sheet) (room : n ≤ length l) {answer : Bool} (asked : answer ≡ is_read (read (take n l'))) where
        answered : answer ≡ is_read (read (sheet_text (sheet_of words)))
        answered = asked ∙ ap (λ (t : Bytes). is_read (read t)) (stands f short room).text

        pub turned_away : answer ≡ false → said (Err NoSheet) out ≡ form_outcome (form_of words) out
        turned_away p = unread (sym answered ∙ p)

        pub no_room : answer ≡ true → length out < n → said (Err NoRoom) out ≡ form_outcome (form_of words) out
        unfolding room_outcome
        no_room p h =
            let short_by : length out < length (sheet_text (sheet_of words)) = omega (arith, (stands f short room).count) in
            (rw (lt-ltb _ _ short_by)) ∙ read_as (sym answered ∙ p)

        pub text_laid : answer ≡ true → n ≤ length out → (after : List ℕ) → after ≡ laid (take n l') out
            → said (Ok n) after ≡ form_outcome (form_of words) out
        unfolding room_outcome
        text_laid p h after q =
            let s = stands f short room in
            let fits_in : length (sheet_text (sheet_of words)) ≤ length out = omega (arith, s.count) in
            (rw (le-ltb _ _ fits_in, q, s.text, s.count)) ∙ read_as (sym answered ∙ p)

-- over the C interface
pub exported : {words before after : List ℕ} {written : Result ℕ Unwritten} {r : WriteVerdict}
    → ◌≡◌ {A = SheetOut} (record { answer = written; out = after }) (form_outcome (form_of words) before) → r ≡ verdict_of written
    → WriteExported words before after r
exported e v = record { answer = v ∙ ap (λ (o : SheetOut). verdict_of o.answer) e; buffer = ap (λ (o : SheetOut). o.out) e }
