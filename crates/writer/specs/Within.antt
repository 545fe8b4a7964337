-- A text that was written lies within the buffer.
use Rattle.std.specs.Prelude.{Result, Ok, Err, ◌≡◌, refl, Bool, true, false, cond, List, ◌++◌, ℕ, ◌≤◌, ltb, length, drop}
use Rattle.std.proofs.Common.{sym, ap, ◌∙◌, arith, length-append}
use Rattle.std.proofs.Math.Option.{Option, none, some}
use Rattle.paper.specs.Text.{Bytes}
use Rattle.paper.specs.Sheet.{Sheet}
use Rattle.paper.specs.Refusals.{read}
use Rattle.paper.specs.Answer.{laid}
use Rattle.paper.specs.Writing.{sheet_text, is_read, SheetOut, room_outcome, sheet_outcome}
use Rattle.paper.specs.declared.Unwritten.{Unwritten}
use Rattle.paper.specs.declared.Unwritten.TheVariants.{NoSheet, NoRoom}
use Rattle.writer.specs.Form.{form_outcome}

abbrev said : Result ℕ Unwritten → List ℕ → SheetOut
said answer after = record { answer = answer; out = after }

not_sheet : {Q : Type 0} {n : ℕ} → (Err NoSheet) ≡ Ok n → Q
not_sheet q = let z : ◌≡◌ {A = ℕ} 0 1 = cc in absurd (omega arith)

pub text_within : (t : Bytes) (out after : List ℕ) (n : ℕ) → room_outcome t out ≡ said (Ok n) after → n ≤ length after
unfolding room_outcome laid
text_within t out after n e = go (ltb (length out) (length t)) refl e
  where
    go : (b : Bool) → ltb (length out) (length t) ≡ b
        → cond b (said (Err NoRoom) out) (said (Ok (length t)) (t ++ drop (length t) out)) ≡ said (Ok n) after → n ≤ length after
    go true p f = absurd (not_text (ap (λ (o : SheetOut). o.answer) f))
      where
        not_text : (Err NoRoom) ≡ Ok n → ⊥
        not_text q = let z : ◌≡◌ {A = ℕ} 0 1 = cc in omega arith
    go false p f =
        let count : Ok (length t) ≡ Ok n = ap (λ (o : SheetOut). o.answer) f in
        let number : n ≡ length t = cc in
        let text : t ++ drop (length t) out ≡ after = ap (λ (o : SheetOut). o.out) f in
        rw (← text, length-append) (omega arith)

sheet_within : (S : Sheet) (out after : List ℕ) (n : ℕ) → sheet_outcome S out ≡ said (Ok n) after → n ≤ length after
unfolding sheet_outcome
sheet_within S out after n e = go (is_read (read (sheet_text S))) e
  where
    go : (b : Bool) → cond b (room_outcome (sheet_text S) out) (said (Err NoSheet) out) ≡ said (Ok n) after → n ≤ length after
    go true f = text_within (sheet_text S) out after n f
    go false f = not_sheet (ap (λ (o : SheetOut). o.answer) f)

pub form_within : (form : Option Sheet) (out after : List ℕ) (n : ℕ) (r : Result ℕ Unwritten) → r ≡ Ok n → said r after ≡ form_outcome form out → n ≤ length after
unfolding form_outcome
form_within none out after n r p e = not_sheet (sym (ap (λ (o : SheetOut). o.answer) e) ∙ p)
form_within (some S) out after n r p e = sheet_within S out after n (sym (ap (λ (a : Result ℕ Unwritten). said a after) (sym p) ∙ e))
