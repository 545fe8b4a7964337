-- What is known of the calls, over their promises: what is written is read back as the form that the words hold; words that a sheet was
-- loaded into are written as that sheet's own bytes; no sheet gives a form exactly where the answer is that none does; one outcome only.
use Rattle.std.specs.Prelude.{Result, Ok}
use mathlib.Core.Path.{◌≡◌, sym, ap, ◌∙◌}
use mathlib.Core.Bool.{Bool, true, false, cond}
use mathlib.Core.List.{List}
use mathlib.Core.Option.{none, some}
use Prim.Native.Nat.{ℕ, ◌≤◌}
use native.Mathlib.Omega.{arith}
use lib.ListN.{length, take}
use Rattle.lists.specs.Regions.{All}
use Rattle.paper.specs.Text.{Bytes}
use Rattle.paper.specs.Sheet.{Sheet}
use Rattle.paper.specs.Limits.{words_size}
use Rattle.paper.specs.Refusals.{loaded, read}
use Rattle.paper.specs.Writing.{SheetOut, room_outcome, sheet_outcome}
use Rattle.paper.specs.declared.Unwritten.{Unwritten}
use Rattle.loaded.specs.Loaded.{sheet_of, Loaded}
use Rattle.spelling.specs.Theorems.{own_bytes, written_again}
use Rattle.writer.specs.Form.{fits, form_of, form_outcome, WriteExported}
use Rattle.writer.specs.declared.WriteVerdict.{WriteVerdict}
use Rattle.writer.proofs.LawsLoad.{loaded_form}
use Rattle.writer.proofs.LawsShort.{Word, words_short}

-- what the words hold, if they hold a form, is what stands in them
form_sheet : (words : List ℕ) (S : Sheet) → form_of words ≡ some S → S ≡ sheet_of words
unfolding form_of
form_sheet words S e = go (fits words) e
  where
    go : (b : Bool) → cond b (some (sheet_of words)) none ≡ some S → S ≡ sheet_of words
    go true p = cc
    go false p = absurd (let z : ◌≡◌ {A = ℕ} 0 1 = cc in omega arith)

-- "Reading what it writes gives the loaded form again"
pub written_read : (words out after : List ℕ) (n : ℕ) (S : Sheet) → All Word words → form_of words ≡ some S
    → ◌≡◌ {A = SheetOut} (record { answer = Ok n; out = after }) (form_outcome (form_of words) out) → read (take n after) ≡ loaded S
unfolding form_outcome
written_read words out after n S a f e =
    let q : S ≡ sheet_of words = form_sheet words S f in
    let o : sheet_outcome S out ≡ record { answer = Ok n; out = after } = sym (rw f at e) in
    written_again S out after n (rw q (words_short words a)) o

-- "writing what was read from an accepted or faulty sheet gives that sheet's own bytes"
pub loaded_written : (t : Bytes) (words out : List ℕ) → words_size ≤ length words → Loaded words → read t ≡ loaded (sheet_of words)
    → form_outcome (form_of words) out ≡ room_outcome t out
unfolding form_outcome
loaded_written t words out size l e = rw (loaded_form words size l) (own_bytes t (sheet_of words) out e)

-- one outcome only

pub write_one_outcome : (words before after later : List ℕ) (r s : Result ℕ Unwritten)
    → ◌≡◌ {A = SheetOut} (record { answer = r; out = after }) (form_outcome (form_of words) before)
    → ◌≡◌ {A = SheetOut} (record { answer = s; out = later }) (form_outcome (form_of words) before) → (r ≡ s) × (after ≡ later)
write_one_outcome words before after later r s p q = (ap (λ (o : SheetOut). o.answer) (p ∙ sym q), ap (λ (o : SheetOut). o.out) (p ∙ sym q))

pub export_one_outcome : (words before after later : List ℕ) (r s : WriteVerdict) → WriteExported words before after r → WriteExported words before later s
    → (r ≡ s) × (after ≡ later)
export_one_outcome words before after later r s p q = (p.answer ∙ sym q.answer, p.buffer ∙ sym q.buffer)
