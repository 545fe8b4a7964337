-- What loading a sheet into lent words promises a caller who holds its loaded form.
use Rattle.std.specs.Prelude.{Result, Ok, Err, ◌≡◌, List, ℕ, ◌≤◌, ◌<◌, length}
use Rattle.std.proofs.Math.Option.{some}
use Rattle.paper.specs.Text.{Bytes}
use Rattle.paper.specs.Sheet.{Sheet}
use Rattle.paper.specs.Limits.{words_size}
use Rattle.paper.specs.Refusals.{Reading, loaded, refused, read}
use Rattle.paper.specs.Writing.{SheetOut, room_outcome}
use Rattle.paper.specs.declared.Unwritten.{Unwritten}
use Rattle.paper.specs.declared.Unwritten.TheVariants.{NoSheet}
use Rattle.paper.specs.Answer.{zeros}
use Rattle.paper.specs.declared.Refusal.{Refusal}
use Rattle.sheet.specs.Reading.{loading_of}
use Rattle.writer.specs.Form.{form_of}
use Rattle.writer.specs.declared.LoadVerdict.{LoadVerdict}

-- refusal 1, which changes nothing
abbrev pub too_short : Refusal
too_short = record { number = 1; line = 0; field = 0 }

pub record SheetLoaded (sheet : Bytes) (before after : List ℕ) (r : Result (Unit {0}) Refusal) : Type 0 where
  pub short : length before < words_size → (r ≡ Err too_short) × (after ≡ before)
  pub answer : words_size ≤ length before → r ≡ loading_of (read sheet)
  pub same_length : length after ≡ length before
  pub form : words_size ≤ length before → (S : Sheet) → read sheet ≡ loaded S → form_of after ≡ some S
  pub cleared : words_size ≤ length before → (refusal : Refusal) → read sheet ≡ refused refusal → after ≡ zeros before

-- a sheet that is read is written as its own bytes; one that is refused is not written
unfoldable pub back_outcome : Bytes → Reading → List ℕ → SheetOut
back_outcome sheet (loaded S) out = room_outcome sheet out
back_outcome sheet (refused refusal) out = record { answer = Err NoSheet; out = out }

pub record WrittenBack (sheet : Bytes) (words out words' out' : List ℕ) (r : Result ℕ Unwritten) : Type 0 where
  pub short : length words < words_size → (r ≡ (Err NoSheet)) × (words' ≡ words) × (out' ≡ out)
  pub back : words_size ≤ length words → ◌≡◌ {A = SheetOut} (record { answer = r; out = out' }) (back_outcome sheet (read sheet) out)
  pub cleared : words_size ≤ length words → words' ≡ zeros words
  pub within : (n : ℕ) → r ≡ Ok n → n ≤ length out'

-- over the C interface: the refusal, and all 0 where there is none
unfoldable pub load_verdict_of : Result (Unit {0}) Refusal → LoadVerdict
load_verdict_of (Ok done) = record { number = 0; line = 0; field = 0 }
load_verdict_of (Err refusal) = record { number = refusal.number; line = refusal.line; field = refusal.field }

pub record LoadExported (sheet : Bytes) (before after : List ℕ) (r : LoadVerdict) : Type 0 where
  pub short : length before < words_size → (r ≡ load_verdict_of (Err too_short)) × (after ≡ before)
  pub answer : words_size ≤ length before → r ≡ load_verdict_of (loading_of (read sheet))
  pub same_length : length after ≡ length before
  pub form : words_size ≤ length before → (S : Sheet) → read sheet ≡ loaded S → form_of after ≡ some S
  pub cleared : words_size ≤ length before → (refusal : Refusal) → read sheet ≡ refused refusal → after ≡ zeros before
