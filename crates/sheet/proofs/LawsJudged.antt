-- A line, from what `records` tells of it beside the sheet so far: it is refused as the paper's reader refuses it, or what it says
-- is stored.
use mathlib.Core.Path.{◌≡◌, sym, ap, ◌∙◌}
use mathlib.Core.List.{List}
use mathlib.Core.Option.{Option, none, some}
use Prim.Native.Nat.{ℕ, ◌+◌, ◌<◌}
use native.Mathlib.Omega.{arith}
use lib.ListN.{length}
use Rattle.paper.specs.Text.{Bytes}
use Rattle.paper.specs.Sheet.{Sheet}
use Rattle.paper.specs.Refusals.{Record, so_far_of, first_holding, conditions, add_record, judged, read_record}
use Rattle.paper.specs.Refusals as paper
use Rattle.fields.specs.Fields.{line_end}
use Rattle.records.specs.Records.{Line, good, bad, told_by, told}
use Rattle.loaded.specs.Filling.{RecordStored}
use Rattle.records.specs.declared.Breach.{Breach}
use Rattle.std.specs.Prelude.{Ok, Err}
use Rattle.std.specs.Result.{IsErrAnd}
use Rattle.std.specs.declared.result.Result.{Result}
use Rattle.loaded.specs.Loaded.{sheet_of, so_far}
use Rattle.sheet.specs.Reading.{Progress, lined_of, LineRead, begun}
use Rattle.sheet.proofs.LawsProgress.{sheet_so_far}

apart : {Q : Type 0} {breach : Breach} {r : Record} {n : ℕ} → bad breach ≡ good r n → Q
apart e = let z : ◌≡◌ {A = ℕ} 0 1 = cc in absurd (omega arith)

good_bad : {Q : Type 0} {S : Sheet} {number : ℕ} → paper.good S ≡ paper.bad number → Q
good_bad e = let z : ◌≡◌ {A = ℕ} 0 1 = cc in absurd (omega arith)

-- what is told is what the paper's reader makes of the line
module _ (so : Option Sheet) (end : ℕ) where
  told_bad : (read : Option Record) {breach : Breach} → told so end read ≡ bad breach → read_record so read ≡ paper.bad breach.number
  unfolding told told_by read_record judged
  told_bad none {breach} e = let z : ◌≡◌ {A = Breach} (record { number = 3 }) breach = cc in ap (λ (b : Breach). paper.bad b.number) z
  told_bad (some r) {breach} e = go (first_holding (conditions so r)) e
    where
      go : (o : Option ℕ) → told_by r end o ≡ bad breach → judged so r o ≡ paper.bad breach.number
      go none e = apart (sym e)
      go (some n) e = let z : ◌≡◌ {A = Breach} (record { number = n }) breach = cc in ap (λ (b : Breach). paper.bad b.number) z

  told_good : (read : Option Record) {r : Record} {next : ℕ} → told so end read ≡ good r next
      → (read_record so read ≡ paper.good (add_record (so_far_of so) r)) × (next ≡ end)
  unfolding told told_by read_record judged
  told_good none e = apart e
  told_good (some x) {r} {next} e = go (first_holding (conditions so x)) e
    where
      go : (o : Option ℕ) → told_by x end o ≡ good r next → (judged so x o ≡ paper.good (add_record (so_far_of so) r)) × (next ≡ end)
      go none e = let z : x ≡ r = cc in (ap (λ (y : Record). paper.good (add_record (so_far_of so) y)) z, cc)
      go (some n) e = apart e

module _ {read : Option Record} {s : Bytes} {at : ℕ} {l : List ℕ} {line : Line} (t : line ≡ told (so_far l) (line_end s at) read) where
  -- refused: the words are left
  pub line_refused : {l' : List ℕ} {breach : Breach} (r : Result ℕ Breach) → IsErrAnd r (λ b. b ≡ breach) → l' ≡ l → line ≡ bad breach → LineRead read s at l l' r
  unfolding lined_of
  line_refused (Ok n) same left e = elim same [ ]
  line_refused {l'} {breach} (Err b) same left e =
      let q : read_record (so_far l) read ≡ paper.bad b.number = told_bad (so_far l) (line_end s at) read (sym t ∙ e ∙ ap bad (sym same)) in
      record {
        answer = rw q;
        same_length = ap length left;
        bad_line = λ number g. left;
        good_line = λ T g. good_bad (sym g ∙ q);
      }

  -- accepted: the words hold one record more
  pub line_accepted : {l' : List ℕ} {r : Record} {next : ℕ} → Progress l → line ≡ good r next → next < length s → RecordStored l l' r
      → LineRead read s at l l' (Ok (next + 1))
  unfolding lined_of so_far
  line_accepted {l'} {r} {next} p e inside stored =
      let q = told_good (so_far l) (line_end s at) read (sym t ∙ e) in
      let g : read_record (so_far l) read ≡ paper.good (add_record (sheet_of l) r) = q.0 ∙ ap (λ (S : Sheet). paper.good (add_record S r)) (sheet_so_far l p) in
      record {
        answer = rw (g, q.1);
        same_length = stored.same_length;
        bad_line = λ number h. good_bad (sym g ∙ h);
        good_line = λ T h.
            let t : T ≡ add_record (sheet_of l) r = let q : paper.good T ≡ paper.good (add_record (sheet_of l) r) = sym h ∙ g in cc in
            record {
              inside = rw (← q.1) inside;
              sheet_so_far = rw (stored.progress.begun, stored.meaning, t);
              progress = begun stored.progress;
            };
      }
