-- The lines of a sheet, one after the other, and its end.
use mathlib.Core.Path.{◌≡◌, refl, sym, ap, ◌∙◌}
use mathlib.Core.Bool.{true, false, ◌||◌, true≢false, not}
use mathlib.Core.List.{List, ◌++◌}
use mathlib.Core.Option.{some}
use Prim.Native.Nat.{ℕ, suc, ◌+◌, ◌≤◌, ◌<◌}
use native.Mathlib.Numerals.{add-one}
use native.Mathlib.Omega.{arith}
use borrow.Author.Tests.{ltb-false}
use lib.Dec.{eqb, ltb}
use lib.ListN.{length, get_or, take, drop, replicate, length-append, length-drop, length-replicate, get_or-append, get_or-replicate}
use lib.Seq.{length-take-le}
use Rattle.paper.specs.Text.{Bytes, lines, fields}
use Rattle.paper.specs.Sheet.{Sheet}
use Rattle.paper.specs.Refusals.{loaded, refused, good, bad, record_of, read_record, so_far_of, field_of, read_line, read_end, carry_on, read_lines, no_text, read}
use Rattle.paper.specs.Refusals as paper
use Rattle.paper.specs.declared.Refusal.{Refusal}
use Rattle.layout.specs.Layout.{blocks_word, opened_word, begun_word, block_base, all_words}
use Rattle.fields.specs.Fields.{line_at, line_end}
use Rattle.fields.specs.Cursor.{lines_at, lines_past}
use Rattle.records.specs.declared.Breach.{Breach}
use Rattle.loaded.specs.declared.Reached.{Reached}
use Rattle.loaded.specs.Loaded.{reached_of, sheet_of, so_far}
use Rattle.loaded.specs.Filling.{Blank}
use Rattle.sheet.specs.Reading.{Progress, lined_of, LineRead, BadLine, loading_of, Load}
use Rattle.sheet.specs.Reading as reading
use Rattle.std.specs.Prelude.{Ok, Err}
use Rattle.std.specs.declared.result.Result.{Result}
use Rattle.loaded.specs.Blocks.{length_blocks}
use Rattle.sheet.proofs.LawsProgress.{so_far_blank, so_far_begun, so_far_counted}

-- a sheet that is refused: its words may be anything
refused_load : {sheet : Bytes} {before after : List ℕ} {refusal : Refusal} → read sheet ≡ refused refusal → length after ≡ length before
    → Load sheet before after (Err refusal)
unfolding loading_of
refused_load {refusal} q len = record {
  answer = rw q;
  same_length = len;
  meaning = λ S g. absurd (let w : refused refusal ≡ loaded S = sym q ∙ g in let z : ◌≡◌ {A = ℕ} 0 1 = cc in omega arith);
}

-- what is still to be read, from the line at `at` on, gives what the sheet gives
pub record Ahead (sheet : Bytes) (at line : ℕ) (words₀ words : List ℕ) : Type 0 where
  pub gives : read sheet ≡ read_lines line (so_far words) (lines (drop at sheet))
  pub progress : Progress words
  pub same_length : length words ≡ length words₀
  pub inside : at ≤ length sheet
  pub few : line ≤ at + 1

pub ahead_at_first : (sheet : Bytes) (words₀ words : List ℕ) → no_text sheet ≡ false → Blank words → length words ≡ length words₀ → Ahead sheet 0 1 words₀ words
unfolding read
ahead_at_first sheet words₀ words e blank same = record {
  gives = rw (e, so_far_blank words blank);
  progress = reading.blank blank;
  same_length = same;
  inside = omega arith;
  few = omega arith;
}

-- a line

good_of : (next n : ℕ) (x : paper.Lined) (P : Type 0) → Ok n ≡ lined_of next x → ((S : Sheet) → x ≡ good S → n ≡ next → P) → P
unfolding lined_of
good_of next n (good S) P e f = f S refl (cc)
good_of next n (bad k) P e f = absurd (let z : ◌≡◌ {A = ℕ} 0 1 = cc in omega arith)

bad_of : (next : ℕ) (breach : Breach) (x : paper.Lined) → Err breach ≡ lined_of next x → x ≡ bad breach.number
unfolding lined_of
bad_of next breach (good S) e = absurd (let z : ◌≡◌ {A = ℕ} 0 1 = cc in omega arith)
bad_of next breach (bad k) e = let z : ◌≡◌ {A = Breach} breach (record { number = k }) = cc in ap (λ (b : Breach). bad b.number) (sym z)

further : (sheet : Bytes) (at : ℕ) → at ≤ line_end sheet at
unfolding line_end
further sheet at = omega arith

module _ {sheet : Bytes} {at line : ℕ} {words₀ words : List ℕ} (ahead : Ahead sheet at line words₀ words) (more : at < length sheet) where
  next_line : read sheet
      ≡ carry_on line (λ number. field_of number (so_far_of (so_far words)) (fields (line_at sheet at)))
      (read_record (so_far words) (record_of (fields (line_at sheet at))))
      (λ S. read_lines (suc line) (some S) (lines (drop (line_end sheet at + 1) sheet)))
  unfolding read_lines read_line
  next_line = ahead.gives ∙ rw (lines_at sheet at more)

  pub line_good : {words' : List ℕ} (n : ℕ) → LineRead (record_of (fields (line_at sheet at))) sheet at words words' (Ok n) → Ahead sheet n (line + 1) words₀ words'
  unfolding carry_on
  line_good {words'} n r =
      good_of (line_end sheet at + 1) n (read_record (so_far words) (record_of (fields (line_at sheet at)))) (Ahead sheet n (line + 1) words₀ words') r.answer λ S g e.
      let k = r.good_line S g in
      rw e (record {
        gives = rw (add-one line, k.sheet_so_far) (next_line ∙ rw g);
        progress = k.progress;
        same_length = r.same_length ∙ ahead.same_length;
        inside = omega (arith, k.inside);
        few = omega (arith, ahead.few, further sheet at);
      })

  pub line_further : {words' : List ℕ} (n : ℕ) → LineRead (record_of (fields (line_at sheet at))) sheet at words words' (Ok n) → at < n
  line_further n r =
      good_of (line_end sheet at + 1) n (read_record (so_far words) (record_of (fields (line_at sheet at)))) (at < n) r.answer λ S g e.
      omega (arith, further sheet at)

  module _ {words' : List ℕ} (breach : Breach) (r : LineRead (record_of (fields (line_at sheet at))) sheet at words words' (Err breach)) where
    refused_by : read_record (so_far words) (record_of (fields (line_at sheet at))) ≡ bad breach.number
    refused_by = bad_of (line_end sheet at + 1) breach _ r.answer

    -- the words are as they were, so what they say of the sheet is known
    pub bad_progress : Progress words'
    bad_progress = rw (r.bad_line breach.number refused_by) ahead.progress

    -- the field is looked for beside the sheet so far
    pub line_bad : {refusal : Refusal} → BadLine sheet at words' breach line refusal → Load sheet words₀ words' (Err refusal)
    unfolding carry_on
    line_bad {refusal} b =
        let same : words' ≡ words = r.bad_line breach.number refused_by in
        let e : refusal.field ≡ field_of breach.number (so_far_of (so_far words)) (fields (line_at sheet at)) =
        b.field_is (so_far_of (so_far words)) (rw same (so_far_counted words ahead.progress _ refl)) in
        let field : ℕ = field_of breach.number (so_far_of (so_far words)) (fields (line_at sheet at)) in
        let whole : ◌≡◌ {A = Refusal} (record { number = breach.number; line = line; field = field }) refusal =
        rw (← e, ← b.number_is, ← b.line_is) refl in
        refused_load (next_line ∙ rw refused_by (ap refused whole)) (r.same_length ∙ ahead.same_length)

-- the end

module _ {sheet : Bytes} {at line : ℕ} {words₀ words : List ℕ} (ahead : Ahead sheet at line words₀ words) (ended : length sheet ≤ at) where
  at_end : read sheet ≡ read_end line (so_far words)
  unfolding read_lines
  at_end = ahead.gives ∙ rw (lines_past sheet at ended)

  -- "or the sheet ends with too few `B`"
  pub too_few : {r : Reached} {blocks : ℕ} → r ≡ reached_of words → blocks ≡ get_or words blocks_word 0 → (not r.begun || ltb r.opened blocks) ≡ true
      → Load sheet words₀ words (Err (record { number = 4; line = line; field = 0 }))
  unfolding read_end sheet_of
  too_few q n e = refused_load (at_end ∙ go ahead.progress (rw (q, n) at e)) ahead.same_length
    where
      go : Progress words → (not (not (eqb (get_or words begun_word 0) 0)) || ltb (get_or words opened_word 0) (get_or words blocks_word 0)) ≡ true
          → read_end line (so_far words) ≡ refused (record { number = 4; line = line; field = 0 })
      go (reading.blank p) e = rw (so_far_blank words p)
      go (reading.begun p) e = rw (so_far_begun words p, length_blocks words 0 (get_or words opened_word 0), rw p.begun at e)

  pub all_read : {r : Reached} {blocks : ℕ} → r ≡ reached_of words → blocks ≡ get_or words blocks_word 0 → (not r.begun || ltb r.opened blocks) ≡ false
      → Load sheet words₀ words (Ok tt)
  unfolding loading_of read_end sheet_of
  all_read q n f = go ahead.progress
    where
      e : (not (not (eqb (get_or words begun_word 0) 0)) || ltb (get_or words opened_word 0) (get_or words blocks_word 0)) ≡ false
      e = rw (q, n) at f

      go : Progress words → Load sheet words₀ words (Ok tt)
      go (reading.blank p) = absurd (let z : true ≡ false = rw (p.zeros begun_word (omega arith)) at e in true≢false z)
      go (reading.begun p) =
          let few : ltb (get_or words opened_word 0) (get_or words blocks_word 0) ≡ false = rw p.begun at e in
          let q : read sheet ≡ loaded (sheet_of words) = at_end ∙ rw (so_far_begun words p, length_blocks words 0 (get_or words opened_word 0), few) in
          record {
            answer = rw q;
            same_length = ahead.same_length;
            meaning = λ S g. (
              let w : loaded (sheet_of words) ≡ loaded S = sym q ∙ g in cc,
              record { bounds = p.bounds; whole = omega (arith, p.bounds.opened, ltb-false (get_or words opened_word 0) (get_or words blocks_word 0) few) },
            );
          }

-- before the first line

-- refusal 2
pub no_sheet : (sheet : Bytes) (words : List ℕ) → no_text sheet ≡ true → Load sheet words words (Err (record { number = 2; line = 0; field = 0 }))
unfolding read
no_sheet sheet words e = refused_load (rw e) refl

-- the words with all below the blocks cleared
module _ (words zeros : List ℕ) (e : zeros ≡ replicate (length (take block_base words)) 0) (size : all_words ≤ length words) where
  cleared_front : zeros ≡ replicate block_base 0
  cleared_front = e ∙ ap (λ n. replicate n 0) (length-take-le block_base words (omega arith))

  pub cleared_length : length (zeros ++ drop block_base words) ≡ length words
  cleared_length = rw (length-append, cleared_front, length-replicate, length-drop) (omega arith)

  pub cleared_blank : Blank (zeros ++ drop block_base words)
  cleared_blank = record {
    size = rw cleared_length size;
    zeros = λ i h.
        let here : i < length zeros = omega (arith, ap length cleared_front ∙ length-replicate {A = ℕ} block_base 0) in
        get_or-append zeros (drop block_base words) 0 i here ∙ ap (λ l. get_or l i 0) cleared_front ∙ get_or-replicate block_base i 0 0 h;
  }

pub load_from : {sheet : Bytes} {words₀ words : List ℕ} {r : Result (Unit {0}) Refusal} (before : List ℕ) → length words₀ ≡ length before → Load sheet words₀ words r
    → Load sheet before words r
load_from before e l = record { answer = l.answer; same_length = l.same_length ∙ e; meaning = l.meaning }
