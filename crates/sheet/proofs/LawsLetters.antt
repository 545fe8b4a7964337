-- A line by its letter: the fields behind the letter are read by the letter's own reader.
use mathlib.Core.Path.{◌≡◌, refl, sym, ◌∙◌}
use mathlib.Core.Bool.{false, true≢false}
use mathlib.Core.List.{List}
use mathlib.Core.Option.{Option, none}
use Prim.Native.Nat.{ℕ, ◌+◌, ◌<◌}
use native.Mathlib.Omega.{arith}
use borrow.Author.Tests.{ne_eqb}
use lib.Dec.{eqb}
use lib.ListN.{length, get_or}
use Rattle.lists.specs.Split.{by_test}
use Rattle.paper.specs.Text.{Bytes, tab, fields}
use Rattle.paper.specs.Refusals.{Record, one_byte, by_letter, record_of, read_record}
use Rattle.fields.specs.Fields.{ends_line, ends_field, line_at, field_at, line_end, field_end, fields_behind}
use Rattle.fields.specs.Cursor.{until_more, fields_at}
use Rattle.sheet.specs.Reading.{SheetText, lined_of, LineRead}
use Rattle.std.specs.Prelude.{Err}
use Rattle.std.specs.declared.result.Result.{Result}
use Rattle.records.specs.declared.Breach.{Breach}
use Rattle.records.specs.Letters.{opens, letter_ends}

-- a byte that ends no field ends no line
no_feed : (b : ℕ) → ends_field b ≡ false → ends_line b ≡ false
unfolding ends_field ends_line
no_feed b e = by_test (eqb b tab) (λ t. absurd (true≢false (rw t at e))) λ t. rw t at e

module _ (s : Bytes) (at : ℕ) (text : SheetText s) (inside : at < length s) where
  module _ (some_letter : one_byte (field_at s at) ≡ 0 → ⊥) where
    same_line : line_end s (at + 1) ≡ line_end s at
    unfolding line_end line_at ends_line ends_field
    same_line = rw (until_more ends_line s at inside (no_feed (get_or s at 0) (opens s at inside some_letter))) (omega arith)

  -- the letter, as a number, and its reader
  module _ (letter : ℕ) (e : one_byte (field_at s at) ≡ letter) where
    by_its_letter : record_of (fields (line_at s at)) ≡ by_letter letter (fields_behind s (field_end s at))
    unfolding record_of
    by_its_letter = rw (fields_at s at, e)

    pub read_by_letter : (letter ≡ 0 → ⊥) → (read : Option Record) → by_letter letter (fields_behind s (at + 1)) ≡ read
        → {l l' : List ℕ} {r : Result ℕ Breach} → LineRead read s (at + 1) l l' r → LineRead (record_of (fields (line_at s at))) s at l l' r
    read_by_letter d read same line =
        let here : one_byte (field_at s at) ≡ 0 → ⊥ = λ z. d (sym e ∙ z) in
        let q : record_of (fields (line_at s at)) ≡ read = by_its_letter ∙ rw (letter_ends s at inside here) same in
        rw q (record {
          answer = rw (← same_line here) line.answer;
          same_length = line.same_length;
          bad_line = line.bad_line;
          good_line = λ S g.
              let k = line.good_line S g in
              record { inside = rw (← same_line here) k.inside; sheet_so_far = k.sheet_so_far; progress = k.progress };
        })

    -- refusal 3
    pub no_letter : (by_letter letter (fields_behind s (field_end s at)) ≡ none) → (l : List ℕ) → LineRead (record_of (fields (line_at s at))) s at l l (Err (record { number = 3 }))
    unfolding lined_of read_record
    no_letter z l = rw (by_its_letter, z) (record {
      answer = refl;
      same_length = refl;
      bad_line = λ number g. refl;
      good_line = λ S g. absurd (let w : ◌≡◌ {A = ℕ} 0 1 = cc in omega arith);
    })

pub other_letter : (letter : ℕ) (fs : List Bytes) → (letter ≡ 70 → ⊥) → (letter ≡ 84 → ⊥) → (letter ≡ 66 → ⊥) → (letter ≡ 83 → ⊥) → (letter ≡ 76 → ⊥)
    → (letter ≡ 77 → ⊥) → (letter ≡ 67 → ⊥) → (letter ≡ 79 → ⊥) → (letter ≡ 80 → ⊥) → by_letter letter fs ≡ none
unfolding by_letter
other_letter letter fs a b c d e f g h i =
    rw (ne_eqb _ _ a, ne_eqb _ _ b, ne_eqb _ _ c, ne_eqb _ _ d, ne_eqb _ _ e, ne_eqb _ _ f, ne_eqb _ _ g, ne_eqb _ _ h, ne_eqb _ _ i)
