-- The sheet as text: refusal 2, and the letter of a line.
use mathlib.Core.Path.{◌≡◌, refl}
use mathlib.Core.Bool.{true, false, not, ◌||◌, true≢false}
use mathlib.Core.List.{[], ◌∷◌}
use Prim.Native.Nat.{ℕ, ◌+◌, ◌-◌, ◌<◌}
use native.Mathlib.Omega.{arith}
use borrow.Author.Tests.{ltb-false, eqb-true, not-false}
use lib.Dec.{eqb, ltb}
use lib.ListN.{length, get_or}
use Rattle.lists.specs.Split.{or_left, or_right}
use Rattle.paper.specs.Text.{Bytes, line_feed}
use Rattle.paper.specs.Limits.{max_sheet}
use Rattle.paper.specs.Refusals.{empty, one_byte, no_text}
use Rattle.fields.specs.Fields.{ends_field, field_at}
use Rattle.fields.specs.Cursor.{field_stop, field_more}
use Rattle.sheet.specs.Reading.{SheetText}

pub no_text_empty : (s : Bytes) → length s ≡ 0 → no_text s ≡ true
unfolding no_text empty
no_text_empty [] e = refl
no_text_empty (b ∷ bs) e = absurd (omega arith)

pub no_text_some : (s : Bytes) → (length s ≡ 0 → ⊥) → no_text s ≡ (ltb max_sheet (length s) || not (eqb (get_or s (length s - 1) 0) line_feed))
unfolding no_text empty
no_text_some [] e = absurd (e refl)
no_text_some (b ∷ bs) e = refl

pub text_of : (s : Bytes) → no_text s ≡ false → SheetText s
unfolding no_text empty
text_of [] e = absurd (true≢false e)
text_of (b ∷ bs) e =
    let s : Bytes = b ∷ bs in
    record {
      some_bytes = omega arith;
      size = ltb-false _ _ (or_left (ltb max_sheet (length s)) _ e);
      last = eqb-true _ _ (not-false _ (or_right (ltb max_sheet (length s)) _ e));
    }

module _ (s : Bytes) (at : ℕ) (inside : at < length s) where
  module _ (e : ends_field (get_or s at 0) ≡ false) (next : at + 1 < length s) where
    pub letter_one : ends_field (get_or s (at + 1) 0) ≡ true → one_byte (field_at s at) ≡ get_or s at 0
    unfolding one_byte
    letter_one d = rw (field_more s at inside e, field_stop s (at + 1) next d)

    pub letter_more : ends_field (get_or s (at + 1) 0) ≡ false → one_byte (field_at s at) ≡ 0
    unfolding one_byte
    letter_more d = rw (field_more s at inside e, field_more s (at + 1) next d)
