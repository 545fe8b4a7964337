-- A line's letter: where the first field has one byte, the line goes on behind it.
use Rattle.std.specs.Prelude.{◌≡◌, refl, true, false, [], ◌∷◌, ℕ, ◌+◌, ◌-◌, ◌≤◌, ◌<◌}
use Rattle.std.proofs.Common.{true≢false}
use native.Mathlib.Omega.{arith}
use Rattle.std.proofs.Math.ListN.{length, get_or}
use Rattle.lists.specs.Split.{by_test, by_order}
use Rattle.paper.specs.Text.{Bytes, line_feed}
use Rattle.paper.specs.Limits.{max_sheet}
use Rattle.paper.specs.Refusals.{one_byte}
use Rattle.fields.specs.Fields.{ends_field, field_at, field_end}
use Rattle.fields.specs.Cursor.{field_stop, field_ended}
use Rattle.records.specs.Records.{Behind}

one_byte_length : (field : Bytes) → (one_byte field ≡ 0 → ⊥) → length field ≡ 1
unfolding one_byte
one_byte_length [] d = absurd (d refl)
one_byte_length (b ∷ []) d = refl
one_byte_length (b ∷ c ∷ bs) d = absurd (d refl)

module _ (s : Bytes) (at : ℕ) (inside : at < length s) where
  pub letter_none : ends_field (get_or s at 0) ≡ true → one_byte (field_at s at) ≡ 0
  unfolding one_byte
  letter_none e = rw (field_stop s at inside e)

  -- a byte that ends no field is not the last one
  pub not_last : get_or s (length s - 1) 0 ≡ line_feed → ends_field (get_or s at 0) ≡ false → at + 1 < length s
  unfolding ends_field
  not_last last e =
      by_order (at + 1) (length s) (λ h. h) λ h.
      let q : length s - 1 ≡ at = omega arith in
      let feed : get_or s at 0 ≡ line_feed = rw q at last in
      absurd (true≢false (rw feed at e))

  module _ (some_letter : one_byte (field_at s at) ≡ 0 → ⊥) where
    pub opens : ends_field (get_or s at 0) ≡ false
    opens = by_test (ends_field (get_or s at 0)) (λ t. absurd (some_letter (letter_none t))) λ t. t

    pub letter_ends : field_end s at ≡ at + 1
    unfolding field_end
    letter_ends = rw (one_byte_length (field_at s at) some_letter)

    pub behind_letter : get_or s (length s - 1) 0 ≡ line_feed → length s ≤ max_sheet → Behind s (at + 1)
    behind_letter last size =
        let h : at + 1 < length s = not_last last opens in
        record { inside = h; stops = rw letter_ends at (field_ended s at (rw letter_ends h)); last = last; size = size }
