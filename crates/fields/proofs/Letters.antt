-- A name and an allocation go by the field's first byte, and then by a number.
use mathlib.Core.Path.{◌≡◌, refl, sym, ◌∙◌}
use mathlib.Core.Bool.{Bool, true, false, not, ◌&&◌, true≢false, and-false}
use mathlib.Core.List.{[], ◌∷◌}
use mathlib.Core.Option.{Option, none, some, map}
use Prim.Native.Nat.{ℕ, ◌+◌, ◌≤◌, ◌<◌}
use native.Mathlib.Omega.{arith}
use borrow.Author.Tests.{ne_eqb, eqb-true, not-true, ltb-true, ltb-false}
use Rattle.std.proofs.lemmas.List.{get_or_default}
use lib.Dec.{eqb, ltb}
use lib.ListN.{length, get_or}
use Rattle.lists.specs.Split.{by_test, and_left, and_right}
use Rattle.paper.specs.Text.{Bytes, hyphen, letter_r, letter_v, is_digit, all_digits, is_number, number_of, name_of}
use Rattle.paper.specs.Refusals.{one_byte, allocation_of}
use Rattle.fields.specs.Fields.{ends_field, field_at, field_end, number_told, number_at, name_told, name_at, name_read, name_made, allocation_told, allocation_at, Within}
use Rattle.fields.specs.Cursor.{field_past, field_stop, field_more, field_end_more}
use Rattle.fields.specs.declared.Name as ReadName
use Rattle.std.specs.Prelude as read
use Rattle.std.specs.Prelude.{Some, None}

-- what the library says of a byte looked up at a place
pub byte_there : (s : Bytes) (at b : ℕ) → true ≡ ltb at (length s) → b ≡ get_or s at b → (at < length s) × (b ≡ get_or s at 0)
byte_there s at b t e = let h : at < length s = ltb-true _ _ (sym t) in (h, e ∙ get_or_default s at b 0 h)

pub none_there : (s : Bytes) (at : ℕ) → false ≡ ltb at (length s) → length s ≤ at
none_there s at t = ltb-false _ _ (sym t)

pub within_before : {s : Bytes} {at v next : ℕ} → Within s (at + 1) v next → Within s at v next
within_before w = record { small = w.small; further = omega (arith, w.further); inside = w.inside }

-- what the number behind the letter makes of a name, and what a number makes of an allocation
abbrev pub lettered : Bool → read.Option (ℕ × ℕ) → read.Option (ReadName.Name × ℕ)
lettered is_real None = None
lettered is_real (Some x) = Some (name_read (name_made is_real x.0), x.1)

abbrev pub given : read.Option (ℕ × ℕ) → read.Option (read.Option ℕ × ℕ)
given None = None
given (Some x) = Some (Some x.0, x.1)

lettered_told : (is_real : Bool) (next : ℕ) (o : Option ℕ) → name_told next (map (name_made is_real) o) ≡ lettered is_real (number_told next o)
unfolding name_told number_told
lettered_told is_real next none = refl
lettered_told is_real next (some n) = refl

given_told : (next : ℕ) (o : Option ℕ) → allocation_told next (map some o) ≡ given (number_told next o)
unfolding allocation_told number_told
given_told next none = refl
given_told next (some r) = refl

-- a letter or a digit ends no field
pub letter_inner : (b : ℕ) → 10 < b → ends_field b ≡ false
unfolding ends_field
letter_inner b h = rw (ne_eqb b 9 (omega arith), ne_eqb b 10 (omega arith))

no_hyphen : (b : ℕ) (bs : Bytes) → (b ≡ hyphen → ⊥) → eqb (one_byte (b ∷ bs)) hyphen ≡ false
unfolding one_byte
no_hyphen b [] e = ne_eqb b hyphen e
no_hyphen b (c ∷ bs) e = refl

module _ (s : Bytes) (at : ℕ) where
  pub name_past : length s ≤ at → None ≡ name_at s at
  unfolding name_at name_told name_of
  name_past h = rw (field_past s at h)

  pub allocation_past : length s ≤ at → None ≡ allocation_at s at
  unfolding allocation_at allocation_told allocation_of one_byte number_of is_number
  allocation_past h = rw (field_past s at h)

  module _ (h : at < length s) where
    pub name_other : (not (eqb (get_or s at 0) letter_r) && not (eqb (get_or s at 0) letter_v)) ≡ true → None ≡ name_at s at
    unfolding name_at name_told name_of
    name_other t =
        let b : ℕ = get_or s at 0 in
        by_test (ends_field b)
        (λ e. rw (field_stop s at h e))
        λ e.
        let not_r : eqb b letter_r ≡ false = not-true _ (and_left _ _ t) in
        let not_v : eqb b letter_v ≡ false = not-true _ (and_right (not (eqb b letter_r)) (not (eqb b letter_v)) t) in
        rw (field_more s at h e, not_r, not_v)

    pub name_behind : (not (eqb (get_or s at 0) letter_r) && not (eqb (get_or s at 0) letter_v)) ≡ false
        → name_at s at ≡ lettered (eqb (get_or s at 0) letter_r) (number_at s (at + 1))
    unfolding name_at number_at name_of name_made
    name_behind t =
        let b : ℕ = get_or s at 0 in
        by_test (eqb b letter_r)
        (λ e.
        let f : ends_field b ≡ false = letter_inner b (omega (arith, eqb-true b letter_r e)) in
        rw (field_more s at h f, field_end_more s at h f, e) (lettered_told true _ _))
        λ e. by_test (eqb b letter_v)
        (λ g.
        let f : ends_field b ≡ false = letter_inner b (omega (arith, eqb-true b letter_v g)) in
        rw (field_more s at h f, field_end_more s at h f, e, g) (lettered_told false _ _))
        λ g. absurd (true≢false (rw (e, g) at t))

    -- no hyphen stands first
    pub allocation_number : (get_or s at 0 ≡ hyphen → ⊥) → allocation_at s at ≡ given (number_at s at)
    unfolding allocation_at number_at allocation_of one_byte
    allocation_number n =
        by_test (ends_field (get_or s at 0))
        (λ e. rw (field_stop s at h e) (given_told _ _))
        λ e. rw (field_more s at h e, no_hyphen (get_or s at 0) (field_at s (at + 1)) n) (given_told _ _)

    -- a hyphen stands first: the field is that byte alone, or says nothing
    module _ (y : get_or s at 0 ≡ hyphen) where
      hyphen_field : field_at s at ≡ hyphen ∷ field_at s (at + 1)
      hyphen_field = field_more s at h (rw y (letter_inner hyphen (omega arith))) ∙ rw y

      pub allocation_none : field_at s (at + 1) ≡ [] → Some (None, at + 1) ≡ allocation_at s at
      unfolding allocation_at allocation_told allocation_of one_byte field_end
      allocation_none e = rw (hyphen_field, e)

      pub allocation_bad : at + 1 < length s → ends_field (get_or s (at + 1) 0) ≡ false → None ≡ allocation_at s at
      unfolding allocation_at allocation_told allocation_of one_byte number_of is_number all_digits is_digit
      allocation_bad k e = rw (hyphen_field, field_more s (at + 1) k e, and-false)
