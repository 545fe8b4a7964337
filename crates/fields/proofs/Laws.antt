-- What the loop of `read_number` holds, and what each way out of it tells; and the room of a number written digit by digit.
use mathlib.Core.Path.{◌≡◌, refl, sym, ◌∙◌}
use mathlib.Core.Bool.{true, false, and-false}
use mathlib.Core.List.{List, [], ◌∷◌, ◌++◌, append-nil, append_assoc}
use mathlib.Core.Option.{none}
use Rattle.std.specs.Prelude.{Some, None}
use Prim.Native.Nat.{ℕ, suc, ◌+◌, ◌-◌, ◌*◌, ◌/◌, ◌%◌, ◌≤◌, ◌<◌}
use native.Mathlib.Omega.{arith}
use borrow.Author.Tests.{lt-ltb, le-leb, lt-leb}
use lib.ListN.{length, get_or, take, drop, length-append}
use lib.Seq.{drop-drop, sets-eq}
use borrow.Rule.Slice.PartMut.{put_mid}
use Rattle.lists.specs.Sets.{Wrote}
use Rattle.lists.specs.Split.{by_test, by_order}
use Rattle.paper.specs.Text.{Bytes, is_digit, all_digits, leading_zero, is_number, number_of, digit_from, digits}
use Rattle.fields.specs.Fields.{ends_field, field_at, field_end, number_told, number_at, Within}
use Rattle.fields.specs.Spelling.{digit_range, number_of_digits}
use Rattle.fields.specs.Cursor.{field_past, field_stop, field_more}
use Rattle.fields.proofs.Letters.{letter_inner}

-- a number's digits: one alone, one more behind them, and where there are five

digit_none : (u v : ℕ) → v < u → digit_from u v ≡ []
unfolding digit_from
digit_none u v h = rw (lt-leb u v h)

digit_some : (u v q : ℕ) → u ≤ v → v / u ≡ q → digit_from u v ≡ (48 + q % 10) ∷ []
unfolding digit_from
digit_some u v q h e = rw (le-leb u v h, e)

-- the digit of v at u stands at t in w
digit_same : (t u w v : ℕ) → (u ≤ v → t ≤ w) → (v < u → w < t) → w / t ≡ v / u → digit_from t w ≡ digit_from u v
digit_same t u w v more less e =
    by_order v u
    (λ h. digit_none t w (less h) ∙ sym (digit_none u v h))
    λ h. digit_some t w _ (more h) e ∙ sym (digit_some u v _ h refl)

digits_first : (b : ℕ) → is_digit b ≡ true → digits (b - 48) ≡ b ∷ []
unfolding digits
digits_first b g =
    let r = digit_range b g in
    let v : ℕ = b - 48 in
    let last : 48 + v % 10 ≡ b = omega arith in
    rw (digit_none 10000 v (omega arith), digit_none 1000 v (omega arith), digit_none 100 v (omega arith), digit_none 10 v (omega arith), last)

digits_next : (v b : ℕ) → (v ≡ 0 → ⊥) → v ≤ 9999 → is_digit b ≡ true → digits (v * 10 + (b - 48)) ≡ digits v ++ (b ∷ [])
unfolding digits
digits_next v b z m g =
    let r = digit_range b g in
    let w : ℕ = v * 10 + (b - 48) in
    let last : 48 + w % 10 ≡ b = omega arith in
    rw (
      digit_same 10000 1000 w v (λ h. omega arith) (λ h. omega arith) (omega arith),
      digit_same 1000 100 w v (λ h. omega arith) (λ h. omega arith) (omega arith),
      digit_same 100 10 w v (λ h. omega arith) (λ h. omega arith) (omega arith),
      digit_some 10 w v (omega arith) (omega arith),
      last,
      digit_none 10000 v (omega arith),
      append_assoc,
      append_assoc,
      append_assoc,
    )

digits_five : (v : ℕ) → 10000 ≤ v → length (digits v) ≡ 5
unfolding digits
digits_five v h =
    rw (digit_some 10000 v _ h refl, digit_some 1000 v _ (omega arith) refl, digit_some 100 v _ (omega arith) refl, digit_some 10 v _ (omega arith) refl)

-- what is no number: a field with a byte that is no digit, or with a byte behind a zero or behind five digits

no_digit : (ds : Bytes) (b : ℕ) (bs : Bytes) → is_digit b ≡ false → all_digits (ds ++ b ∷ bs) ≡ false
unfolding all_digits
no_digit [] b bs g = rw g
no_digit (d ∷ ds) b bs g = rw (no_digit ds b bs g) (and-false (is_digit d))

module _ (b : ℕ) (bs : Bytes) where
  none_digit : (ds : Bytes) → is_digit b ≡ false → number_of (ds ++ b ∷ bs) ≡ none
  unfolding number_of is_number
  none_digit ds g = rw (no_digit ds b bs g, and-false)

  none_zero : number_of (digits 0 ++ b ∷ bs) ≡ none
  unfolding number_of is_number leading_zero digits digit_from
  none_zero = rw (lt-ltb 1 (suc (suc (length bs))) (omega arith), and-false)

  none_many : (v : ℕ) → 9999 < v → number_of (digits v ++ b ∷ bs) ≡ none
  unfolding number_of is_number
  none_many v m = rw (length-append, lt-leb (length (digits v) + suc (length bs)) 5 (omega (arith, digits_five v m)), and-false)

module _ (s : Bytes) (at : ℕ) where
  bad : {f : Bytes} → field_at s at ≡ f → number_of f ≡ none → None ≡ number_at s at
  unfolding number_at number_told
  bad e n = rw (e, n)

  bad_empty : field_at s at ≡ [] → None ≡ number_at s at
  unfolding number_of is_number
  bad_empty e = bad e refl

  -- the text or the field ends here, or begins with no digit
  pub bad_past : length s ≤ at → None ≡ number_at s at
  bad_past h = bad_empty (field_past s at h)

  pub bad_first : at < length s → is_digit (get_or s at 0) ≡ false → None ≡ number_at s at
  bad_first h g =
      by_test (ends_field (get_or s at 0))
      (λ e. bad_empty (field_stop s at h e))
      λ e. bad (field_more s at h e) (none_digit _ _ [] g)

digit_inner : (b : ℕ) → is_digit b ≡ true → ends_field b ≡ false
digit_inner b g = letter_inner b (omega (arith, digit_range b g))

-- the field at `at` read up to i: the one spelling of v, so v tells how many digits there are
pub record Led (s : Bytes) (at v i : ℕ) : Type 0 where
  pub whole : field_at s at ≡ digits v ++ field_at s i
  pub place : i ≡ at + length (digits v)
  pub within : Within s at v i

pub led_first : (s : Bytes) (at : ℕ) → at < length s → is_digit (get_or s at 0) ≡ true → Led s at (get_or s at 0 - 48) (at + 1)
led_first s at h g =
    let r = digit_range (get_or s at 0) g in
    record {
      whole = rw (digits_first (get_or s at 0) g) (field_more s at h (digit_inner _ g));
      place = rw (digits_first (get_or s at 0) g);
      within = record { small = omega arith; further = omega arith; inside = omega arith };
    }

module _ {s : Bytes} {at v i : ℕ} (l : Led s at v i) where
  module _ (h : i < length s) where
    -- the field goes on with this byte
    goes : ends_field (get_or s i 0) ≡ false → field_at s at ≡ digits v ++ get_or s i 0 ∷ field_at s (i + 1)
    goes f = l.whole ∙ rw (field_more s i h f)

    pub led_other : ends_field (get_or s i 0) ≡ false → is_digit (get_or s i 0) ≡ false → None ≡ number_at s at
    led_other f g = bad s at (goes f) (none_digit _ _ (digits v) g)

    module _ (g : is_digit (get_or s i 0) ≡ true) where
      pub led_zero : v ≡ 0 → None ≡ number_at s at
      led_zero z = bad s at (goes (digit_inner _ g)) (rw z (none_zero _ _))

      pub led_many : 9999 < v → None ≡ number_at s at
      led_many m = bad s at (goes (digit_inner _ g)) (none_many _ _ v m)

      pub led_more : (v ≡ 0 → ⊥) → v ≤ 9999 → Led s at (v * 10 + (get_or s i 0 - 48)) (i + 1)
      led_more z m =
          let r = digit_range (get_or s i 0) g in
          let e = digits_next v (get_or s i 0) z m g in
          record {
            whole = rw (e, append_assoc) (goes (digit_inner _ g));
            place = rw (e, length-append) (omega (arith, l.place));
            within = record { small = omega arith; further = omega (arith, l.within.further); inside = omega arith };
          }

  -- the field ends here
  pub led_good : field_at s i ≡ [] → Some (v, i) ≡ number_at s at
  unfolding number_at number_told field_end
  led_good e =
      let whole : field_at s at ≡ digits v = l.whole ∙ rw (e, append-nil) in
      rw (whole, number_of_digits v l.within.small, ← l.place)

-- a number written digit by digit

pub digits_room : (v at n : ℕ) → at + length (digits v) ≤ n
    → at + (length (digit_from 10000 v) + length (digit_from 1000 v) + length (digit_from 100 v) + length (digit_from 10 v) + 1) ≤ n
unfolding digits
digits_room v at n h = simp length-append at h

-- a text copied to a part of the buffer as long as it
pub copied : (l text part : List ℕ) (at n : ℕ) → part ≡ text → n ≡ length text → at + length text ≤ length l → Wrote l at text (put_mid at n l part) (at + length text)
copied l text part at n is size h = record {
  list = rw (is, size, sets-eq text l at h, drop-drop (length text) at l) (sym (append_assoc (take at l) text (drop (at + length text) l)));
  next = refl;
}
