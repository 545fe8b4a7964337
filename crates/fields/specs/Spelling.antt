-- A number has one spelling, `digits`, and a name one, `name_text`: what is written so is read as the same value, and what is
-- read was spelled so.
use Rattle.std.specs.Prelude.{◌≡◌, refl, Bool, true, false, [], ◌∷◌, ℕ, zero, suc, ◌+◌, ◌-◌, ◌*◌, ◌/◌, ◌%◌, ◌≤◌, ◌<◌, eqb, leb}
use Rattle.std.proofs.Common.{sym, ◌∙◌, mul_assoc, mul-le-mul_right}
use Rattle.std.proofs.Math.Path.{subst⁻¹}
use Rattle.std.proofs.Math.Option.{Option, none, some, map}
use native.Mathlib.Omega.{arith}
use borrow.Author.Tests.{ne_eqb, lt-ltb, le-leb, lt-leb, leb-true, eqb-true, eqb-false}
use Rattle.std.proofs.Math.ListN.{length}
use Rattle.lists.specs.Split.{by_test, by_order, and_left, and_right}
use Rattle.paper.specs.Text.{Bytes, is_digit, all_digits, leading_zero, is_number, value_from, number_of, digit_from, digits, letter_r, letter_v, Name, real, virtual, name_of, name_text}
use Rattle.fields.specs.Fields.{name_made}

-- the digits of a number, by its length

one : ℕ → Bytes
one v = (48 + v % 10) ∷ []

two : ℕ → Bytes
two v = (48 + v / 10 % 10) ∷ one v

three : ℕ → Bytes
three v = (48 + v / 100 % 10) ∷ two v

four : ℕ → Bytes
four v = (48 + v / 1000 % 10) ∷ three v

five : ℕ → Bytes
five v = (48 + v / 10000 % 10) ∷ four v

module _ (v : ℕ) where
  digits_one : v < 10 → digits v ≡ one v
  unfolding digits digit_from one
  digits_one h = rw (lt-leb 10000 v (omega arith), lt-leb 1000 v (omega arith), lt-leb 100 v (omega arith), lt-leb 10 v h)

  digits_two : 10 ≤ v → v < 100 → digits v ≡ two v
  unfolding digits digit_from one two
  digits_two l h = rw (lt-leb 10000 v (omega arith), lt-leb 1000 v (omega arith), lt-leb 100 v h, le-leb 10 v l)

  digits_three : 100 ≤ v → v < 1000 → digits v ≡ three v
  unfolding digits digit_from one two three
  digits_three l h = rw (lt-leb 10000 v (omega arith), lt-leb 1000 v h, le-leb 100 v l, le-leb 10 v (omega arith))

  digits_four : 1000 ≤ v → v < 10000 → digits v ≡ four v
  unfolding digits digit_from one two three four
  digits_four l h = rw (lt-leb 10000 v h, le-leb 1000 v l, le-leb 100 v (omega arith), le-leb 10 v (omega arith))

  digits_five : 10000 ≤ v → digits v ≡ five v
  unfolding digits digit_from one two three four five
  digits_five l = rw (le-leb 10000 v l, le-leb 1000 v (omega arith), le-leb 100 v (omega arith), le-leb 10 v (omega arith))

  -- a fact of a number and its digits, by their length
  by_length : (P : Bytes → Type 0)
      → (v < 10 → P (one v)) → (10 ≤ v → v < 100 → P (two v)) → (100 ≤ v → v < 1000 → P (three v)) → (1000 ≤ v → v < 10000 → P (four v)) → (10000 ≤ v → P (five v))
      → P (digits v)
  by_length P p1 p2 p3 p4 p5 =
      by_order v 10
      (λ a. subst⁻¹ P (digits_one a) (p1 a))
      λ a. by_order v 100
      (λ b. subst⁻¹ P (digits_two a b) (p2 a b))
      λ b. by_order v 1000
      (λ c. subst⁻¹ P (digits_three b c) (p3 b c))
      λ c. by_order v 10000
      (λ d. subst⁻¹ P (digits_four c d) (p4 c d))
      λ d. subst⁻¹ P (digits_five d) (p5 d)

-- what is written is read

digit_of : (v : ℕ) → is_digit (48 + v % 10) ≡ true
unfolding is_digit
digit_of v = rw (le-leb 48 (48 + v % 10) (omega arith), le-leb (48 + v % 10) 57 (omega arith))

-- a number from its last digit and the rest
tail : (v : ℕ) → v / 10 * 10 + v % 10 ≡ v
tail v = omega arith

tens : (v : ℕ) → v / 100 * 10 + v / 10 % 10 ≡ v / 10
tens v = omega arith

hundreds : (v : ℕ) → v / 1000 * 10 + v / 100 % 10 ≡ v / 100
hundreds v = omega arith

thousands : (v : ℕ) → v / 10000 * 10 + v / 1000 % 10 ≡ v / 1000
thousands v = omega arith

number_is : (f : Bytes) (v : ℕ) → 1 ≤ length f → length f ≤ 5 → all_digits f ≡ true → leading_zero f ≡ false → value_from 0 f ≡ v → number_of f ≡ some v
unfolding number_of is_number
number_is f v l h a z e = rw (le-leb 1 (length f) l, le-leb (length f) 5 h, a, z, e)

-- no zero stands first
lead : (x y : ℕ) → x ≡ y → 0 < y → eqb (48 + x) 48 ≡ false
lead x y e h = ne_eqb (48 + x) 48 (omega arith)

pub number_of_digits : (v : ℕ) → v < 100000 → number_of (digits v) ≡ some v
unfolding one two three four five all_digits leading_zero value_from
number_of_digits v h =
    by_length v (λ f. number_of f ≡ some v)
    (λ b. number_is (one v) v (omega arith) (omega arith) (rw (digit_of v)) refl (omega arith))
    (λ a b.
    let top : v / 10 % 10 ≡ v / 10 = omega arith in
    number_is (two v) v (omega arith) (omega arith) (rw (digit_of (v / 10), digit_of v)) (lead _ _ top (omega arith)) (omega (arith, tail v)))
    (λ a b.
    let top : v / 100 % 10 ≡ v / 100 = omega arith in
    number_is (three v) v (omega arith) (omega arith) (rw (digit_of (v / 100), digit_of (v / 10), digit_of v)) (lead _ _ top (omega arith))
    (omega (arith, tens v, tail v)))
    (λ a b.
    let top : v / 1000 % 10 ≡ v / 1000 = omega arith in
    number_is (four v) v (omega arith) (omega arith) (rw (digit_of (v / 1000), digit_of (v / 100), digit_of (v / 10), digit_of v)) (lead _ _ top (omega arith))
    (omega (arith, hundreds v, tens v, tail v)))
    λ a.
    let top : v / 10000 % 10 ≡ v / 10000 = omega arith in
    number_is (five v) v (omega arith) (omega arith) (rw (digit_of (v / 10000), digit_of (v / 1000), digit_of (v / 100), digit_of (v / 10), digit_of v)) (lead _ _ top (omega arith))
    (omega (arith, thousands v, hundreds v, tens v, tail v))

-- what is read was written

-- the bytes of a field that is a number, and its value
pub record Number (f : Bytes) (v : ℕ) : Type 0 where
  pub some_digit : 1 ≤ length f
  pub few : length f ≤ 5
  pub all : all_digits f ≡ true
  pub plain : leading_zero f ≡ false
  pub value : value_from 0 f ≡ v

pub number : {f : Bytes} {v : ℕ} → number_of f ≡ some v → Number f v
unfolding number_of is_number
number {f} {v} e =
    by_test (leb 1 (length f)) (λ a. by_test (leb (length f) 5) (λ b. by_test (all_digits f) (λ c. by_test (leading_zero f)
    (λ d. absurd (let z : ◌≡◌ {A = ℕ} 0 1 = cc (rw (a, b, c, d) at e) in omega arith))
    λ d. record { some_digit = leb-true _ _ a; few = leb-true _ _ b; all = c; plain = d; value = cc (rw (a, b, c, d) at e) })
    λ c. absurd (let z : ◌≡◌ {A = ℕ} 0 1 = cc (rw (a, b, c) at e) in omega arith))
    λ b. absurd (let z : ◌≡◌ {A = ℕ} 0 1 = cc (rw (a, b) at e) in omega arith))
    λ a. absurd (let z : ◌≡◌ {A = ℕ} 0 1 = cc (rw a at e) in omega arith)

pub digit_range : (b : ℕ) → is_digit b ≡ true → (48 ≤ b) × (b < 58)
unfolding is_digit
digit_range b e = (leb-true _ _ (and_left _ _ e), omega (arith, leb-true b 57 (and_right (leb 48 b) (leb b 57) e)))

-- ten to a power; a text of n digits behind the value v is worth v * ten n at least, and less than (v + 1) * ten n
ten : ℕ → ℕ
ten zero = 1
ten (suc n) = 10 * ten n

ten_more : (m n : ℕ) → m ≤ n → ten m ≤ ten n
unfolding ten
ten_more zero zero h = omega arith
ten_more zero (suc n) h = omega (arith, ten_more zero n (omega arith))
ten_more (suc m) zero h = absurd (omega arith)
ten_more (suc m) (suc n) h = omega (arith, ten_more m n (omega arith))

at_least : (f : Bytes) (v : ℕ) → v * ten (length f) ≤ value_from v f
unfolding ten value_from
at_least [] v = omega arith
at_least (b ∷ bs) v =
    let T : ℕ = ten (length bs) in
    let more : v * 10 * T ≤ (v * 10 + (b - 48)) * T = mul-le-mul_right T (omega arith) in
    rw (← mul_assoc v 10 T) (omega (arith, more, at_least bs (v * 10 + (b - 48))))

less_than : (f : Bytes) (v : ℕ) → all_digits f ≡ true → value_from v f < (v + 1) * ten (length f)
unfolding ten value_from all_digits
less_than [] v e = omega arith
less_than (b ∷ bs) v e =
    let T : ℕ = ten (length bs) in
    let digit = digit_range b (and_left _ _ e) in
    let more : (v * 10 + (b - 48) + 1) * T ≤ (v + 1) * 10 * T = mul-le-mul_right T (omega arith) in
    rw (← mul_assoc (v + 1) 10 T) (omega (arith, more, less_than bs (v * 10 + (b - 48)) (and_right (is_digit b) (all_digits bs) e)))

-- of two numbers' texts with one value neither is longer
all_head : (b : ℕ) (bs : Bytes) → all_digits (b ∷ bs) ≡ true → is_digit b ≡ true
unfolding all_digits
all_head b bs e = and_left _ _ e

longer : {f g : Bytes} {v : ℕ} → Number f v → Number g v → length f < length g → ⊥
unfolding value_from leading_zero
longer {f} {g} {v} p q h = go g q h
  where
    go : (g : Bytes) → Number g v → length f < length g → ⊥
    go [] q h = omega arith
    go (a ∷ []) q h = omega (arith, p.some_digit)
    go (a ∷ b ∷ bs) q h =
        let lead : a ≡ 48 → ⊥ = eqb-false a 48 (rw (lt-ltb 1 (suc (suc (length bs))) (omega arith)) at q.plain) in
        let digit = digit_range a (all_head a (b ∷ bs) q.all) in
        let T : ℕ = ten (length (b ∷ bs)) in
        let low : 1 * T ≤ (0 * 10 + (a - 48)) * T = mul-le-mul_right T (omega arith) in
        omega (arith, low, at_least (b ∷ bs) (0 * 10 + (a - 48)), q.value, less_than f 0 p.all, p.value, ten_more (length f) (length (b ∷ bs)) (omega arith))

-- texts of the same length with one value are the same
same_digits : (f g : Bytes) (v w : ℕ) → all_digits f ≡ true → all_digits g ≡ true → length f ≡ length g → value_from v f ≡ value_from w g → (v ≡ w) × (f ≡ g)
unfolding value_from all_digits
same_digits [] [] v w p q l e = (e, refl)
same_digits [] (y ∷ g) v w p q l e = absurd (omega arith)
same_digits (x ∷ f) [] v w p q l e = absurd (omega arith)
same_digits (x ∷ f) (y ∷ g) v w p q l e =
    let dx = digit_range x (and_left _ _ p) in
    let dy = digit_range y (and_left _ _ q) in
    let more = same_digits f g (v * 10 + (x - 48)) (w * 10 + (y - 48)) (and_right (is_digit x) (all_digits f) p) (and_right (is_digit y) (all_digits g) q) (omega arith) e in
    let here : v * 10 + (x - 48) ≡ w * 10 + (y - 48) = more.0 in
    let same : x ≡ y = omega arith in
    (omega arith, rw (same, more.1))

pub one_spelling : {f g : Bytes} {v : ℕ} → Number f v → Number g v → f ≡ g
one_spelling {f} {g} {v} p q =
    by_order (length f) (length g)
    (λ h. absurd (longer p q h))
    λ h. by_order (length g) (length f)
    (λ k. absurd (longer q p k))
    λ k. (same_digits f g 0 0 p.all q.all (omega arith) (p.value ∙ sym q.value)).1

pub number_small : {f : Bytes} {v : ℕ} → Number f v → v < 100000
unfolding ten
number_small {f} {v} n = omega (arith, less_than f 0 n.all, n.value, ten_more (length f) 5 n.few)

pub digits_of_number : (f : Bytes) (v : ℕ) → number_of f ≡ some v → f ≡ digits v
digits_of_number f v e = one_spelling (number e) (number (number_of_digits v (number_small (number e))))

-- the room that a number takes
module _ (v : ℕ) where
  pub length_digits : length (digits v) ≤ 5
  unfolding one two three four five
  length_digits = by_length v (λ f. length f ≤ 5) (λ a. omega arith) (λ a b. omega arith) (λ a b. omega arith) (λ a b. omega arith) λ a. omega arith

  pub length_one : v < 10 → length (digits v) ≡ 1
  unfolding one
  length_one h = rw (digits_one v h)

  pub length_two : v < 100 → length (digits v) ≤ 2
  unfolding one two
  length_two h = by_order v 10 (λ a. rw (digits_one v a) (omega arith)) λ a. rw (digits_two v a h) (omega arith)

  pub length_three : v < 1000 → length (digits v) ≤ 3
  unfolding three two one
  length_three h = by_order v 100 (λ a. omega (arith, length_two a)) λ a. rw (digits_three v a h) (omega arith)

  pub length_four : v < 10000 → length (digits v) ≤ 4
  unfolding four three two one
  length_four h = by_order v 1000 (λ a. omega (arith, length_three a)) λ a. rw (digits_four v a h) (omega arith)

-- names

pub name_of_text : (is_real : Bool) (n : ℕ) → n < 100000 → name_of (name_text (name_made is_real n)) ≡ some (name_made is_real n)
unfolding name_of name_text name_made
name_of_text true n h = rw (number_of_digits n h)
name_of_text false n h = rw (number_of_digits n h)

-- what stands behind the letter
spelled_behind : (letter : ℕ) (made : ℕ → Name) (bs : Bytes) (x : Name) → ((v : ℕ) → name_text (made v) ≡ letter ∷ digits v)
    → (o : Option ℕ) → number_of bs ≡ o → map made o ≡ some x → letter ∷ bs ≡ name_text x
spelled_behind letter made bs x spells none e m = absurd (let z : ◌≡◌ {A = ℕ} 0 1 = cc in omega arith)
spelled_behind letter made bs x spells (some v) e m =
    let ex : made v ≡ x = cc in
    rw (← ex, spells v, digits_of_number bs v e)

pub text_of_name : (f : Bytes) (x : Name) → name_of f ≡ some x → f ≡ name_text x
unfolding name_of name_text
text_of_name [] x e = absurd (let z : ◌≡◌ {A = ℕ} 0 1 = cc in omega arith)
text_of_name (b ∷ bs) x e =
    by_test (eqb b letter_r)
    (λ r. rw (eqb-true b letter_r r) (spelled_behind letter_r real bs x (λ v. refl) (number_of bs) refl (rw r at e)))
    λ r. by_test (eqb b letter_v)
    (λ v. rw (eqb-true b letter_v v) (spelled_behind letter_v virtual bs x (λ v. refl) (number_of bs) refl (rw (r, v) at e)))
    λ v. absurd (let z : ◌≡◌ {A = ℕ} 0 1 = cc (rw (r, v) at e) in omega arith)
