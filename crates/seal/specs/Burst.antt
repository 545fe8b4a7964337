-- What the CRC cannot miss. A register of 32 bits that moves to 0 was 0, so registers that differ stay different while the same bits go in; and
-- up to 32 bits go in as one number. So texts whose bits differ inside one run of at most 32 have different CRCs.
use Rattle.std.specs.Prelude.{◌≡◌, refl, Bool, true, false, cond, List, [], ◌∷◌, ◌++◌, ℕ, zero, suc, ◌+◌, ◌*◌, ◌/◌, ◌%◌, ◌^◌, ◌≤◌, ◌<◌, eqb, length}
use Rattle.std.proofs.Common.{sym, ap, ap₂, ◌∙◌, append_assoc, pow-suc, arith}
use Rattle.std.proofs.Math.Nat.{pow-le-pow_right}
use Rattle.std.specs.Int.Bits.{bit_xor, xor_self}
use Rattle.std.proofs.lemmas.Nat.{xor_comm, xor_lt}
use Rattle.lists.specs.Xor.{of_bit, xor_cancel, xor_zero}
use Rattle.paper.specs.Text.{Bytes}
use Rattle.paper.specs.Seal.{polynomial, all_ones, feed_bit, feed_bits, feed, crc_of}
use Rattle.seal.specs.Table.{shift, shifts}
use Rattle.seal.specs.Linear.{shifts_linear, at_once}

abbrev Word : ℕ → Type 0
Word n = n < 2 ^ 32

-- the move of a register is one-to-one
shift_below : (x : ℕ) → Word x → Word (shift x)
unfolding shift
shift_below x h = xor_lt 32 (x / 2) (x % 2 * polynomial) (omega arith) (omega arith)

shift_zero : (x : ℕ) → Word x → shift x ≡ 0 → x ≡ 0
unfolding shift
shift_zero x h e = let k : x / 2 ≡ x % 2 * polynomial = xor_zero (x / 2) (x % 2 * polynomial) e in omega arith

shifts_zero : (n x : ℕ) → Word x → shifts n x ≡ 0 → x ≡ 0
unfolding shifts
shifts_zero zero x h e = e
shifts_zero (suc n) x h e = shift_zero x h (shifts_zero n (shift x) (shift_below x h) e)

shifts_below : (n x : ℕ) → Word x → Word (shifts n x)
unfolding shifts
shifts_below zero x h = h
shifts_below (suc n) x h = shifts_below n (shift x) (shift_below x h)

shifts_same : (n a b : ℕ) → Word a → Word b → shifts n a ≡ shifts n b → a ≡ b
shifts_same n a b ha hb e =
    let z : shifts n (bit_xor a b) ≡ 0 = shifts_linear n a b ∙ ap (λ (x : ℕ). bit_xor x (shifts n b)) e ∙ xor_self (shifts n b) in
    xor_zero a b (shifts_zero n (bit_xor a b) (xor_lt 32 a b ha hb) z)

shifts_one : (a b : ℕ) → Word a → Word b → shift a ≡ shift b → a ≡ b
unfolding shifts
shifts_one a b ha hb e = shifts_same 1 a b ha hb e

-- a text's bits, in the order in which the register takes them
unfoldable pub odd : ℕ → Bool
odd n = eqb (n % 2) 1

unfoldable pub bits : ℕ → ℕ → List Bool
bits zero byte = []
bits (suc n) byte = odd byte ∷ bits n (byte / 2)

unfoldable pub bits_of : Bytes → List Bool
bits_of [] = []
bits_of (b ∷ bs) = bits 8 b ++ bits_of bs

abbrev value : Bool → ℕ
value bit = cond bit 1 0

value_odd : (n : ℕ) → value (odd n) ≡ n % 2
unfolding odd
value_odd n = of_bit (λ x. value (eqb x 1) ≡ x) refl refl (n % 2) (omega arith)

-- the bits one by one
feed_all : ℕ → List Bool → ℕ
feed_all register [] = register
feed_all register (x ∷ xs) = feed_all (feed_bit register (value x)) xs

feed_all_append : (xs ys : List Bool) (register : ℕ) → feed_all register (xs ++ ys) ≡ feed_all (feed_all register xs) ys
unfolding feed_all
feed_all_append [] ys register = refl
feed_all_append (x ∷ xs) ys register = feed_all_append xs ys (feed_bit register (value x))

by_bits : (n register byte : ℕ) → feed_bits n register byte ≡ feed_all register (bits n byte)
unfolding feed_all bits feed_bits
by_bits zero register byte = refl
by_bits (suc n) register byte =
    by_bits n (feed_bit register (byte % 2)) (byte / 2)
    ∙ ap (λ (x : ℕ). feed_all (feed_bit register x) (bits n (byte / 2))) (sym (value_odd byte))

feed_by_bits : (text : Bytes) (register : ℕ) → feed register text ≡ feed_all register (bits_of text)
unfolding feed feed_all bits_of
feed_by_bits [] register = refl
feed_by_bits (b ∷ bs) register =
    feed_by_bits bs (feed_bits 8 register b)
    ∙ ap (λ (x : ℕ). feed_all x (bits_of bs)) (by_bits 8 register b)
    ∙ sym (feed_all_append (bits 8 b) (bits_of bs) register)

-- bits as one number, the first the lowest
number : List Bool → ℕ
number [] = 0
number (x ∷ xs) = value x + 2 * number xs

value_below : (x : Bool) → value x < 2
value_below true = omega arith
value_below false = omega arith

number_below : (xs : List Bool) → number xs < 2 ^ length xs
unfolding number
number_below [] = omega arith
number_below (x ∷ xs) = rw (pow-suc 2 (length xs)) (omega (arith, number_below xs, value_below x))

odd_number : (x : Bool) (n : ℕ) → odd (value x + 2 * n) ≡ x
unfolding odd
odd_number true n = let e : (1 + 2 * n) % 2 ≡ 1 = omega arith in rw e
odd_number false n = let e : (0 + 2 * n) % 2 ≡ 0 = omega arith in rw e

half_number : (x : Bool) (n : ℕ) → (value x + 2 * n) / 2 ≡ n
half_number x n = omega (arith, value_below x)

bits_number : (xs : List Bool) → bits (length xs) (number xs) ≡ xs
unfolding bits number
bits_number [] = refl
bits_number (x ∷ xs) =
    ap₂ (λ (y : Bool) (ys : List Bool). y ∷ ys) (odd_number x (number xs)) (ap (bits (length xs)) (half_number x (number xs)) ∙ bits_number xs)

at_once_all : (xs : List Bool) (register : ℕ) → feed_all register xs ≡ shifts (length xs) (bit_xor register (number xs))
at_once_all xs register =
    ap (feed_all register) (sym (bits_number xs)) ∙ sym (by_bits (length xs) register (number xs)) ∙ at_once (length xs) register (number xs) (number_below xs)

-- the bits of numbers of so many bits tell them apart
pub bits_same : (n a b : ℕ) → a < 2 ^ n → b < 2 ^ n → bits n a ≡ bits n b → a ≡ b
unfolding bits
bits_same zero a b ha hb e = omega arith
bits_same (suc n) a b ha hb e =
    let ha' : a < 2 ^ n * 2 = rw (pow-suc 2 n) at ha in
    let hb' : b < 2 ^ n * 2 = rw (pow-suc 2 n) at hb in
    let lowest : odd a ≡ odd b = cc in
    let rest : bits n (a / 2) ≡ bits n (b / 2) = cc in
    let high : a / 2 ≡ b / 2 = bits_same n (a / 2) (b / 2) (omega arith) (omega arith) rest in
    let low : a % 2 ≡ b % 2 = sym (value_odd a) ∙ ap (λ (x : Bool). value x) lowest ∙ value_odd b in
    omega arith

pub bits_append : (s t : Bytes) → bits_of (s ++ t) ≡ bits_of s ++ bits_of t
unfolding bits_of
bits_append [] t = refl
bits_append (b ∷ bs) t = ap (λ (xs : List Bool). bits 8 b ++ xs) (bits_append bs t) ∙ sym (append_assoc (bits 8 b) (bits_of bs) (bits_of t))

number_word : (xs : List Bool) → length xs ≤ 32 → Word (number xs)
number_word xs h = omega (arith, number_below xs, pow-le-pow_right {n = 2} (omega arith) h)

-- registers stay inside 32 bits, and stay different while the same bits go in
bit_moved : (register : ℕ) (x : Bool) → feed_bit register (value x) ≡ shift (bit_xor register (value x))
unfolding feed_all number shifts
bit_moved register x = let e : value x + 2 * 0 ≡ value x = omega arith in rw e at (at_once_all (x ∷ []) register)

bit_below : (register : ℕ) (x : Bool) → Word register → Word (feed_bit register (value x))
bit_below register x h = rw (bit_moved register x) (shift_below _ (xor_lt 32 register (value x) h (omega (arith, value_below x))))

feed_all_below : (xs : List Bool) (register : ℕ) → Word register → Word (feed_all register xs)
unfolding feed_all
feed_all_below [] register h = h
feed_all_below (x ∷ xs) register h = feed_all_below xs (feed_bit register (value x)) (bit_below register x h)

feed_all_same : (xs : List Bool) (a b : ℕ) → Word a → Word b → feed_all a xs ≡ feed_all b xs → a ≡ b
unfolding feed_all
feed_all_same [] a b ha hb e = e
feed_all_same (x ∷ xs) a b ha hb e =
    let k = feed_all_same xs (feed_bit a (value x)) (feed_bit b (value x)) (bit_below a x ha) (bit_below b x hb) e in
    let m : shift (bit_xor a (value x)) ≡ shift (bit_xor b (value x)) = sym (bit_moved a x) ∙ k ∙ bit_moved b x in
    let small : Word (value x) = omega (arith, value_below x) in
    xor_cancel a b (value x) (shifts_one (bit_xor a (value x)) (bit_xor b (value x)) (xor_lt 32 a (value x) ha small) (xor_lt 32 b (value x) hb small) m)

-- so many bits go in as one number
run_same : (u v : List Bool) (register : ℕ) → Word register → length u ≡ length v → length u ≤ 32 → feed_all register u ≡ feed_all register v → u ≡ v
run_same u v register h same few e =
    let few' : length v ≤ 32 = omega arith in
    let moved : shifts (length u) (bit_xor register (number u)) ≡ shifts (length u) (bit_xor register (number v)) =
    sym (at_once_all u register) ∙ e ∙ at_once_all v register ∙ ap (λ (n : ℕ). shifts n (bit_xor register (number v))) (sym same) in
    let put : bit_xor register (number u) ≡ bit_xor register (number v) =
    shifts_same (length u) _ _ (xor_lt 32 register (number u) h (number_word u few)) (xor_lt 32 register (number v) h (number_word v few')) moved in
    let n : number u ≡ number v = xor_cancel (number u) (number v) register (xor_comm (number u) register ∙ put ∙ xor_comm register (number v)) in
    sym (bits_number u) ∙ ap₂ (λ (k m : ℕ). bits k m) same n ∙ bits_number v

pub crc_below : (text : Bytes) → crc_of text < 2 ^ 32
unfolding crc_of
crc_below text = xor_lt 32 (feed all_ones text) all_ones (rw (feed_by_bits text all_ones) (feed_all_below (bits_of text) all_ones (omega arith))) (omega arith)

-- the bits of two texts are the same before and behind a run of at most 32
pub record Burst (s t : Bytes) : Type 0 where
  pub before : List Bool
  pub here : List Bool
  pub there : List Bool
  pub after : List Bool
  pub first_is : bits_of s ≡ before ++ (here ++ after)
  pub second_is : bits_of t ≡ before ++ (there ++ after)
  pub same_length : length here ≡ length there
  pub short : length here ≤ 32

-- texts with the same CRC whose bits differ inside such a run alone do not differ there
pub burst : {s t : Bytes} (b : Burst s t) → crc_of s ≡ crc_of t → b.here ≡ b.there
unfolding crc_of
burst {s} {t} b e =
    let start = feed_all all_ones b.before in
    let word : Word start = feed_all_below b.before all_ones (omega arith) in
    let registers : feed all_ones s ≡ feed all_ones t = xor_cancel (feed all_ones s) (feed all_ones t) all_ones e in
    let ends : feed_all (feed_all start b.here) b.after ≡ feed_all (feed_all start b.there) b.after =
    sym (through s b.here b.first_is) ∙ registers ∙ through t b.there b.second_is in
    let one = feed_all_below b.here start word in
    let other = feed_all_below b.there start word in
    let here_same = feed_all_same b.after (feed_all start b.here) (feed_all start b.there) one other ends in
    run_same b.here b.there start word b.same_length b.short here_same
  where
    through : (text : Bytes) (run : List Bool) → bits_of text ≡ b.before ++ (run ++ b.after)
        → feed all_ones text ≡ feed_all (feed_all (feed_all all_ones b.before) run) b.after
    through text run h =
        feed_by_bits text all_ones ∙ ap (feed_all all_ones) h ∙ feed_all_append b.before (run ++ b.after) all_ones
        ∙ feed_all_append run b.after (feed_all all_ones b.before)
