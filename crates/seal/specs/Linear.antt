-- The register's move is linear over exclusive or: so bits of the text can be put in at once, eight moves are those of the low byte beside the
-- rest shifted, and a register of 32 bits that moves to 0 was 0.
use Rattle.std.specs.Prelude.{◌≡◌, refl, ℕ, zero, suc, ◌*◌, ◌/◌, ◌%◌, ◌^◌, ◌<◌}
use Rattle.std.proofs.Common.{sym, ap, ap₂, ◌∙◌, mul-one, div-add-mod', pow-suc, arith}
use Rattle.std.specs.Int.Bits.{bit_xor, differ, xor_zero_r, xor_shifted, shifted_half, shifted_even}
use Rattle.std.proofs.lemmas.Nat.{xor_shr, xor_comm}
use Rattle.lists.specs.Xor.{of_bit, bit_below, xor_half, xor_lowest, xor_swap, xor_interchange}
use Rattle.paper.specs.Seal.{polynomial, feed_bit, feed_bits}
use Rattle.seal.specs.Table.{shift, shifts}

times : (x y : ℕ) → x < 2 → y < 2 → differ x y * polynomial ≡ bit_xor (x * polynomial) (y * polynomial)
times x y hx hy =
    of_bit (λ x. differ x y * polynomial ≡ bit_xor (x * polynomial) (y * polynomial)) refl
    (of_bit (λ y. differ 1 y * polynomial ≡ bit_xor (1 * polynomial) (y * polynomial)) refl refl y hy) x hx

shift_linear : (a b : ℕ) → shift (bit_xor a b) ≡ bit_xor (shift a) (shift b)
unfolding shift
shift_linear a b =
    ap₂ (λ (x y : ℕ). bit_xor x y) (xor_half a b) (ap (λ (x : ℕ). x * polynomial) (xor_lowest a b) ∙ times (a % 2) (b % 2) (bit_below a) (bit_below b))
    ∙ xor_interchange (a / 2) (b / 2) (a % 2 * polynomial) (b % 2 * polynomial)

pub shifts_linear : (n a b : ℕ) → shifts n (bit_xor a b) ≡ bit_xor (shifts n a) (shifts n b)
unfolding shifts
shifts_linear zero a b = refl
shifts_linear (suc n) a b = ap (shifts n) (shift_linear a b) ∙ shifts_linear n (shift a) (shift b)

-- zeros fall out: nothing is put in
shifts_down : (n h : ℕ) → shifts n (h * 2 ^ n) ≡ h
unfolding shifts shift
shifts_down zero h = mul-one h
shifts_down (suc n) h =
    ap (shifts n) (ap₂ (λ (x y : ℕ). bit_xor x (y * polynomial)) (shifted_half h n) (shifted_even h n) ∙ xor_zero_r (h * 2 ^ n)) ∙ shifts_down n h

-- eight moves, by the low byte and the rest
shifts_byte : (x : ℕ) → shifts 8 x ≡ bit_xor (shifts 8 (x % 256)) (x / 256)
shifts_byte x =
    ap (shifts 8) (sym (div-add-mod' x 256) ∙ sym (xor_shifted (x / 256) 8 (x % 256) (omega arith)))
    ∙ shifts_linear 8 (x / 256 * 2 ^ 8) (x % 256)
    ∙ ap (λ (h : ℕ). bit_xor h (shifts 8 (x % 256))) (shifts_down 8 (x / 256))
    ∙ xor_comm (x / 256) (shifts 8 (x % 256))

half_below : (n b : ℕ) → b < 2 ^ suc n → b / 2 < 2 ^ n
half_below n b h = let k : b < 2 ^ n * 2 = rw (pow-suc 2 n) at h in omega arith

-- bits that go in one by one, and the same bits put in at once
pub at_once : (n register b : ℕ) → b < 2 ^ n → feed_bits n register b ≡ shifts n (bit_xor register b)
unfolding feed_bits feed_bit shifts shift
at_once zero register b h = let e : b ≡ 0 = omega arith in rw e (sym (xor_zero_r register))
at_once (suc n) register b h =
    at_once n (feed_bit register (b % 2)) (b / 2) (half_below n b h)
    ∙ ap (shifts n)
    (xor_swap (register / 2) (differ (register % 2) (b % 2) * polynomial) (b / 2)
    ∙ sym (ap₂ (λ (x y : ℕ). bit_xor x (y * polynomial)) (xor_half register b) (xor_lowest register b)))

-- the table's way, for a byte
pub by_byte : (register b : ℕ) → b < 256 → feed_bits 8 register b ≡ bit_xor (shifts 8 (bit_xor register b % 256)) (register / 256)
by_byte register b h =
    at_once 8 register b h ∙ shifts_byte (bit_xor register b) ∙ ap (λ (k : ℕ). bit_xor (shifts 8 (bit_xor register b % 256)) k) rest
  where
    none_high : b / 256 ≡ 0
    none_high = omega arith

    rest : bit_xor register b / 256 ≡ register / 256
    rest = xor_shr register b 8 ∙ ap (λ (k : ℕ). bit_xor (register / 256) k) none_high ∙ xor_zero_r (register / 256)
