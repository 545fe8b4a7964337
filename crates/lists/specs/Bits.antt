-- The set bits of a number, lowest first, and how `count_trailing_zeros` takes them off one by one.
use Rattle.std.specs.Prelude.{◌≡◌, refl, Bool, true, false, cond, List, [], ◌∷◌, ℕ, zero, suc, ◌+◌, ◌-◌, ◌*◌, ◌/◌, ◌%◌, ◌^◌, ◌≤◌, ◌<◌, eqb}
use Rattle.std.proofs.Common.{◌∙◌, pow-suc, zero-add, arith}
use Rattle.std.specs.Int.Count.{count_trailing_zeros}
use Rattle.std.specs.Int.Bits.{bit_and, and_step, and_self}
use Rattle.lists.specs.Regions.{All}

-- of the k lowest bits of m, the places of those that are set, where bit 0 stands at i
unfoldable pub bits_from : ℕ → ℕ → ℕ → List ℕ
bits_from zero i m = []
bits_from (suc k) i m = let rest = bits_from k (i + 1) (m / 2) in cond (eqb (m % 2) 1) (i ∷ rest) rest

-- the set bits of a 32-bit mask
unfoldable pub set_bits : ℕ → List ℕ
set_bits m = bits_from 32 0 m

-- the two cases of a number's last digit
last_bit : {Q : Type 0} (n : ℕ) → (n % 2 ≡ 0 → Q) → (n % 2 ≡ 1 → Q) → Q
last_bit {Q} n f g = go (n % 2) refl
  where
    go : (r : ℕ) → n % 2 ≡ r → Q
    go zero e = f e
    go (suc r) e = g (omega arith)

even : (k n : ℕ) → n % 2 ≡ 0 → count_trailing_zeros (suc k) n ≡ suc (count_trailing_zeros k (n / 2))
unfolding count_trailing_zeros
even k n e = rw e

odd : (k n : ℕ) → n % 2 ≡ 1 → count_trailing_zeros (suc k) n ≡ 0
unfolding count_trailing_zeros
odd k n e = rw e

none : (n j : ℕ) → count_trailing_zeros zero n < suc j
unfolding count_trailing_zeros
none n j = omega arith

-- the lowest set bit of a number below 2 ^ j stands below j
pub trailing_below : (k j n : ℕ) → 0 < n → n < 2 ^ j → count_trailing_zeros k n < j
trailing_below k zero n p h = absurd (omega arith)
trailing_below zero (suc j) n p h = none n j
trailing_below (suc k) (suc j) n p h =
    last_bit n
    (λ e. rw (even k n e) (let r = trailing_below k j (n / 2) (omega arith) (omega (arith, rw pow-suc at h)) in omega arith))
    λ e. rw (odd k n e) (omega arith)

bits_even : (k i n : ℕ) → n % 2 ≡ 0 → bits_from (suc k) i n ≡ bits_from k (i + 1) (n / 2)
unfolding bits_from
bits_even k i n e = rw e

bits_odd : (k i n : ℕ) → n % 2 ≡ 1 → bits_from (suc k) i n ≡ i ∷ bits_from k (i + 1) (n / 2)
unfolding bits_from
bits_odd k i n e = rw e

-- the lowest bit comes first, and the others are those of the number without it
pub lowest : (k i n : ℕ) → 0 < n → n < 2 ^ k → bits_from k i n ≡ (i + count_trailing_zeros k n) ∷ bits_from k i (n - 2 ^ count_trailing_zeros k n)
lowest zero i n p h = absurd (omega arith)
lowest (suc k) i n p h =
    last_bit n
    (λ e.
    let t = count_trailing_zeros k (n / 2) in
    let half : (n - 2 ^ t * 2) / 2 ≡ n / 2 - 2 ^ t = omega arith in
    let shift : i + 1 + t ≡ i + suc t = omega arith in
    rw (even k n e, pow-suc, bits_even k i n e, bits_even k i (n - 2 ^ t * 2) (omega arith), half, ← shift)
    (lowest k (i + 1) (n / 2) (omega arith) (omega (arith, rw pow-suc at h))))
    λ e.
    let half : (n - 1) / 2 ≡ n / 2 = omega arith in
    let none : i + 0 ≡ i = omega arith in
    rw (odd k n e, bits_odd k i n e, bits_even k i (n - 1) (omega arith), half, none)

-- the bits of a number stand where its first bit stands or above
pub bits_above : (k i m j : ℕ) → j < i → All (λ n. j < n) (bits_from k i m)
unfolding bits_from All
bits_above zero i m j h = tt
bits_above (suc k) i m j h = go (eqb (m % 2) 1) (bits_from k (i + 1) (m / 2)) (bits_above k (i + 1) (m / 2) j (omega arith))
  where
    go : (b : Bool) (rest : List ℕ) → All (λ n. j < n) rest → All (λ n. j < n) (cond b (i ∷ rest) rest)
    go true rest a = (h, a)
    go false rest a = a

-- and all but the lowest above that
pub above_lowest : (k i n j : ℕ) → 0 < n → n < 2 ^ k → j ≤ i + count_trailing_zeros k n → All (λ b. j < b) (bits_from k i (n - 2 ^ count_trailing_zeros k n))
above_lowest zero i n j p h q = absurd (omega arith)
above_lowest (suc k) i n j p h q =
    last_bit n
    (λ e.
    let t = count_trailing_zeros k (n / 2) in
    let half : (n - 2 ^ t * 2) / 2 ≡ n / 2 - 2 ^ t = omega arith in
    let q' : j ≤ i + suc t = rw (even k n e) at q in
    rw (even k n e, pow-suc, bits_even k i (n - 2 ^ t * 2) (omega arith), half)
    (above_lowest k (i + 1) (n / 2) j (omega arith) (omega (arith, rw pow-suc at h)) (omega arith)))
    λ e.
    let q' : j ≤ i + 0 = rw (odd k n e) at q in
    rw (odd k n e, bits_even k i (n - 1) (omega arith)) (bits_above k (i + 1) ((n - 1) / 2) j (omega arith))

-- `n & (n - 1)` takes the lowest set bit off
pub cleared : (k n : ℕ) → 0 < n → n < 2 ^ k → bit_and n (n - 1) ≡ n - 2 ^ count_trailing_zeros k n
cleared zero n p h = absurd (omega arith)
cleared (suc k) n p h =
    last_bit n
    (λ e.
    let half : (n - 1) / 2 ≡ n / 2 - 1 = omega arith in
    and_step n (n - 1)
    ∙ rw (even k n e, pow-suc, half, cleared k (n / 2) (omega arith) (omega (arith, rw pow-suc at h))) (omega arith))
    λ e.
    let half : (n - 1) / 2 ≡ n / 2 = omega arith in
    and_step n (n - 1) ∙ rw (odd k n e, half, and_self (n / 2)) (omega arith)

-- zero has no set bit
pub bits_none : (k i : ℕ) → bits_from k i 0 ≡ []
unfolding bits_from
bits_none zero i = refl
bits_none (suc k) i = bits_none k (i + 1)

pub no_bits : set_bits 0 ≡ []
unfolding set_bits
no_bits = bits_none 32 0

-- each set bit of a number below 2 ^ j stands below j
bits_below : (k i m j : ℕ) → m < 2 ^ j → All (λ n. n < i + j) (bits_from k i m)
unfolding bits_from All
bits_below zero i m j h = tt
bits_below (suc k) i m zero h =
    let z : m ≡ 0 = omega arith in
    rw (z, bits_none (suc k) i) tt
bits_below (suc k) i m (suc j) h =
    let place : i + 1 + j ≡ i + suc j = omega arith in
    go (eqb (m % 2) 1) (bits_from k (i + 1) (m / 2)) (rw place at (bits_below k (i + 1) (m / 2) j (omega (arith, rw pow-suc at h))))
  where
    go : (b : Bool) (rest : List ℕ) → All (λ n. n < i + suc j) rest → All (λ n. n < i + suc j) (cond b (i ∷ rest) rest)
    go true rest a = (omega arith, a)
    go false rest a = a

pub set_bits_below : (m j : ℕ) → m < 2 ^ j → All (λ n. n < j) (set_bits m)
unfolding set_bits
set_bits_below m j h = rw zero-add at (bits_below 32 0 m j h)
