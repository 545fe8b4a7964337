-- A bit above all set bits of a number comes last among them.
use Rattle.std.specs.Prelude.{◌≡◌, [], ◌∷◌, ◌++◌, ℕ, zero, suc, ◌+◌, ◌*◌, ◌/◌, ◌%◌, ◌^◌, ◌<◌, eqb}
use Rattle.std.proofs.Common.{pow-suc, arith}
use Rattle.lists.specs.Bits.{bits_from, set_bits, bits_none}
use Rattle.lists.specs.Split.{by_test}

bits_more : (k i m v : ℕ) → v < k → m < 2 ^ v → bits_from k i (m + 2 ^ v) ≡ bits_from k i m ++ ((i + v) ∷ [])
unfolding bits_from
bits_more zero i m v h p = absurd (omega arith)
bits_more (suc k) i m zero h p =
    let z : m ≡ 0 = omega arith in
    let n : i + 0 ≡ i = omega arith in
    rw (z, n, bits_none k (i + 1))
bits_more (suc k) i m (suc v) h p =
    let q = rw pow-suc at p in
    let half : (m + 2 ^ v * 2) / 2 ≡ m / 2 + 2 ^ v = omega arith in
    let last : (m + 2 ^ v * 2) % 2 ≡ m % 2 = omega arith in
    let shift : i + 1 + v ≡ i + suc v = omega arith in
    rw (pow-suc, half, last, bits_more k (i + 1) (m / 2) v (omega arith) (omega arith), shift)
    (by_test (eqb (m % 2) 1) (λ e. rw e) λ e. rw e)

-- a bit that stands above all set ones comes last
pub set_bits_more : (m v : ℕ) → v < 32 → m < 2 ^ v → set_bits (m + 2 ^ v) ≡ set_bits m ++ (v ∷ [])
unfolding set_bits
set_bits_more m v h p = let z : 0 + v ≡ v = omega arith in rw z at (bits_more 32 0 m v h p)
