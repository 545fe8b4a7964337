-- Exclusive or as the kit's `bit_xor` has it: it can be regrouped, and what was put in comes out again.
use Rattle.std.specs.Prelude.{◌≡◌, refl, ℕ, zero, suc, ◌+◌, ◌*◌, ◌/◌, ◌%◌, ◌<◌}
use Rattle.std.proofs.Common.{sym, ap, ap₂, ◌∙◌, arith}
use Rattle.std.proofs.Math.Arith.{bin_ind}
use Rattle.std.specs.Int.Bits.{bit_xor, differ, xor_step, xor_zero_r, xor_self}
use Rattle.std.proofs.lemmas.Nat.{xor_shr, xor_mod, xor_comm}

-- what holds of 0 and of 1 holds of a bit
pub of_bit : (P : ℕ → Type 0) → P 0 → P 1 → (n : ℕ) → n < 2 → P n
of_bit P a b zero h = a
of_bit P a b (suc zero) h = b
of_bit P a b (suc (suc n)) h = absurd (omega arith)

pub bit_below : (n : ℕ) → n % 2 < 2
bit_below n = omega arith

-- all bits but the lowest, and the lowest
pub xor_half : (a b : ℕ) → bit_xor a b / 2 ≡ bit_xor (a / 2) (b / 2)
xor_half a b = xor_shr a b 1

pub xor_lowest : (a b : ℕ) → bit_xor a b % 2 ≡ differ (a % 2) (b % 2)
xor_lowest a b = xor_mod a b 1 ∙ bits (a % 2) (b % 2) (bit_below a) (bit_below b)
  where
    bits : (x y : ℕ) → x < 2 → y < 2 → bit_xor x y ≡ differ x y
    bits x y hx hy = of_bit (λ x. bit_xor x y ≡ differ x y) refl (of_bit (λ y. bit_xor 1 y ≡ differ 1 y) refl refl y hy) x hx

differ_assoc : (x y z : ℕ) → x < 2 → y < 2 → z < 2 → differ (differ x y) z ≡ differ x (differ y z)
differ_assoc x y z hx hy hz =
    of_bit (λ x. differ (differ x y) z ≡ differ x (differ y z)) refl
    (of_bit (λ y. differ (differ 1 y) z ≡ differ 1 (differ y z)) refl (of_bit (λ z. differ (differ 1 1) z ≡ differ 1 (differ 1 z)) refl refl z hz) y hy) x hx

pub xor_assoc : (a b c : ℕ) → bit_xor (bit_xor a b) c ≡ bit_xor a (bit_xor b c)
xor_assoc = bin_ind (λ (n : ℕ). (b c : ℕ) → bit_xor (bit_xor n b) c ≡ bit_xor n (bit_xor b c)) (λ b c. refl) (λ n ih b c.
    xor_step (bit_xor n b) c
    ∙ ap₂ (λ (x y : ℕ). x * 2 + y)
    (ap (λ (x : ℕ). bit_xor x (c / 2)) (xor_half n b) ∙ ih (b / 2) (c / 2) ∙ ap (λ (x : ℕ). bit_xor (n / 2) x) (sym (xor_half b c)))
    (ap (λ (x : ℕ). differ x (c % 2)) (xor_lowest n b) ∙ differ_assoc (n % 2) (b % 2) (c % 2) (bit_below n) (bit_below b) (bit_below c)
    ∙ ap (λ (x : ℕ). differ (n % 2) x) (sym (xor_lowest b c)))
    ∙ sym (xor_step n (bit_xor b c)))

-- the second and the third change places; so do the second and the third of four
pub xor_swap : (a b c : ℕ) → bit_xor (bit_xor a b) c ≡ bit_xor (bit_xor a c) b
xor_swap a b c = xor_assoc a b c ∙ ap (λ (x : ℕ). bit_xor a x) (xor_comm b c) ∙ sym (xor_assoc a c b)

pub xor_interchange : (a b c d : ℕ) → bit_xor (bit_xor a b) (bit_xor c d) ≡ bit_xor (bit_xor a c) (bit_xor b d)
xor_interchange a b c d = sym (xor_assoc (bit_xor a b) c d) ∙ ap (λ (x : ℕ). bit_xor x d) (xor_swap a b c) ∙ xor_assoc (bit_xor a c) b d

-- twice the same is nothing
pub xor_twice : (a b : ℕ) → bit_xor (bit_xor a b) b ≡ a
xor_twice a b = xor_assoc a b b ∙ ap (λ (x : ℕ). bit_xor a x) (xor_self b) ∙ xor_zero_r a

pub xor_cancel : (a b c : ℕ) → bit_xor a c ≡ bit_xor b c → a ≡ b
xor_cancel a b c e = sym (xor_twice a c) ∙ ap (λ (x : ℕ). bit_xor x c) e ∙ xor_twice b c

-- numbers that do not differ are the same
pub xor_zero : (a b : ℕ) → bit_xor a b ≡ 0 → a ≡ b
xor_zero a b e = xor_cancel a b b (e ∙ sym (xor_self b))
