-- A fact shown by cases: of a test, of two numbers' order, of their being equal; and what it tells that both of two tests hold, or
-- that neither does.
use Rattle.std.specs.Prelude.{◌≡◌, refl, Bool, true, false, ◌&&◌, ◌||◌, ℕ, ◌≤◌, ◌<◌}
use Rattle.std.proofs.Common.{sym, true≢false, arith}
use Rattle.std.proofs.Math.Decide.{dec_lt}

module _ {P : Type 0} where
  pub by_test : (x : Bool) → (x ≡ true → P) → (x ≡ false → P) → P
  by_test true t f = t refl
  by_test false t f = f refl

  pub by_order : (a b : ℕ) → (a < b → P) → (b ≤ a → P) → P
  by_order a b f g = go (dec_lt a b)
    where
      go : Dec (a < b) → P
      go (yes p) = f p
      go (no q) = g (omega (arith, q))

  pub by_equal : (a b : ℕ) → (a ≡ b → P) → ((a ≡ b → ⊥) → P) → P
  by_equal a b f g = by_order a b (λ p. g λ e. omega arith) λ p. by_order b a (λ q. g λ e. omega arith) λ q. f (omega arith)

pub and_left : (x y : Bool) → (x && y) ≡ true → x ≡ true
and_left true y e = refl
and_left false y e = e

pub and_right : (x y : Bool) → (x && y) ≡ true → y ≡ true
and_right true y e = e
and_right false y e = absurd (true≢false (sym e))

pub or_left : (x y : Bool) → (x || y) ≡ false → x ≡ false
or_left true y e = e
or_left false y e = refl

pub or_right : (x y : Bool) → (x || y) ≡ false → y ≡ false
or_right true y e = absurd (true≢false e)
or_right false y e = e
