-- Places of the ring, and what a push and a take do to what it holds.
use mathlib.Core.Path.{◌≡◌, refl, ap, ◌∙◌}
use mathlib.Core.List.{List, [], ◌∷◌, ◌++◌}
use Prim.Native.Nat.{ℕ, zero, suc, ◌+◌, ◌-◌, ◌≤◌, ◌<◌}
use native.Mathlib.Numerals.{add-one}
use native.Mathlib.Omega.{arith}
use borrow.Author.Tests.{lt-ltb, le-ltb}
use lib.ListN.{length, get_or, set, length-append}
use lib.Seq.{get_or-set_same, get_or-set_other}
use Rattle.lists.specs.Split.{by_order}
use Rattle.paper.specs.Limits.{queue_size}
use Rattle.runs.specs.Queue.{place, held_from, Sound}

pub near : (h n : ℕ) → h + n < queue_size → place h n ≡ h + n
unfolding place
near h n l = rw (lt-ltb _ _ l)

pub round : (h n : ℕ) → queue_size ≤ h + n → place h n ≡ h + n - queue_size
unfolding place
round h n l = rw (le-ltb _ _ l)

-- either way, for what follows by arithmetic
by_place : {Q : Type 0} (h n : ℕ) → (h + n < queue_size → place h n ≡ h + n → Q) → (queue_size ≤ h + n → place h n ≡ h + n - queue_size → Q) → Q
by_place h n f g = by_order (h + n) queue_size (λ l. f l (near h n l)) (λ l. g l (round h n l))

pub place_inside : (h n : ℕ) → h < queue_size → n ≤ queue_size → place h n < queue_size
place_inside h n hh hn = by_place h n (λ l e. omega arith) (λ l e. omega arith)

place_apart : (h k n : ℕ) → h < queue_size → k < n → n < queue_size → place h k ≡ place h n → ⊥
place_apart h k n hh hk hn same =
    by_place h k
    (λ l e. by_place h n (λ m f. omega arith) (λ m f. omega arith))
    (λ l e. by_place h n (λ m f. omega arith) (λ m f. omega arith))

place_next : (h n : ℕ) → h < queue_size → suc n < queue_size → place h (suc n) ≡ place (place h 1) n
place_next h n hh hn =
    by_place h 1
    (λ l e. by_place h (suc n)
    (λ m f. f ∙ rw e (omega (arith, near (h + 1) n (omega arith))))
    (λ m f. f ∙ rw e (omega (arith, round (h + 1) n (omega arith)))))
    (λ l e. let z : h + 1 - queue_size ≡ 0 = omega arith in
    round h (suc n) (omega arith) ∙ rw (e, z) (omega (arith, near 0 n (omega arith))))

-- a byte written behind what is held changes none of it
held_apart : (q : List ℕ) (h n m b : ℕ) → h < queue_size → n ≤ m → m < queue_size → held_from (set q (place h m) b) h n ≡ held_from q h n
unfolding held_from
held_apart q h zero m b hh hn hm = refl
held_apart q h (suc n) m b hh hn hm =
    rw (held_apart q h n m b hh (omega arith) hm, get_or-set_other q (place h m) (place h n) b 0 (place_apart h n m hh hn hm))

held_more : (q : List ℕ) (h m b : ℕ) → queue_size ≤ length q → h < queue_size → m < queue_size → held_from (set q (place h m) b) h (m + 1) ≡ held_from q h m ++ (b ∷ [])
unfolding held_from
held_more q h m b hq hh hm =
    rw (add-one, held_apart q h m m b hh (omega arith) hm, get_or-set_same q (place h m) b 0 (omega (arith, place_inside h m hh (omega arith))))

held_first : (q : List ℕ) (h n : ℕ) → h < queue_size → n < queue_size → held_from q h (suc n) ≡ get_or q h 0 ∷ held_from q (place h 1) n
unfolding held_from
held_first q h zero hh hn = let e : place h 0 ≡ h = near h 0 (omega arith) ∙ omega arith in rw e
held_first q h (suc n) hh hn =
    rw (place_next h n hh hn) (ap (λ (l : List ℕ). l ++ (get_or q (place (place h 1) n) 0 ∷ [])) (held_first q h n hh (omega arith)))

pub length_held : (q : List ℕ) (h n : ℕ) → length (held_from q h n) ≡ n
unfolding held_from
length_held q h zero = refl
length_held q h (suc n) = rw (length-append, length_held q h n) (omega arith)

pub none_held : (q : List ℕ) (h : ℕ) → held_from q h 0 ≡ []
unfolding held_from
none_held q h = refl

-- one more at the end
pub held_pushed : (q : List ℕ) (h m b t : ℕ) → Sound q h m → m < queue_size → t ≡ place h m → held_from (set q t b) h (m + 1) ≡ held_from q h m ++ (b ∷ [])
held_pushed q h m b t s l e = rw e (held_more q h m b s.0 s.1 l)

-- the one that waits longest is gone
pub held_taken : (q : List ℕ) (h m t : ℕ) → Sound q h m → 0 < m → t ≡ place h 1 → held_from q h m ≡ get_or q h 0 ∷ held_from q t (m - 1)
held_taken q h m t s p e =
    let n : m ≡ suc (m - 1) = omega arith in
    ap (held_from q h) n ∙ rw e (held_first q h (m - 1) s.1 (omega arith))
