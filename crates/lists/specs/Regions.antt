-- A region taken apart from its front, and what holds of each of its elements.
use Rattle.std.specs.Prelude.{◌≡◌, refl, List, [], ◌∷◌, ℕ, zero, suc, ◌+◌, ◌-◌, ◌≤◌, ◌<◌, length, get_or}
use Rattle.std.proofs.Common.{add-zero, add-one, arith, drop-cons}
use Rattle.lists.specs.Region.{region}

pub region_none : (at : ℕ) (l : List ℕ) → region at 0 l ≡ []
unfolding region
region_none at l = refl

pub region_cons : (at n : ℕ) (l : List ℕ) → 0 < n → at < length l → region at n l ≡ get_or l at 0 ∷ region (at + 1) (n - 1) l
unfolding region
region_cons at zero l p h = absurd (omega arith)
region_cons at (suc n) l p h = let e : suc n - 1 ≡ n = omega arith in rw (drop-cons l at 0 h, e, add-one)

-- P of each element
unfoldable pub All : (ℕ → Type 0) → List ℕ → Type 0
All P [] = Unit {0}
All P (x ∷ xs) = P x × All P xs

pub all_region : (P : ℕ → Type 0) (at n : ℕ) (l : List ℕ) → at + n ≤ length l → ((i : ℕ) → i < n → P (get_or l (at + i) 0)) → All P (region at n l)
unfolding All
all_region P at zero l h p = rw region_none tt
all_region P at (suc n) l h p =
    let e : suc n - 1 ≡ n = omega arith in
    rw (region_cons at (suc n) l (omega arith) (omega arith), e)
    (rw add-zero at (p 0 (omega arith)), all_region P (at + 1) n l (omega arith) λ i hi. rw (next at i) at (p (suc i) (omega arith)))
  where
    next : (at i : ℕ) → at + suc i ≡ at + 1 + i
    next at i = omega arith

-- P of the elements from `at` on, at one of their places
pub at_place : (P : ℕ → Type 0) (at n : ℕ) (l : List ℕ) (place : ℕ) → ((i : ℕ) → i < n → P (get_or l (at + i) 0)) → at ≤ place → place < at + n → P (get_or l place 0)
at_place P at n l place p low high = let e : at + (place - at) ≡ place = omega arith in rw e at (p (place - at) (omega arith))

-- what holds of each element of a region holds at each of its places
pub all_at : (P : ℕ → Type 0) (n at : ℕ) (l : List ℕ) → at + n ≤ length l → All P (region at n l) → (i : ℕ) → i < n → P (get_or l (at + i) 0)
unfolding All
all_at P zero at l h a i hi = absurd (omega arith)
all_at P (suc n) at l h a i hi =
    let e : suc n - 1 ≡ n = omega arith in
    let b : P (get_or l at 0) × All P (region (at + 1) n l) = rw (region_cons at (suc n) l (omega arith) (omega arith), e) at a in
    go i hi b.0 (λ k hk. all_at P n (at + 1) l (omega arith) b.1 k hk)
  where
    go : (i : ℕ) → i < suc n → P (get_or l at 0) → ((k : ℕ) → k < n → P (get_or l (at + 1 + k) 0)) → P (get_or l (at + i) 0)
    go zero hi p q = rw add-zero p
    go (suc i) hi p q = let next : at + suc i ≡ at + 1 + i = omega arith in rw next (q i (omega arith))
