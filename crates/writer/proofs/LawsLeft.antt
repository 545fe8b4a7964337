-- A loop that writes: whoever writes what is left behind what stands has written the whole. It holds at the start, with each part that is
-- written there is less left, and where nothing is left the whole stands.
use mathlib.Core.Path.{◌≡◌, refl}
use mathlib.Core.List.{List, [], ◌++◌}
use Prim.Native.Nat.{ℕ, ◌<◌}
use native.Mathlib.Omega.{arith}
use Rattle.lists.specs.Sets.{Wrote, then}
use Rattle.paper.specs.Limits.{max_sheet}
use Rattle.writer.specs.Filled.{Filled, whole, beyond, filled_then}

pub wrote_nothing : (l : List ℕ) (i : ℕ) → Wrote l i [] l i
wrote_nothing l i = record { list = refl; next = omega arith }

pub record Finishes (l₀ : List ℕ) (i₀ : ℕ) (all : List ℕ) (l : List ℕ) (i : ℕ) (left : List ℕ) : Type 0 where
  pub finish : (l₂ : List ℕ) (k : ℕ) → Wrote l i left l₂ k → Wrote l₀ i₀ all l₂ k

pub all_left : (l : List ℕ) (i : ℕ) (all left : List ℕ) → left ≡ all → Finishes l i all l i left
all_left l i all left e = record { finish = λ l₂ k w. rw (← e) w }

module _ {l₀ l : List ℕ} {i₀ i : ℕ} {all : List ℕ} where
  pub less_left : {xs l₁ : List ℕ} {j : ℕ} (left rest : List ℕ) → Finishes l₀ i₀ all l i left → left ≡ xs ++ rest → Wrote l i xs l₁ j
      → Finishes l₀ i₀ all l₁ j rest
  less_left left rest f e w = record { finish = λ l₂ k v. f.finish l₂ k (rw e (then w v)) }

  pub same_left : (left rest : List ℕ) → Finishes l₀ i₀ all l i left → left ≡ rest → Finishes l₀ i₀ all l i rest
  same_left left rest f e = rw (← e) f

  pub none_left : (left : List ℕ) → Finishes l₀ i₀ all l i left → left ≡ [] → Wrote l₀ i₀ all l i
  none_left left f e = f.finish l i (rw e (wrote_nothing l i))

-- the same, as far as a sheet's size goes

pub record Fills (l₀ : List ℕ) (i₀ : ℕ) (all : List ℕ) (l : List ℕ) (i : ℕ) (left : List ℕ) : Type 0 where
  pub fill : (l₂ : List ℕ) (k : ℕ) → Filled l i left l₂ k → Filled l₀ i₀ all l₂ k

pub all_unfilled : (l : List ℕ) (i : ℕ) (all left : List ℕ) → left ≡ all → Fills l i all l i left
all_unfilled l i all left e = record { fill = λ l₂ k w. rw (← e) w }

-- what is not written behind every sheet's end
pub unwritten : (l : List ℕ) (i : ℕ) (xs : List ℕ) → max_sheet < i → Filled l i xs l i
unwritten l i xs h = beyond refl h (omega arith)

module _ {l₀ l : List ℕ} {i₀ i : ℕ} {all : List ℕ} where
  pub less_unfilled : {xs l₁ : List ℕ} {j : ℕ} (left rest : List ℕ) → Fills l₀ i₀ all l i left → left ≡ xs ++ rest → Filled l i xs l₁ j
      → Fills l₀ i₀ all l₁ j rest
  less_unfilled left rest f e w = record { fill = λ l₂ k v. f.fill l₂ k (rw e (filled_then w v)) }

  pub none_unfilled : (left : List ℕ) → Fills l₀ i₀ all l i left → left ≡ [] → Filled l₀ i₀ all l i
  none_unfilled left f e = f.fill l i (rw e (whole (wrote_nothing l i)))
