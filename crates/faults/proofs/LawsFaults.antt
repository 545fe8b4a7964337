-- The faults found so far, when one step more is checked, and how many steps there are.
use mathlib.Core.Path.{◌≡◌, refl, ap}
use mathlib.Core.Bool.{Bool}
use mathlib.Core.List.{List, [], ◌∷◌, ◌++◌, append-nil, append_assoc}
use Prim.Native.Nat.{ℕ, zero, suc, ◌+◌, ◌≤◌}
use native.Mathlib.Nat.{add-zero}
use native.Mathlib.Omega.{arith}
use lib.ListN.{length}
use Rattle.paper.specs.Text.{Name}
use Rattle.paper.specs.Sheet.{Step, Sheet, reference_typed}
use Rattle.paper.specs.Steps.{State, check, effect, effects}
use Rattle.paper.specs.Refusals.{step_count}
use Rattle.paper.specs.Report.{inst_of, line_of, faults_from}
use Rattle.paper.specs.declared.Rule.{Rule}
use Rattle.loaded.specs.Same.{length_steps}
use Rattle.loaded.specs.Loaded.{first_step, step_total, block_at, blocks_at}

-- a step more

module _ (rule : Rule) (ref : Name → Bool) (x : Step) where
  pub effects_more : (xs : List Step) (s : State) → effects rule ref (xs ++ (x ∷ [])) s ≡ effect rule ref x (effects rule ref xs s)
  unfolding effects
  effects_more [] s = refl
  effects_more (y ∷ xs) s = effects_more xs (effect rule ref y s)

module _ (rule : Rule) (S : Sheet) (b : ℕ) (x : Step) where
  pub faults_more : (place : ℕ) (xs : List Step) (s : State)
      → faults_from rule S b place (xs ++ (x ∷ [])) s
      ≡ faults_from rule S b place xs s ++ line_of b (place + length xs) (inst_of x) (check x (effects rule (reference_typed S) xs s))
  unfolding faults_from effects
  faults_more place [] s = rw (add-zero, append-nil)
  faults_more place (y ∷ xs) s =
      let e : suc place + length xs ≡ place + suc (length xs) = omega arith in
      rw append_assoc (ap (λ t. line_of b place (inst_of y) (check y s) ++ t) (rw e at (faults_more (suc place) xs (effect rule (reference_typed S) y s))))

-- how many steps

one_block : (words : List ℕ) (b : ℕ) → length (block_at words b).steps ≡ step_total words b
unfolding block_at
one_block words b = length_steps words (first_step words b) (step_total words b)

-- the steps of the n blocks from b on
abbrev pub count_from : List ℕ → ℕ → ℕ → ℕ
count_from words b n = step_count (blocks_at words b n)

pub count_more : (words : List ℕ) (b n : ℕ) → count_from words b (suc n) ≡ count_from words b n + step_total words (b + n)
unfolding step_count blocks_at
count_more words b zero = let e : b + 0 ≡ b = omega arith in rw (e, one_block) (omega arith)
count_more words b (suc n) =
    let e : b + 1 + n ≡ b + suc n = omega arith in
    omega (arith, rw e at (count_more words (b + 1) n))

-- no more before a block's end than in all
pub count_below : (words : List ℕ) (b k n : ℕ) → k ≤ n → count_from words b k ≤ count_from words b n
unfolding step_count blocks_at
count_below words b zero n h = omega arith
count_below words b (suc k) zero h = absurd (omega arith)
count_below words b (suc k) (suc n) h = omega (arith, count_below words (b + 1) k n (omega arith))
