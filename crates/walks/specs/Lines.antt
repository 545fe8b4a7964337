-- No fault is reported exactly when no allocation is missing and every block that the analysis gives a state passes its checks from
-- it.
use Rattle.std.specs.Prelude.{◌≡◌, ◌↔◌}
use Rattle.std.proofs.Math.Path.{refl}
use Rattle.std.proofs.Common.{sym, ◌∙◌, subst, arith}
use mathlib.Core.List.{List, [], ◌∷◌, ◌++◌, nil≢cons, append-eq-nil_iff}
use Rattle.std.proofs.Math.Option.{Option, none, some}
use Prim.Native.Nat.{ℕ, suc, zero, ◌+◌, ◌≤◌, ◌<◌}
use Rattle.std.proofs.Math.Decide.{ℕ_discrete}
use Rattle.paper.specs.Sheet.{Step, Sheet, steps_of, reference_typed}
use Rattle.paper.specs.Steps.{State, Fault, check, effect}
use Rattle.paper.specs.Runs.{analysis}
use Rattle.paper.specs.Report.{inst_of, line_of, faults_from, by_block, first_list, missing_allocations, faults}
use Rattle.paper.specs.Walks.{Passes}
use Rattle.paper.specs.declared.Rule.TheVariants.{House}
use Rattle.walks.specs.Entries.{faults_of, reached_faults, unreached_faults, all_faults}

-- every block that has a state passes from it
abbrev pub BlocksPass : Sheet → Type 0
BlocksPass S = (b : ℕ) → b < S.blocks → (s : State) → (analysis House S).table b ≡ some s → Passes (reference_typed S) (steps_of S b) s

pub first_none : {A : Type 0} (k l : List A) → (first_list k l ≡ []) ↔ ((k ≡ []) × (l ≡ []))
unfolding first_list
first_none [] l = (λ e. (refl, e), λ p. p.1)
first_none (x ∷ k) l = (λ e. absurd (nil≢cons (sym e)), λ p. p.0)

module _ (S : Sheet) where
  lines_pass : (b place : ℕ) (xs : List Step) (s : State) → faults_from House S b place xs s ≡ [] → Passes (reference_typed S) xs s
  unfolding faults_from line_of Passes
  lines_pass b place [] s e = tt
  lines_pass b place (x ∷ xs) s e = go (check x s) refl e (lines_pass b (suc place) xs s')
    where
      s' : State
      s' = effect House (reference_typed S) x s

      go : (o : Option Fault) → check x s ≡ o → line_of b place (inst_of x) o ++ faults_from House S b (suc place) xs s' ≡ []
          → (faults_from House S b (suc place) xs s' ≡ [] → Passes (reference_typed S) xs s') → (check x s ≡ none) × Passes (reference_typed S) xs s'
      go none q f rec = (q, rec f)
      go (some w) q f rec = absurd (nil≢cons (sym f))

  pass_lines : (b place : ℕ) (xs : List Step) (s : State) → Passes (reference_typed S) xs s → faults_from House S b place xs s ≡ []
  unfolding faults_from line_of Passes
  pass_lines b place [] s h = refl
  pass_lines b place (x ∷ xs) s h = rw h.0 (pass_lines b (suc place) xs (effect House (reference_typed S) x s) h.1)

  -- block b passes, where it has a state
  abbrev BlockPasses : ℕ → Type 0
  BlockPasses b = (s : State) → (analysis House S).table b ≡ some s → Passes (reference_typed S) (steps_of S b) s

  block_passes : (b : ℕ) → faults_of House S b ≡ [] → BlockPasses b
  block_passes b e s t = lines_pass b 0 (steps_of S b) s (sym (reached_faults House S b s t) ∙ e)

  passes_block : (b : ℕ) → BlockPasses b → faults_of House S b ≡ []
  passes_block b h = at ((analysis House S).table b) refl
    where
      at : (t : Option State) → (analysis House S).table b ≡ t → faults_of House S b ≡ []
      at none e = unreached_faults House S b e
      at (some s) e = reached_faults House S b s e ∙ pass_lines b 0 (steps_of S b) s (h s e)

  blocks_pass : (n b : ℕ) → by_block (faults_of House S) b n ≡ [] → (c : ℕ) → b ≤ c → c < b + n → BlockPasses c
  unfolding by_block
  blocks_pass zero b e c l u = absurd (omega arith)
  blocks_pass (suc n) b e c l u = go (ℕ_discrete b c) (blocks_pass n (suc b) p.1 c)
    where
      p : (faults_of House S b ≡ []) × (by_block (faults_of House S) (suc b) n ≡ [])
      p = append-eq-nil_iff.0 e

      go : Dec (b ≡ c) → (suc b ≤ c → c < suc b + n → BlockPasses c) → BlockPasses c
      go (yes q) rec = subst BlockPasses q (block_passes b p.0)
      go (no q) rec = rec (omega arith) (omega arith)

  pass_blocks : (n b : ℕ) → ((c : ℕ) → b ≤ c → c < b + n → BlockPasses c) → by_block (faults_of House S) b n ≡ []
  unfolding by_block
  pass_blocks zero b h = refl
  pass_blocks (suc n) b h =
      rw (passes_block b (h b (omega arith) (omega arith))) (pass_blocks n (suc b) (λ c l u. h c (omega arith) (omega arith)))

  pub no_faults : (faults House S ≡ []) ↔ ((missing_allocations S ≡ []) × BlocksPass S)
  no_faults = (
    λ e. let p = (first_none (missing_allocations S) (by_block (faults_of House S) 0 S.blocks)).0 (sym (all_faults House S) ∙ e) in
        (p.0, λ b l. blocks_pass S.blocks 0 p.1 b (omega arith) (omega arith)),
    λ p. all_faults House S ∙ (first_none (missing_allocations S) (by_block (faults_of House S) 0 S.blocks)).1
        (p.0, pass_blocks S.blocks 0 (λ c l u. p.1 c (omega arith))),
  )
