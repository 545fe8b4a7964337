-- The number of visits that a run makes before its queue is empty: there is one, it is the only one, and it stays within the bound.
use Rattle.std.specs.Prelude.{◌≡◌, refl, ◌⊎◌}
use Rattle.std.proofs.Common.{sym, ◌∙◌}
use Rattle.std.proofs.Math.Path.{ap}
use Rattle.std.proofs.Math.Logic.{inl, inr, ⊎_elim}
use mathlib.Core.List.{List, [], ◌∷◌, nil≢cons}
use Prim.Native.Nat.{ℕ, suc, zero, ◌≤◌, ◌<◌}
use native.Mathlib.Omega.{arith}
use Rattle.lists.specs.Split.{by_order}
use Rattle.paper.specs.Sheet.{Sheet}
use Rattle.paper.specs.Runs.{flow, begin, run, visit_bound, analysis, EndsAfter}
use Rattle.paper.specs.declared.Rule.{Rule}
use Rattle.walks.specs.Bounds.{Closed}
use Rattle.walks.proofs.Loop.{analysis_ends}

module _ (rule : Rule) (S : Sheet) where
  -- the blocks that wait after k visits
  waiting : ℕ → List ℕ
  waiting k = (run (flow rule S) k (begin rule S)).queue

  -- none of the first n numbers of visits ends the run, or one of them does
  Search : ℕ → Type 0
  Search n = ((k : ℕ) × EndsAfter rule S k) ⊎ ((k : ℕ) → k < n → ¬ (waiting k ≡ []))

  search : (n : ℕ) → Search n
  unfolding Search waiting
  search zero = inr (λ k h e. absurd (omega arith))
  search (suc n) = ⊎_elim inl (λ before. at before (waiting n) refl) (search n)
    where
      at : ((k : ℕ) → k < n → ¬ (waiting k ≡ [])) → (q : List ℕ) → waiting n ≡ q → Search (suc n)
      at before [] e = inl (n, record { ended = e; no_sooner = before })
      at before (b ∷ q) e = inr λ k h f. by_order k n (λ l. before k l f) (λ g. let same : k ≡ n = omega arith in nil≢cons (sym f ∙ ap waiting same ∙ e))

  -- two numbers of visits that end the run are one
  pub ends_once : {j k : ℕ} → EndsAfter rule S j → EndsAfter rule S k → j ≡ k
  ends_once {j} {k} a b = by_order j k (λ l. absurd (b.no_sooner j l a.ended)) (λ l. by_order k j (λ m. absurd (a.no_sooner k m b.ended)) (λ m. omega arith))

  module _ (C : Closed S) where
    pub ends_within : {k : ℕ} → EndsAfter rule S k → k ≤ visit_bound rule S
    unfolding analysis
    ends_within {k} a = by_order (visit_bound rule S) k (λ l. absurd (a.no_sooner _ l (analysis_ends rule S C))) (λ l. l)

    pub ends_after : (k : ℕ) × EndsAfter rule S k
    unfolding Search waiting analysis
    ends_after = ⊎_elim (λ found. found) (λ never. absurd (never (visit_bound rule S) (omega arith) (analysis_ends rule S C))) (search (suc (visit_bound rule S)))
