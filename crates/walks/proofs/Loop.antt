-- What code that runs a rule needs: the invariant `Standing` of its loop over the queue, with k the visits so far. It holds at the
-- start, after each visit, and inside a visit between two pushes; it bounds the queue's length; and a run whose queue is empty is
-- the whole analysis.
use Rattle.std.specs.Prelude.{◌≡◌, ℕ, suc, ◌+◌, ◌≤◌, ◌<◌}
use Rattle.std.proofs.Math.Path.{refl, sym, ap, subst}
use Rattle.std.proofs.Common.{◌∙◌, add_comm, arith}
use mathlib.Core.List.{List, [], ◌∷◌, ◌++◌, map}
use Rattle.std.proofs.Math.Option.{Option, none, some}
use Rattle.std.proofs.Math.ListN.{length}
use Rattle.paper.specs.Sheet.{Sheet, succs_of, steps_of, reference_typed}
use Rattle.paper.specs.Steps.{State, counts_of, effects}
use Rattle.paper.specs.Runs.{Run, flow, begin, spread, step, run, visit_bound, analysis, entered, checked_from}
use Rattle.paper.specs.Walks.{In}
use Rattle.paper.specs.declared.Rule.{Rule}
use Rattle.walks.specs.Running.{run_add, run_still}
use Rattle.walks.specs.Visits.{VisitsWithin, within_queue, within_visit, within_step, within_run, within_ends}
use Rattle.walks.specs.Fits.{Any, fits_lengths, fits_unreached}
use Rattle.walks.specs.Bounds.{Closed}
use Rattle.walks.proofs.Bounds.{ranked, within_begin, within_lengths}

module _ (rule : Rule) (S : Sheet) (C : Closed S) where
  pub record Standing (k : ℕ) (r : Run State) : Type 0 where
    pub within : VisitsWithin (ranked rule S C) (visit_bound rule S) k r

  module _ {k : ℕ} {r : Run State} (h : Standing k r) where
    -- visits so far and blocks that wait never pass the bound
    pub standing_room : k + length r.queue ≤ visit_bound rule S
    standing_room = within_queue (ranked rule S C) h.within

    -- every waiting block is a block
    pub standing_below : (b : ℕ) → In b r.queue → b < S.blocks
    standing_below = h.within.below

    -- and it has a state
    pub standing_visited : (b : ℕ) → In b r.queue → (s : State) × (r.table b ≡ some s)
    standing_visited = h.within.visited

    -- every state in the table has as many cells as the sheet counts
    pub standing_lengths : (b : ℕ) (s : State) → r.table b ≡ some s → map length s ≡ counts_of S
    standing_lengths = within_lengths rule S C (visit_bound rule S) k r h.within

    -- the visit of b has begun: after the pushes to its first successors
    pub standing_inside : (b : ℕ) (queue : List ℕ) (s : State) (pushed rest : List ℕ) → r.queue ≡ b ∷ queue → r.table b ≡ some s → succs_of S b ≡ pushed ++ rest
        → Standing (suc k) (spread (flow rule S) pushed (effects rule (reference_typed S) (steps_of S b) s) (record { table = r.table; queue = queue }))
    unfolding flow
    standing_inside b queue s pushed rest e f d = record { within = within_visit (ranked rule S C) b queue s pushed rest e f d h.within }

    -- the visit of b is done
    pub standing_step : (b : ℕ) (queue : List ℕ) → r.queue ≡ b ∷ queue → Standing (suc k) (step (flow rule S) r)
    standing_step b queue e = record { within = within_step (ranked rule S C) b queue e h.within }

  pub standing_begin : Standing 0 (begin rule S)
  standing_begin = record { within = within_begin rule S C }

  -- the state that a block is checked from has as many cells as the sheet counts
  pub checked_lengths : (b : ℕ) → map length (checked_from rule S b) ≡ counts_of S
  unfolding checked_from entered analysis
  checked_lengths b = at ((analysis rule S).table b) refl
    where
      at : (t : Option State) → (analysis rule S).table b ≡ t → map length (entered rule S ((analysis rule S).table b)) ≡ counts_of S
      at none e = subst (λ (t : Option State). map length (entered rule S t) ≡ counts_of S) (sym e) (fits_lengths {P = Any} S (fits_unreached S rule tt))
      at (some s) e =
          let g = within_run (ranked rule S C) (visit_bound rule S) (begin rule S) (within_begin rule S C) in
          subst (λ (t : Option State). map length (entered rule S t) ≡ counts_of S) (sym e) (within_lengths rule S C (visit_bound rule S) g.0 (analysis rule S) g.1 b s e)

  -- the analysis is done: its queue is empty
  pub analysis_ends : (analysis rule S).queue ≡ []
  unfolding analysis
  analysis_ends = within_ends (ranked rule S C) (visit_bound rule S) (begin rule S) (within_begin rule S C) (omega arith)

  -- a run that stops because its queue is empty is the whole analysis
  pub stopped_early : (k : ℕ) → (run (flow rule S) k (begin rule S)).queue ≡ [] → run (flow rule S) k (begin rule S) ≡ analysis rule S
  unfolding analysis
  stopped_early k e =
      let n = visit_bound rule S in
      let F = flow rule S in
      sym (run_still F n (run F k (begin rule S)) e) ∙ sym (run_add F k n (begin rule S)) ∙ ap (λ (m : ℕ). run F m (begin rule S)) (add_comm k n)
      ∙ run_add F n k (begin rule S) ∙ run_still F k (run F n (begin rule S)) (unfold analysis in analysis_ends)
