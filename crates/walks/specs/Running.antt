-- The defined run taken apart, as code goes through it: a visit push by push, visits one after the other, and a run that stands
-- still once its queue is empty.
use Rattle.std.specs.Prelude.{◌≡◌}
use Rattle.std.proofs.Math.Path.{refl, ap}
use Rattle.std.proofs.Common.{◌∙◌, zero-add, suc-add}
use mathlib.Core.List.{List, [], ◌∷◌, ◌++◌}
use Rattle.std.proofs.Math.Option.{Option, some}
use Prim.Native.Nat.{ℕ, suc, zero, ◌+◌}
use Rattle.paper.specs.Runs.{Flow, Run, push, spread, visit_at, step_at, step, run}

module _ {A : Type 0} (F : Flow A) where
  -- one visit more, and a run that is cut in two
  pub run_suc : (k : ℕ) (r : Run A) → run F (suc k) r ≡ step F (run F k r)
  unfolding run
  run_suc zero r = refl
  run_suc (suc k) r = run_suc k (step F r)

  pub run_add : (k j : ℕ) (r : Run A) → run F (k + j) r ≡ run F j (run F k r)
  unfolding run
  run_add zero j r = rw (zero-add j)
  run_add (suc k) j r = rw (suc-add k j) (run_add k j (step F r))

  -- at an empty queue nothing changes any more
  pub run_still : (k : ℕ) (r : Run A) → r.queue ≡ [] → run F k r ≡ r
  unfolding run step step_at
  run_still zero r e = refl
  run_still (suc k) r e = ap (λ (q : List ℕ). run F k (step_at F q r)) e ∙ run_still k r e

  -- a visit, push by push
  pub step_visit : (r : Run A) (b : ℕ) (queue : List ℕ) (a : A) → r.queue ≡ b ∷ queue → r.table b ≡ some a
      → step F r ≡ spread F (F.succs b) (F.result b a) (record { table = r.table; queue = queue })
  unfolding step step_at visit_at
  step_visit r b queue a e f =
      ap (λ (q : List ℕ). step_at F q r) e ∙ ap (λ (o : Option A). visit_at F o b (record { table = r.table; queue = queue })) f

  pub spread_last : (ss : List ℕ) (s : ℕ) (x : A) (r : Run A) → spread F (ss ++ (s ∷ [])) x r ≡ push F s x (spread F ss x r)
  unfolding spread
  spread_last [] s x r = refl
  spread_last (t ∷ ss) s x r = spread_last ss s x (push F t x r)
