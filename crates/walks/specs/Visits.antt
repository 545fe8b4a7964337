-- The visit bound, for any problem and any number of blocks. `potential` is the number of waiting blocks and how far every block's
-- state can still fall; a visit takes one from it and a push never adds to it, so visits so far and potential never pass the bound.
use Rattle.std.specs.Prelude.{◌≡◌, ◌⊎◌}
use Rattle.std.proofs.Math.Path.{refl, ap, subst}
use Rattle.std.proofs.Common.{sym, ◌∙◌, inl, inr, length-append}
use mathlib.Core.List.{List, [], ◌∷◌, ◌++◌, append-nil}
use Rattle.std.proofs.Math.Option.{Option, none, some}
use Prim.Native.Nat.{ℕ, suc, zero, ◌+◌, ◌*◌, ◌≤◌, ◌<◌}
use Rattle.std.proofs.Math.Nat.{suc-mul}
use native.Mathlib.Omega.{arith}
use Rattle.std.proofs.Math.Decide.{ℕ_discrete}
use Rattle.std.proofs.Math.ListN.{length}
use Rattle.paper.specs.Cells.{pick}
use Rattle.paper.specs.Runs.{Flow, Run, update, store, push_at, push, spread, visit_at, step_at, step, run}
use Rattle.paper.specs.Walks.{In, here, there}
use Rattle.walks.specs.Choices.{update_same, update_other, update_holds, some_inj, some_not_none, in_append, in_nil, in_left}
use Rattle.walks.specs.Running.{run_still}

-- n blocks; a state that fits has a rank of at most h, and a meet that changes it lowers its rank
pub record Ranked {A : Type 0} (F : Flow A) (n h : ℕ) : Type 1 where
  pub Fit : A → Type 0
  pub rank : A → ℕ
  pub high : (a : A) → Fit a → rank a ≤ h
  pub lower : (a x : A) → Fit a → Fit x → ¬ (F.meet a x ≡ a) → rank (F.meet a x) < rank a
  pub fit_meet : (a x : A) → Fit a → Fit x → Fit (F.meet a x)
  pub fit_result : (b : ℕ) (a : A) → Fit a → Fit (F.result b a)
  pub fit_first : Fit F.first
  pub entry_in : F.entry < n
  pub succs_in : (b s : ℕ) → In s (F.succs b) → s < n

module _ {A : Type 0} {F : Flow A} {n h : ℕ} (R : Ranked F n h) where
  unfoldable pub weight : Option A → ℕ
  weight none = suc h
  weight (some a) = R.rank a

  unfoldable pub total : ℕ → (ℕ → Option A) → ℕ
  total zero t = 0
  total (suc m) t = weight (t m) + total m t

  unfoldable pub potential : Run A → ℕ
  potential r = length r.queue + total n r.table

  -- what holds of a run after k visits, and between two pushes of the visit that comes next
  pub record VisitsWithin (bound k : ℕ) (r : Run A) : Type 0 where
    pub fit : (b : ℕ) (a : A) → r.table b ≡ some a → R.Fit a
    pub below : (b : ℕ) → In b r.queue → b < n
    pub visited : (b : ℕ) → In b r.queue → (a : A) × (r.table b ≡ some a)
    pub room : k + potential r ≤ bound

  total_beyond : (t : ℕ → Option A) (s : ℕ) (y : A) (m : ℕ) → m ≤ s → total m (update t s y) ≡ total m t
  unfolding total
  total_beyond t s y zero l = refl
  total_beyond t s y (suc m) l = rw (update_other t s y m (omega arith), total_beyond t s y m (omega arith))

  total_update : (t : ℕ → Option A) (s : ℕ) (y : A) (m : ℕ) → s < m → total m (update t s y) + weight (t s) ≡ total m t + R.rank y
  unfolding total weight
  total_update t s y zero l = omega arith
  total_update t s y (suc m) l = go (ℕ_discrete m s) (total_update t s y m)
    where
      go : Dec (m ≡ s) → (s < m → total m (update t s y) + weight (t s) ≡ total m t + R.rank y)
          → (weight (update t s y m) + total m (update t s y)) + weight (t s) ≡ (weight (t m) + total m t) + R.rank y
      go (yes e) rec = rw (total_beyond t s y m (omega arith), e, update_same t s y) (omega arith)
      go (no d) rec = rw (update_other t s y m d) (omega (arith, rec (omega arith)))

  fit_update : (t : ℕ → Option A) (s : ℕ) (y : A) → R.Fit y → ((b : ℕ) (a : A) → t b ≡ some a → R.Fit a) → (b : ℕ) (a : A) → update t s y b ≡ some a → R.Fit a
  fit_update t s y fy g = update_holds t s y R.Fit fy g

  module _ {bound : ℕ} where
    -- visits so far and blocks that wait
    pub within_queue : {k : ℕ} {r : Run A} → VisitsWithin bound k r → k + length r.queue ≤ bound
    unfolding potential
    within_queue g = omega (arith, g.room)

    -- the next block is taken from the queue: its visit counts from here on
    within_take : {k : ℕ} {r : Run A} (b : ℕ) (q : List ℕ) → r.queue ≡ b ∷ q → VisitsWithin bound k r → VisitsWithin bound (suc k) (record { table = r.table; queue = q })
    unfolding potential
    within_take {k} {r} b q e g = record {
      fit = g.fit;
      below = λ c i. g.below c (subst (In c) (sym e) (there i));
      visited = λ c i. g.visited c (subst (In c) (sym e) (there i));
      room = omega (arith, g.room, ap length e);
    }

    within_store : {k : ℕ} (s : ℕ) (y : A) (r : Run A) → s < n → R.Fit y → R.rank y < weight (r.table s) → VisitsWithin bound k r → VisitsWithin bound k (store F s y r)
    unfolding store potential
    within_store s y r l fy w g = record {
      fit = fit_update r.table s y fy g.fit;
      below = λ b i. go b (in_append r.queue (s ∷ []) i);
      visited = λ b i. stored b (ℕ_discrete b s) (in_append r.queue (s ∷ []) i);
      room = rw (length-append r.queue (s ∷ [])) (omega (arith, g.room, total_update r.table s y n l));
    }
      where
        go : (b : ℕ) → In b r.queue ⊎ In b (s ∷ []) → b < n
        go b (inl i) = g.below b i
        go b (inr (here e)) = rw e l
        go b (inr (there i)) = absurd (in_nil i)

        stored : (b : ℕ) → Dec (b ≡ s) → In b r.queue ⊎ In b (s ∷ []) → (a : A) × (update r.table s y b ≡ some a)
        stored b (yes p) i = (y, ap (update r.table s y) p ∙ update_same r.table s y)
        stored b (no n) (inl i) = let v = g.visited b i in (v.0, update_other r.table s y b n ∙ v.1)
        stored b (no n) (inr (here p)) = absurd (n p)
        stored b (no n) (inr (there i)) = absurd (in_nil i)

    within_push : {k : ℕ} (s : ℕ) (x : A) (r : Run A) → s < n → R.Fit x → VisitsWithin bound k r → VisitsWithin bound k (push F s x r)
    unfolding push push_at weight
    within_push {k} s x r l fx g = at (r.table s) refl
      where
        met : (a : A) → r.table s ≡ some a → (d : Dec (F.meet a x ≡ a)) → VisitsWithin bound k (pick d r (store F s (F.meet a x) r))
        met a e (yes p) = g
        met a e (no d) = within_store s (F.meet a x) r l (R.fit_meet a x (g.fit s a e) fx) (rw e (R.lower a x (g.fit s a e) fx d)) g

        at : (o : Option A) → r.table s ≡ o → VisitsWithin bound k (push_at F o s x r)
        at none e = within_store s x r l fx (rw e (omega (arith, R.high x fx))) g
        at (some a) e = met a e (F.same (F.meet a x) a)

    within_spread : {k : ℕ} (ss : List ℕ) (x : A) (r : Run A) → ((s : ℕ) → In s ss → s < n) → R.Fit x → VisitsWithin bound k r → VisitsWithin bound k (spread F ss x r)
    unfolding spread
    within_spread [] x r l fx g = g
    within_spread (s ∷ ss) x r l fx g = within_spread ss x (push F s x r) (λ c i. l c (there i)) fx (within_push s x r (l s (here refl)) fx g)

    -- inside a visit of b: after the pushes to the first successors
    pub within_visit : {k : ℕ} {r : Run A} (b : ℕ) (q : List ℕ) (a : A) (pushed rest : List ℕ) → r.queue ≡ b ∷ q → r.table b ≡ some a → F.succs b ≡ pushed ++ rest
        → VisitsWithin bound k r → VisitsWithin bound (suc k) (spread F pushed (F.result b a) (record { table = r.table; queue = q }))
    within_visit {r} b q a pushed rest e f d g =
        within_spread pushed (F.result b a) _ (λ s i. R.succs_in b s (subst (In s) (sym d) (in_left rest i))) (R.fit_result b a (g.fit b a f)) (within_take b q e g)

    -- a whole visit
    pub within_step : {k : ℕ} {r : Run A} (b : ℕ) (q : List ℕ) → r.queue ≡ b ∷ q → VisitsWithin bound k r → VisitsWithin bound (suc k) (step F r)
    unfolding step step_at visit_at
    within_step {k} {r} b q e g = subst (λ (p : List ℕ). VisitsWithin bound (suc k) (step_at F p r)) (sym e) (at (r.table b) refl)
      where
        at : (o : Option A) → r.table b ≡ o → VisitsWithin bound (suc k) (visit_at F o b (record { table = r.table; queue = q }))
        at none f = within_take b q e g
        at (some a) f = within_visit b q a (F.succs b) [] e f (sym (append-nil (F.succs b))) g

    -- so many visits as the bound still leaves end the run
    pub within_ends : (more : ℕ) {k : ℕ} (r : Run A) → VisitsWithin bound k r → bound ≤ k + more → (run F more r).queue ≡ []
    unfolding run
    within_ends zero r g l = empty r.queue (omega (arith, within_queue g))
      where
        empty : (q : List ℕ) → length q ≤ 0 → q ≡ []
        empty [] z = refl
        empty (b ∷ q) z = absurd (omega arith)
    within_ends (suc more) {k} r g l = at r.queue refl (λ g'. within_ends more {k = suc k} (step F r) g' (omega arith))
      where
        at : (q : List ℕ) → r.queue ≡ q → (VisitsWithin bound (suc k) (step F r) → (run F more (step F r)).queue ≡ []) → (run F more (step F r)).queue ≡ []
        at [] e rec = ap (λ (u : Run A). u.queue) (run_still F (suc more) r e) ∙ e
        at (b ∷ q) e rec = rec (within_step b q e g)

    -- it holds after any number of steps, of which those at an empty queue are no visits
    pub within_run : (steps : ℕ) {k : ℕ} (r : Run A) → VisitsWithin bound k r → (j : ℕ) × VisitsWithin bound j (run F steps r)
    unfolding run
    within_run zero {k} r g = (k, g)
    within_run (suc steps) {k} r g = at r.queue refl (λ g'. within_run steps {k = suc k} (step F r) g')
      where
        at : (q : List ℕ) → r.queue ≡ q → (VisitsWithin bound (suc k) (step F r) → (j : ℕ) × VisitsWithin bound j (run F steps (step F r))) → (j : ℕ) × VisitsWithin bound j (run F steps (step F r))
        at [] e rec = (k, subst (VisitsWithin bound k) (sym (run_still F (suc steps) r e)) g)
        at (b ∷ q) e rec = rec (within_step b q e g)

  total_none : (m : ℕ) → total m (λ b. none) ≡ m * suc h
  unfolding total weight
  total_none zero = omega arith
  total_none (suc m) = rw (total_none m) (omega (arith, suc-mul m (suc h)))

  total_all : (t : ℕ → Option A) → ((b : ℕ) → weight (t b) ≤ h) → (m : ℕ) → total m t ≤ m * h
  unfolding total
  total_all t w zero = omega arith
  total_all t w (suc m) = omega (arith, suc-mul m h, total_all t w m, w m)

  unfoldable pub start : (ℕ → Option A) → Run A
  start before = record { table = update before F.entry F.first; queue = F.entry ∷ [] }

  alone : (b : ℕ) → In b (F.entry ∷ []) → b < n
  alone b (here e) = rw e R.entry_in
  alone b (there i) = absurd (in_nil i)

  entry_visited : (before : ℕ → Option A) (b : ℕ) → In b (F.entry ∷ []) → (a : A) × (update before F.entry F.first b ≡ some a)
  entry_visited before b (here e) = (F.first, ap (update before F.entry F.first) e ∙ update_same before F.entry F.first)
  entry_visited before b (there i) = absurd (in_nil i)

  -- the start where no other block has a state
  pub within_unvisited : VisitsWithin (n * suc h) 0 (start (λ b. none))
  unfolding start potential weight
  within_unvisited = record {
    fit = fit_update (λ b. none) F.entry F.first R.fit_first (λ b a e. absurd (some_not_none refl e));
    below = alone;
    visited = entry_visited (λ b. none);
    room = omega (arith, total_update (λ b. none) F.entry F.first n R.entry_in, total_none n, R.high F.first R.fit_first);
  }

  -- the start where every other block has the state c
  pub within_visited : (c : A) → R.Fit c → VisitsWithin (1 + n * h) 0 (start (λ b. some c))
  unfolding start potential weight update
  within_visited c fc = record {
    fit = fit;
    below = alone;
    visited = entry_visited (λ b. some c);
    room = omega (arith, total_all (update (λ b. some c) F.entry F.first) small n);
  }
    where
      fit : (b : ℕ) (a : A) → update (λ b. some c) F.entry F.first b ≡ some a → R.Fit a
      fit = fit_update (λ b. some c) F.entry F.first R.fit_first (λ b a e. subst R.Fit (some_inj refl e) fc)

      small : (b : ℕ) → weight (update (λ b. some c) F.entry F.first b) ≤ h
      small b = go (ℕ_discrete b F.entry)
        where
          go : (d : Dec (b ≡ F.entry)) → weight (pick d (some F.first) (some c)) ≤ h
          go (yes e) = R.high F.first R.fit_first
          go (no e) = R.high c fc
