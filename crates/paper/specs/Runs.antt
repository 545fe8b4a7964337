-- Document 01, "Old run", "House run", "Unreached blocks": "Take a block, run its steps, and for each successor in listed order
-- meet the result into its entry state; when a cell changes .. store and append the successor, also if already waiting."
-- The two runs share this shape; they differ in the rule and in what holds a state at the start.
use Rattle.std.specs.Prelude.{◌≡◌, refl, ℕ, suc, zero, ◌+◌, ◌*◌, ◌<◌}
use Rattle.std.proofs.Common.{sym}
use mathlib.Core.HLevel.{Discrete}
use mathlib.Core.List.{List, [], ◌∷◌, ◌++◌, nil≢cons}
use Rattle.std.proofs.Math.Option.{Option, none, some}
use Rattle.std.proofs.Math.Decide.{ℕ_discrete}
use Rattle.paper.specs.Sheet.{Sheet, succs_of, steps_of, reference_typed}
use Rattle.paper.specs.Cells.{cell_same, pick, meet}
use Rattle.paper.specs.Steps.{State, cell_count, entry_state, unreached_state, effects}
use Rattle.paper.specs.declared.Rule.{Rule}
use Rattle.paper.specs.declared.Rule.TheVariants.{Old, House}

-- a dataflow problem over any type of states: blocks by number, what a block makes of a state, the entry block and its state
pub record Flow (A : Type 0) : Type 0 where
  pub meet : A → A → A
  pub same : Discrete A
  pub succs : ℕ → List ℕ
  pub result : ℕ → A → A
  pub entry : ℕ
  pub first : A

-- what a run holds: a block's entry state, none where it is unvisited, and the blocks that wait
pub record Run (A : Type 0) : Type 0 where
  pub table : ℕ → Option A
  pub queue : List ℕ

-- the table with a at block b
unfoldable pub update : {A : Type 0} → (ℕ → Option A) → ℕ → A → ℕ → Option A
update table b a k = pick (ℕ_discrete k b) (some a) (table k)

module _ {A : Type 0} (F : Flow A) where
  -- "store and append the successor, also if already waiting"
  unfoldable pub store : ℕ → A → Run A → Run A
  store s x r = record { table = update r.table s x; queue = r.queue ++ (s ∷ []) }

  -- "An unvisited successor takes the state as it is, is marked and queued; a visited one is queued when a cell changes."
  unfoldable pub push_at : Option A → ℕ → A → Run A → Run A
  push_at none s x r = store s x r
  push_at (some a) s x r = pick (F.same (F.meet a x) a) r (store s (F.meet a x) r)

  unfoldable pub push : ℕ → A → Run A → Run A
  push s x r = push_at (r.table s) s x r

  -- "for each successor in listed order"
  unfoldable pub spread : List ℕ → A → Run A → Run A
  spread [] x r = r
  spread (s ∷ ss) x r = spread ss x (push s x r)

  unfoldable pub visit_at : Option A → ℕ → Run A → Run A
  visit_at none b r = r
  visit_at (some a) b r = spread (F.succs b) (F.result b a) r

  -- one visit: the block that waits longest; none where the queue is empty
  unfoldable pub step_at : List ℕ → Run A → Run A
  step_at [] r = r
  step_at (b ∷ queue) r = visit_at (r.table b) b (record { table = r.table; queue = queue })

  unfoldable pub step : Run A → Run A
  step r = step_at r.queue r

  -- so many visits
  unfoldable pub run : ℕ → Run A → Run A
  run zero r = r
  run (suc visits) r = run visits (step r)

-- a function of two elements, place by place, as far as both lists go
unfoldable pub pointwise : {A : Type 0} → (A → A → A) → List A → List A → List A
pointwise f [] ys = []
pointwise f (x ∷ xs) [] = []
pointwise f (x ∷ xs) (y ∷ ys) = f x y ∷ pointwise f xs ys

-- the meet of two states, cell by cell
unfoldable pub meet_states : Rule → State → State → State
meet_states rule s t = pointwise (pointwise (meet rule)) s t

-- are two lists the same, given that of elements
unfoldable pub cons_same : {A : Type 0} {x y : A} {a b : List A} → Dec (x ≡ y) → Dec (a ≡ b) → Dec (◌≡◌ {A = List A} (x ∷ a) (y ∷ b))
cons_same (yes p) (yes q) = yes (cc)
cons_same (yes p) (no q) = no (λ e. q (cc))
cons_same (no p) d = no (λ e. p (cc))

unfoldable pub list_same : {A : Type 0} → Discrete A → Discrete (List A)
list_same d [] [] = yes refl
list_same d [] (y ∷ b) = no nil≢cons
list_same d (x ∷ a) [] = no (λ e. nil≢cons (sym e))
list_same d (x ∷ a) (y ∷ b) = cons_same (d x y) (list_same d a b)

-- "when a cell changes, Absent to Unknown included": states are the same where every cell is
unfoldable pub state_same : Discrete State
state_same = list_same (list_same cell_same)

-- a rule's dataflow problem on a sheet
unfoldable pub flow : Rule → Sheet → Flow State
flow rule S = record {
  meet = meet_states rule;
  same = state_same;
  succs = succs_of S;
  result = λ b. effects rule (reference_typed S) (steps_of S b);
  entry = S.entry;
  first = entry_state rule S;
}

-- "All blocks but the entry begin all Absent. The entry goes into a first-in first-out queue." (old)
-- "Each block has a visited mark. The entry is visited at the start and queued once." (house)
unfoldable pub before : Rule → Sheet → ℕ → Option State
before Old S b = some (unreached_state Old S)
before House S b = none

unfoldable pub begin : Rule → Sheet → Run State
begin rule S = record { table = update (before rule S) S.entry (entry_state rule S); queue = S.entry ∷ [] }

-- old: "At most 1 + blocks x 4 x (regs + slots) visits." house: "At most blocks x (1 + 3 x (regs + slots)) visits."
unfoldable pub visit_bound : Rule → Sheet → ℕ
visit_bound Old S = 1 + S.blocks * (4 * cell_count S)
visit_bound House S = S.blocks * (1 + 3 * cell_count S)

-- the run's queue is empty after so many visits, and after no fewer
pub record EndsAfter (rule : Rule) (S : Sheet) (visits : ℕ) : Type 0 where
  pub ended : (run (flow rule S) visits (begin rule S)).queue ≡ []
  pub no_sooner : (k : ℕ) → k < visits → ¬ ((run (flow rule S) k (begin rule S)).queue ≡ [])

-- the run to its end: after so many visits the queue is empty
unfoldable pub analysis : Rule → Sheet → Run State
analysis rule S = run (flow rule S) (visit_bound rule S) (begin rule S)

-- the state that a block begins with: "Unreached blocks keep an all Absent (house: all Unknown) state, are not run in the analysis".
-- Document 02, A5: "Under the house rule an unreached block is not checked"
unfoldable pub entered : Rule → Sheet → Option State → State
entered rule S none = unreached_state rule S
entered rule S (some s) = s

unfoldable pub checked_from : Rule → Sheet → ℕ → State
checked_from rule S b = entered rule S ((analysis rule S).table b)
