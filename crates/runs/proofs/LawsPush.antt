-- A push: the run that stands in words and queue once a state has come to a block.
use mathlib.Core.Path.{◌≡◌, refl, ap, ◌∙◌}
use mathlib.Core.Bool.{Bool, true, false, cond}
use mathlib.Core.List.{List, [], ◌∷◌, ◌++◌}
use mathlib.Core.Option.{Option, none, some}
use Prim.Native.Nat.{ℕ}
use Rattle.paper.specs.Sheet.{Sheet}
use Rattle.paper.specs.Cells.{pick}
use Rattle.paper.specs.Steps.{State, counts_of}
use Rattle.paper.specs.Runs.{Run, store, push_at, push, meet_states, state_same, flow}
use Rattle.paper.specs.declared.Rule.{Rule}
use Rattle.cells.specs.States.{state_of}
use Rattle.runs.specs.Queue.{waits}
use Rattle.tables.specs.Table.{joined, arrives, Came}
use Rattle.runs.specs.Stands.{Moved}

-- a push, by whether the state is new
push_is : (rule : Rule) (S : Sheet) (b : ℕ) (x : State) (r : Run State)
    → push (flow rule S) b x r ≡ cond (arrives rule (r.table b) x) (store (flow rule S) b (joined rule (r.table b) x) r) r
unfolding push push_at flow arrives joined
push_is rule S b x r = at (r.table b)
  where
    met : (a : State) (d : Dec (meet_states rule a x ≡ a)) → pick d r (store (flow rule S) b (meet_states rule a x) r) ≡ cond (pick d false true) (store (flow rule S) b (meet_states rule a x) r) r
    met a (yes e) = refl
    met a (no n) = refl

    at : (o : Option State) → push_at (flow rule S) o b x r ≡ cond (arrives rule o x) (store (flow rule S) b (joined rule o x) r) r
    at none = refl
    at (some a) = met a (state_same (meet_states rule a x) a)

module _ {rule : Rule} {b : ℕ} {s : List (List ℕ)} {words words' queue : List ℕ} where
  -- the state is new, and the block waits
  moved_new : {queue' : List ℕ} → Came rule b s words words' true → queue' ≡ queue ++ (b ∷ [])
      → Moved rule words queue words' queue' (λ S. push (flow rule S) b (state_of (counts_of S) s))
  unfolding store
  moved_new came app = record {
    kept = came.kept;
    stands = λ S r h. rw (push_is rule S b (state_of (counts_of S) s) r, ← came.is_new S r.table h.tables) (record {
      tables = came.tables S r.table h.tables;
      waiting = app ∙ ap (λ (l : List ℕ). l ++ (b ∷ [])) h.waiting;
    });
  }

  -- the state is not
  moved_known : Came rule b s words words' false → Moved rule words queue words' queue (λ S. push (flow rule S) b (state_of (counts_of S) s))
  moved_known came = record {
    kept = came.kept;
    stands = λ S r h. rw (push_is rule S b (state_of (counts_of S) s) r, ← came.is_new S r.table h.tables) (record {
      tables = came.tables S r.table h.tables;
      waiting = h.waiting;
    });
  }

  -- a state came, and its block waits where it is new
  pub pushed : {queue' : List ℕ} (new : Bool) → Came rule b s words words' new → queue' ≡ waits new b queue
      → Moved rule words queue words' queue' (λ S. push (flow rule S) b (state_of (counts_of S) s))
  pushed true came app = moved_new came app
  pushed false came same = rw same (moved_known came)
