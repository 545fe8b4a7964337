-- What the house run ends at: every visited block's state is the meet over all walks to it, visited means reached, and any order
-- of serving the blocks ends at the same table.
use Rattle.std.specs.Prelude.{◌≡◌, List, [], ◌∷◌, ℕ}
use Rattle.std.proofs.Math.Path.{refl}
use Rattle.std.proofs.Math.Option.{Option, none, some}
use Rattle.paper.specs.Sheet.{Sheet}
use Rattle.paper.specs.Steps.{State, unreached_state}
use Rattle.paper.specs.Runs.{Run, flow, before, begin, visit_bound, analysis, entered, checked_from}
use Rattle.paper.specs.Walks.{here, HouseWalk, MeetOverWalks}
use Rattle.paper.specs.declared.Rule.TheVariants.{House}
use Rattle.walks.specs.Flow.{Good, start_good, is_meet, reached, unreached}
use Rattle.walks.specs.Order.{Served, served_good, in_order, in_order_good, run_good, same_end}
use Rattle.walks.specs.Effects.{house_laws}
use Rattle.walks.specs.Bounds.{Closed}
use Rattle.walks.proofs.Loop.{analysis_ends}

module _ (S : Sheet) where
  begin_good : Good (flow House S) (begin House S)
  unfolding begin before flow
  begin_good = start_good (flow House S) (house_laws S) (S.entry ∷ []) (here refl)

  pub house_good : Good (flow House S) (analysis House S)
  unfolding analysis
  house_good = run_good (flow House S) (house_laws S) (visit_bound House S) (begin House S) begin_good

module _ (S : Sheet) (C : Closed S) where
  pub house_meet_over_walks : (b : ℕ) (s : State) → (analysis House S).table b ≡ some s → MeetOverWalks (flow House S) b s
  house_meet_over_walks = is_meet (flow House S) (house_laws S) (analysis House S) (house_good S) (analysis_ends House S C)

  pub house_reached : (b : ℕ) (s : State) → (analysis House S).table b ≡ some s → HouseWalk S b
  house_reached = reached (flow House S) (house_laws S) (analysis House S) (house_good S) (analysis_ends House S C)

  pub house_unreached : (b : ℕ) → (analysis House S).table b ≡ none → ¬ HouseWalk S b
  house_unreached = unreached (flow House S) (house_laws S) (analysis House S) (house_good S) (analysis_ends House S C)

  -- a block that no walk comes to is checked alone
  pub house_alone : (b : ℕ) → ¬ HouseWalk S b → checked_from House S b ≡ unreached_state House S
  unfolding checked_from entered
  house_alone b far = at ((analysis House S).table b) refl
    where
      at : (t : Option State) → (analysis House S).table b ≡ t → entered House S ((analysis House S).table b) ≡ unreached_state House S
      at none e = rw e
      at (some s) e = absurd (far (house_reached b s e))

  same_table : (r : Run State) → Good (flow House S) r → r.queue ≡ [] → (b : ℕ) → r.table b ≡ (analysis House S).table b
  same_table r g e = same_end (flow House S) (house_laws S) r (analysis House S) g (house_good S) e (analysis_ends House S C)

  pub house_any_order : (r : Run State) → Served (flow House S) (begin House S) r → r.queue ≡ [] → (b : ℕ) → r.table b ≡ (analysis House S).table b
  house_any_order r s = same_table r (served_good (flow House S) (house_laws S) (begin_good S) s)

  pub house_in_order : (order : List ℕ) → (in_order (flow House S) order (begin House S)).queue ≡ []
      → (b : ℕ) → (in_order (flow House S) order (begin House S)).table b ≡ (analysis House S).table b
  house_in_order order = same_table (in_order (flow House S) order (begin House S)) (in_order_good (flow House S) (house_laws S) order (begin House S) (begin_good S))
