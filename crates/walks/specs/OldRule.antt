-- What fails under the old rule. A change of ownership turns Conflicted into an unmarked name and a marked name into a marked one,
-- though Conflicted is below: its effect does not distribute over the meet. So the order in which blocks are served shows in the
-- states, and in the report.
use Rattle.std.specs.Prelude.{◌≡◌, refl, Bool, true, false, List, [], ◌∷◌, ℕ, suc, zero, ◌<◌}
use Rattle.std.proofs.Common.{arith}
use Rattle.std.proofs.Math.Option.{Option, none, some}
use Rattle.paper.specs.Text.{Name, virtual as v}
use Rattle.paper.specs.Sheet.{Step, spill, change, safepoint, Sheet, succs_of}
use Rattle.paper.specs.Cells.{Cell, conflicted, named}
use Rattle.paper.specs.Steps.{State, Fault, stack_map_specifies_non_ref_slot, check, effect}
use Rattle.paper.specs.Runs.{Run, meet_states, flow, begin, analysis}
use Rattle.paper.specs.Walks.{In, here, there}
use Rattle.paper.specs.declared.Rule.TheVariants.{Old}
use Rattle.walks.specs.Choices.{in_nil}
use Rattle.walks.specs.Bounds.{Closed}
use Rattle.walks.specs.Order.{in_order}
use Rattle.walks.specs.Computed.{computed, defines}

abbrev pub ownership : Step
ownership = change 2 0 (v 0) (v 2)

-- a state of no register and one slot
abbrev pub slot_holds : Cell → State
slot_holds c = [] ∷ (c ∷ []) ∷ []

-- the effect of the meet, and the meet of the effects
pub old_effect_of_meet : (ref : Name → Bool) → effect Old ref ownership (meet_states Old (slot_holds (named (v 0) true)) (slot_holds (named (v 1) true))) ≡ slot_holds (named (v 2) false)
unfolding computed
old_effect_of_meet ref = refl

pub old_meet_of_effects : (ref : Name → Bool) → meet_states Old (effect Old ref ownership (slot_holds (named (v 0) true))) (effect Old ref ownership (slot_holds (named (v 1) true))) ≡ slot_holds (named (v 2) true)
unfolding computed
old_meet_of_effects ref = refl

-- Blocks 1 and 2 bring a reference-typed name each to slot 0; block 3 changes its ownership; block 4 is a safepoint that lists it.
abbrev pub crossing : Sheet
crossing = record {
  regs = 1;
  slots = 1;
  vregs = 3;
  blocks = 5;
  entry = 0;
  typed = 0 ∷ 1 ∷ 2 ∷ [];
  body =
      record { succs = 1 ∷ 2 ∷ []; steps = [] }
      ∷ record { succs = 3 ∷ []; steps = defines (v 0) 0 ∷ spill 0 0 ∷ [] }
      ∷ record { succs = 3 ∷ []; steps = defines (v 1) 0 ∷ spill 0 0 ∷ [] }
      ∷ record { succs = 4 ∷ []; steps = ownership ∷ [] }
      ∷ record { succs = []; steps = safepoint 3 (0 ∷ []) ∷ [] }
      ∷ [];
}

-- what a run of that sheet leaves: the waiting blocks, block 4's state, and what its safepoint's check finds
pub record End : Type 0 where
  pub waiting : List ℕ
  pub last : Option State
  pub found : Option Fault

unfoldable pub found_in : Option State → Option Fault
found_in none = none
found_in (some s) = check (safepoint 3 (0 ∷ [])) s

unfoldable pub end_of : Run State → End
end_of r = record { waiting = r.queue; last = r.table 4; found = found_in (r.table 4) }

-- the defined run serves 0 1 2 3 3 4: the slot's name is unmarked, kind 6
pub first_in_first_out : end_of (analysis Old crossing) ≡ record { waiting = []; last = some ((conflicted ∷ []) ∷ (named (v 2) false ∷ []) ∷ []); found = some (stack_map_specifies_non_ref_slot 0) }
unfolding computed end_of found_in
first_in_first_out = refl

-- block 3 served before block 2: the slot's name is marked, and no fault is found
pub another_order : end_of (in_order (flow Old crossing) (0 ∷ 1 ∷ 3 ∷ 2 ∷ 4 ∷ 3 ∷ 4 ∷ []) (begin Old crossing)) ≡ record { waiting = []; last = some ((conflicted ∷ []) ∷ (named (v 2) true ∷ []) ∷ []); found = none }
unfolding computed end_of found_in
another_order = refl

pub crossing_closed : Closed crossing
crossing_closed = record { entry_in = omega arith; succs_in = inside }
  where
    inside : (b s : ℕ) → In s (succs_of crossing b) → s < 5
    inside zero s (here e) = omega arith
    inside zero s (there (here e)) = omega arith
    inside zero s (there (there i)) = absurd (in_nil i)
    inside (suc zero) s (here e) = omega arith
    inside (suc zero) s (there i) = absurd (in_nil i)
    inside (suc (suc zero)) s (here e) = omega arith
    inside (suc (suc zero)) s (there i) = absurd (in_nil i)
    inside (suc (suc (suc zero))) s (here e) = omega arith
    inside (suc (suc (suc zero))) s (there i) = absurd (in_nil i)
    inside (suc (suc (suc (suc zero)))) s i = absurd (in_nil i)
    inside (suc (suc (suc (suc (suc b))))) s i = absurd (in_nil i)

pub old_does_not_distribute : ¬ ((ref : Name → Bool) (x : Step) (s t : State) → effect Old ref x (meet_states Old s t) ≡ meet_states Old (effect Old ref x s) (effect Old ref x t))
old_does_not_distribute h =
    let ref : Name → Bool = λ n. true in
    let e = h ref ownership (slot_holds (named (v 0) true)) (slot_holds (named (v 1) true)) in
    let z : ◌≡◌ {A = ℕ} 0 1 = cc (old_effect_of_meet ref, old_meet_of_effects ref) in
    omega arith
