-- Five slips in the house rule, each beside the right definition, and for each a computed sheet on which a theorem is then false.
-- `Variant` says where they differ; `house` is the rule itself (`house_effects`).
use Rattle.std.specs.Prelude.{◌≡◌, refl, Bool, false, cond, List, [], ◌∷◌, map, ℕ, suc, zero, ◌+◌, length}
use Rattle.std.proofs.Common.{ap}
use Rattle.std.proofs.Math.Path.{fun_ext}
use Rattle.std.proofs.Math.Option.{Option, none, some}
use Rattle.paper.specs.Text.{Name, real, virtual as v, name_same}
use Rattle.paper.specs.Sheet.{Operand, Step, spill, reload, move, change, operation, safepoint, Block, Sheet, succs_of, steps_of, listed, reference_typed}
use Rattle.paper.specs.Cells.{Cell, absent, unknown, conflicted, named, pick, old_meet, house_meet, overwritten, house_changed, collected}
use Rattle.paper.specs.Steps.{State, register, slot, get, put, location_of, entry_state, unreached_state, Fault, unknown_value_in_reg, check, copy, everywhere, by_place, safepoint_row, house_define, house_effect, effect}
use Rattle.paper.specs.Runs.{Flow, Run, update, run, pointwise, state_same, visit_bound, entered}
use Rattle.paper.specs.Report.{faults}
use Rattle.paper.specs.Programs.{World, original_run, allocated_run}
use Rattle.paper.specs.declared.Rule.TheVariants.{House}
use Rattle.walks.specs.Order.{in_order}
use Rattle.walks.specs.Computed.{computed, defines, uses}

pub record Variant : Type 0 where
  -- what `O` makes of the cells that hold a name which it writes, and `C` of those that hold the new name
  pub at_definition : Name → Cell → Cell
  pub at_change : Name → Cell → Cell
  -- what `P` makes of a slot that it does not list
  pub unlisted : Cell → Cell
  pub meet : Cell → Cell → Cell
  -- what a block holds before it is visited
  pub unvisited : Sheet → Option State

module _ (how : Variant) where
  unfoldable pub define_by : (Name → Bool) → List Operand → State → State
  define_by ref [] s = s
  define_by ref (d ∷ ds) s = define_by ref ds (put (location_of d.reg) (named d.name (ref d.name)) (everywhere (how.at_definition d.name) s))

  unfoldable pub row_by : List ℕ → ℕ → List Cell → List Cell
  row_by slots zero row = map (collected House) row
  row_by slots (suc zero) row = by_place (λ i c. cond (listed slots i) c (how.unlisted c)) row
  row_by slots (suc (suc r)) row = map (collected House) row

  unfoldable pub effect_by : (Name → Bool) → Step → State → State
  effect_by ref (spill k r) s = copy (slot k) (register r) s
  effect_by ref (reload r k) s = copy (register r) (slot k) s
  effect_by ref (move into from) s = copy (register into) (register from) s
  effect_by ref (change inst k from to) s = put (slot k) (house_changed from to (get s (slot k))) (everywhere (how.at_change to) s)
  effect_by ref (operation inst uses defs) s = define_by ref defs s
  effect_by ref (safepoint inst slots) s = by_place (row_by slots) s

  unfoldable pub effects_by : (Name → Bool) → List Step → State → State
  effects_by ref [] s = s
  effects_by ref (x ∷ xs) s = effects_by ref xs (effect_by ref x s)

  -- what each step's check finds
  unfoldable pub found_by : (Name → Bool) → List Step → State → List (Option Fault)
  found_by ref [] s = []
  found_by ref (x ∷ xs) s = check x s ∷ found_by ref xs (effect_by ref x s)

  unfoldable pub flow_by : Sheet → Flow State
  flow_by S = record {
    meet = pointwise (pointwise how.meet);
    same = state_same;
    succs = succs_of S;
    result = λ b. effects_by (reference_typed S) (steps_of S b);
    entry = S.entry;
    first = entry_state House S;
  }

  unfoldable pub begin_by : Sheet → Run State
  begin_by S = record { table = update (λ b. how.unvisited S) S.entry (entry_state House S); queue = S.entry ∷ [] }

  unfoldable pub run_by : Sheet → Run State
  run_by S = run (flow_by S) (visit_bound House S) (begin_by S)

  -- to unfold this is to unfold all of it
  unfoldable pub computed_by : Sheet → Run State
  unfolding computed define_by row_by effect_by effects_by found_by flow_by begin_by run_by
  computed_by S = run_by S

abbrev pub house : Variant
house = record { at_definition = overwritten; at_change = overwritten; unlisted = collected House; meet = house_meet; unvisited = λ S. none }

house_defines : (ref : Name → Bool) (defs : List Operand) (s : State) → define_by house ref defs s ≡ house_define ref defs s
unfolding define_by house_define
house_defines ref [] s = refl
house_defines ref (d ∷ ds) s = house_defines ref ds _

house_rows : (slots : List ℕ) → row_by house slots ≡ safepoint_row House slots
unfolding row_by safepoint_row
house_rows slots = fun_ext λ r. fun_ext λ row. at r row
  where
    at : (r : ℕ) (row : List Cell) → row_by house slots r row ≡ safepoint_row House slots r row
    at zero row = refl
    at (suc zero) row = refl
    at (suc (suc r)) row = refl

pub house_effects : (ref : Name → Bool) (x : Step) (s : State) → effect_by house ref x s ≡ effect House ref x s
unfolding effect_by effect house_effect
house_effects ref (spill k r) s = refl
house_effects ref (reload r k) s = refl
house_effects ref (move into from) s = refl
house_effects ref (change inst k from to) s = refl
house_effects ref (operation inst uses defs) s = house_defines ref defs s
house_effects ref (safepoint inst slots) s = ap (λ (f : ℕ → List Cell → List Cell). by_place f s) (house_rows slots)

-- v1 alone is reference-typed
abbrev pub sheet_of : ℕ → ℕ → List Block → Sheet
sheet_of regs slots body = record { regs = regs; slots = slots; vregs = 3; blocks = length body; entry = 0; typed = 1 ∷ []; body = body }

-- 1. Stale copies made Unknown. r1 holds v0 on one branch and v1 on the other, Conflicted where they join; then v0 is written in
-- r0. Served with one branch alone, r1 becomes Unknown, and stays so; served after both it stays Conflicted. The states depend on
-- the order, and the defined run does not end at the meet over all walks.
unfoldable pub stale_unknown : Name → Cell → Cell
stale_unknown n absent = absent
stale_unknown n unknown = unknown
stale_unknown n conflicted = conflicted
stale_unknown n (named k l) = pick (name_same k n) unknown (named k l)

abbrev pub unknown_copies : Variant
unknown_copies = record { at_definition = stale_unknown; at_change = stale_unknown; unlisted = collected House; meet = house_meet; unvisited = λ S. none }

abbrev pub branches : Sheet
branches =
    sheet_of 2 0 (
    record { succs = 1 ∷ 2 ∷ []; steps = [] }
    ∷ record { succs = 3 ∷ []; steps = defines (v 0) 1 ∷ [] }
    ∷ record { succs = 3 ∷ []; steps = defines (v 1) 1 ∷ [] }
    ∷ record { succs = 4 ∷ []; steps = defines (v 0) 0 ∷ [] }
    ∷ record { succs = []; steps = [] }
    ∷ []
    )

-- the waiting blocks, and block 4's state
unfoldable pub end_of : Run State → List ℕ × Option State
end_of r = (r.queue, r.table 4)

pub slip_first_in_first_out : end_of (run_by unknown_copies branches) ≡ ([], some ((named (v 0) false ∷ conflicted ∷ []) ∷ [] ∷ []))
unfolding computed_by stale_unknown end_of
slip_first_in_first_out = refl

pub slip_another_order : end_of (in_order (flow_by unknown_copies branches) (0 ∷ 1 ∷ 3 ∷ 2 ∷ 4 ∷ 3 ∷ 4 ∷ []) (begin_by unknown_copies branches)) ≡ ([], some ((named (v 0) false ∷ unknown ∷ []) ∷ [] ∷ []))
unfolding computed_by stale_unknown end_of
slip_another_order = refl

-- what a block's checks find, from the state that the run leaves it
unfoldable pub found_in : Variant → Sheet → ℕ → List (Option Fault)
found_in how S b = found_by how (reference_typed S) (steps_of S b) (entered House S ((run_by how S).table b))

-- 2. No visited mark: every block begins all Unknown, which wins over all, so nothing ever changes and no block but the entry is
-- visited. The use of r0 behind one edge passes on the only walk, and is reported.
abbrev pub no_mark : Variant
no_mark = record { at_definition = overwritten; at_change = overwritten; unlisted = collected House; meet = house_meet; unvisited = λ S. some (unreached_state House S) }

abbrev pub one_edge : Sheet
one_edge = sheet_of 1 0 (record { succs = 1 ∷ []; steps = [] } ∷ record { succs = []; steps = uses (real 0) 0 ∷ [] } ∷ [])

pub slip_reports_what_passes : found_in no_mark one_edge 1 ≡ some (unknown_value_in_reg (some 0)) ∷ []
unfolding computed_by found_in
slip_reports_what_passes = refl

pub house_accepts_it : faults House one_edge ≡ []
unfolding computed
house_accepts_it = refl

-- 3. Unknown neutral in the meet: a slot that one branch never fills is trusted where the branches join, and the reload is accepted,
-- though the use fails on the walk through that branch.
abbrev pub unknown_neutral : Variant
unknown_neutral = record { at_definition = overwritten; at_change = overwritten; unlisted = collected House; meet = old_meet; unvisited = λ S. none }

abbrev pub unfilled_branch : Sheet
unfilled_branch =
    sheet_of 2 1 (
    record { succs = 1 ∷ 2 ∷ []; steps = defines (v 0) 0 ∷ [] }
    ∷ record { succs = 3 ∷ []; steps = spill 0 0 ∷ [] }
    ∷ record { succs = 3 ∷ []; steps = [] }
    ∷ record { succs = []; steps = reload 1 0 ∷ uses (v 0) 1 ∷ [] }
    ∷ []
    )

pub slip_accepts : found_in unknown_neutral unfilled_branch 3 ≡ none ∷ none ∷ []
unfolding computed_by found_in
slip_accepts = refl

pub the_walk_fails : found_by unknown_neutral (reference_typed unfilled_branch) (defines (v 0) 0 ∷ reload 1 0 ∷ uses (v 0) 1 ∷ []) (entry_state House unfilled_branch)
    ≡ none ∷ none ∷ some (unknown_value_in_reg (some 1)) ∷ []
unfolding computed_by
the_walk_fails = refl

-- an operation gives its place, the collector adds 10
abbrev pub placing : World
placing = record { Value = ℕ; results = λ place values def. place; collect = λ place value. value + 10 }

-- what the checks of some steps find from the entry state, and what the two programs read on them from equal values
pub record Walked : Type 0 where
  pub found : List (Option Fault)
  pub original : List (List ℕ)
  pub allocated : List (List ℕ)

unfoldable pub walked_by : Variant → Sheet → List Step → Walked
unfolding computed_by
walked_by how S xs = record {
  found = found_by how (reference_typed S) xs (entry_state House S);
  original = original_run placing (reference_typed S) 0 xs (λ n. 0);
  allocated = allocated_run placing 0 xs (λ l. 0);
}

-- 4. A change of ownership that leaves other copies of the new name: r0 still holds v2, whose value the change has replaced. Every
-- check passes, and the use reads 1 and 0.
abbrev pub copies_left : Variant
copies_left = record { at_definition = overwritten; at_change = λ n c. c; unlisted = collected House; meet = house_meet; unvisited = λ S. none }

abbrev pub changed_steps : List Step
changed_steps = defines (v 2) 0 ∷ defines (v 0) 1 ∷ spill 0 1 ∷ change 2 0 (v 0) (v 2) ∷ uses (v 2) 0 ∷ []

pub slip_trusts_the_copy : walked_by copies_left (sheet_of 2 1 []) changed_steps
    ≡ record { found = none ∷ none ∷ none ∷ none ∷ none ∷ []; original = [] ∷ [] ∷ [] ∷ [] ∷ (1 ∷ []) ∷ []; allocated = [] ∷ [] ∷ [] ∷ [] ∷ (0 ∷ []) ∷ [] }
unfolding walked_by
slip_trusts_the_copy = refl

-- 5. A safepoint that keeps a marked name in a slot that it does not list: the collector has moved v1, and the slot has not. Every
-- check passes, and the use reads 10 and 0.
abbrev pub slots_kept : Variant
slots_kept = record { at_definition = overwritten; at_change = overwritten; unlisted = λ c. c; meet = house_meet; unvisited = λ S. none }

abbrev pub kept_steps : List Step
kept_steps = defines (v 1) 0 ∷ spill 0 0 ∷ safepoint 3 [] ∷ reload 0 0 ∷ uses (v 1) 0 ∷ []

pub slip_trusts_the_slot : walked_by slots_kept (sheet_of 2 1 []) kept_steps
    ≡ record { found = none ∷ none ∷ none ∷ none ∷ none ∷ []; original = [] ∷ [] ∷ [] ∷ [] ∷ (10 ∷ []) ∷ []; allocated = [] ∷ [] ∷ [] ∷ [] ∷ (0 ∷ []) ∷ [] }
unfolding walked_by
slip_trusts_the_slot = refl

-- the house rule finds a fault at either use
pub house_finds_both : map (λ xs. (walked_by house (sheet_of 2 1 []) xs).found) (changed_steps ∷ kept_steps ∷ [])
    ≡ (none ∷ none ∷ none ∷ none ∷ some (unknown_value_in_reg (some 0)) ∷ []) ∷ (none ∷ none ∷ none ∷ none ∷ some (unknown_value_in_reg (some 0)) ∷ []) ∷ []
unfolding walked_by
house_finds_both = refl
