-- Each rule's meet of states; every house effect, a block's too, distributes over the house meet. States are lists of rows: each law is the
-- law of rows twice.
use Rattle.std.specs.Prelude.{◌≡◌, Bool, ℕ, suc, zero, get_or, set}
use Rattle.std.proofs.Math.Path.{refl, ap}
use Rattle.std.proofs.Common.{sym, ◌∙◌}
use mathlib.Core.List.{List, [], ◌∷◌, map}
use Rattle.paper.specs.Text.{Name}
use Rattle.paper.specs.Sheet.{Operand, Step, spill, reload, move, change, operation, safepoint, Sheet, listed, steps_of, reference_typed}
use Rattle.paper.specs.Cells.{Cell, absent, named, meet, copied, overwritten, house_changed, collected}
use Rattle.paper.specs.Steps.{State, Location, at, nowhere, register, slot, cell_at, store_at, get, put, location_of, copy, everywhere, safepoint_row, house_define, house_effect, effect, effects}
use Rattle.paper.specs.Runs.{pointwise, meet_states, flow}
use Rattle.paper.specs.declared.Rule.{Rule}
use Rattle.paper.specs.declared.Rule.TheVariants.{House}
use Rattle.walks.specs.Rows.{both_idem, both_comm, both_assoc, both_none, Spreads, both_map, both_placed, both_set, both_getD}
use Rattle.walks.specs.Meet.{house_idem, cell_idem, cell_comm, cell_assoc, absent_left, absent_right, copied_spreads, overwritten_spreads, changed_spreads, collected_spreads, listed_spreads}
use Rattle.walks.specs.Passing.{Semilattice}
use Rattle.walks.specs.Flow.{Laws}

module _ (rule : Rule) where
  pub states_idem : (s : State) → meet_states rule s s ≡ s
  unfolding meet_states
  states_idem = both_idem (pointwise (meet rule)) (both_idem (meet rule) (cell_idem rule))

  pub states_comm : (s t : State) → meet_states rule s t ≡ meet_states rule t s
  unfolding meet_states
  states_comm = both_comm (pointwise (meet rule)) (both_comm (meet rule) (cell_comm rule))

  pub states_assoc : (s t u : State) → meet_states rule (meet_states rule s t) u ≡ meet_states rule s (meet_states rule t u)
  unfolding meet_states
  states_assoc = both_assoc (pointwise (meet rule)) (both_assoc (meet rule) (cell_assoc rule))

  pub meet_laws : (S : Sheet) → Semilattice (flow rule S)
  unfolding flow
  meet_laws S = record { assoc = states_assoc; comm = states_comm; idem = states_idem }

row_at : (s t : State) (r : ℕ) → get_or (meet_states House s t) r [] ≡ pointwise (meet House) (get_or s r []) (get_or t r [])
unfolding meet_states pointwise
row_at s t r = both_getD (pointwise (meet House)) [] (λ a. refl) (both_none (meet House)) s t r

cell_meet : (s t : State) (r i : ℕ) → cell_at (meet_states House s t) r i ≡ meet House (cell_at s r i) (cell_at t r i)
cell_meet s t r i = rw (row_at s t r) (both_getD (meet House) absent absent_left absent_right (get_or s r []) (get_or t r []) i)

store_meet : (r i : ℕ) (x y : Cell) (s t : State) → store_at r i (meet House x y) (meet_states House s t) ≡ meet_states House (store_at r i x s) (store_at r i y t)
unfolding meet_states
store_meet r i x y s t =
    rw (row_at s t r, both_set (meet House) (get_or s r []) (get_or t r []) i x y)
    (both_set (pointwise (meet House)) s t r (set (get_or s r []) i x) (set (get_or t r []) i y))

pub get_meet : (s t : State) (l : Location) → get (meet_states House s t) l ≡ meet House (get s l) (get t l)
unfolding get
get_meet s t (at row place) = cell_meet s t row place
get_meet s t nowhere = sym (absent_left absent)

put_meet : (l : Location) (x y : Cell) (s t : State) → put l (meet House x y) (meet_states House s t) ≡ meet_states House (put l x s) (put l y t)
unfolding put
put_meet (at row place) x y s t = store_meet row place x y s t
put_meet nowhere x y s t = refl

everywhere_meet : (f : Cell → Cell) → Spreads (meet House) f → Spreads (meet_states House) (everywhere f)
unfolding everywhere meet_states
everywhere_meet f d = both_map (pointwise (meet House)) (map f) (both_map (meet House) f d)

copy_meet : (into from : Location) → Spreads (meet_states House) (copy into from)
unfolding copy
copy_meet into from s t = cc (get_meet s t from, copied_spreads (get s from) (get t from), put_meet into (copied (get s from)) (copied (get t from)) s t)

collect_meet : (slots : List ℕ) (r : ℕ) → Spreads (pointwise (meet House)) (safepoint_row House slots r)
unfolding safepoint_row
collect_meet slots zero = both_map (meet House) (collected House) collected_spreads
collect_meet slots (suc zero) = both_placed (meet House) _ (λ i. listed_spreads (listed slots i))
collect_meet slots (suc (suc r)) = both_map (meet House) (collected House) collected_spreads

module _ (ref : Name → Bool) where
  define_meet : (defs : List Operand) → Spreads (meet_states House) (house_define ref defs)
  unfolding house_define
  define_meet [] s t = refl
  define_meet (d ∷ ds) s t =
      let c = named d.name (ref d.name) in
      let f = overwritten d.name in
      let l = location_of d.reg in
      ap (house_define ref ds) (cc (everywhere_meet f (overwritten_spreads d.name) s t, house_idem c, put_meet l c c (everywhere f s) (everywhere f t)))
      ∙ define_meet ds (put l c (everywhere f s)) (put l c (everywhere f t))

  pub effect_distributes : (x : Step) → Spreads (meet_states House) (effect House ref x)
  unfolding effect house_effect meet_states
  effect_distributes (spill k r) s t = copy_meet (slot k) (register r) s t
  effect_distributes (reload r k) s t = copy_meet (register r) (slot k) s t
  effect_distributes (move into from) s t = copy_meet (register into) (register from) s t
  effect_distributes (change inst k from to) s t =
      let f = overwritten to in
      let g = house_changed from to in
      cc (
        get_meet s t (slot k),
        changed_spreads from to (get s (slot k)) (get t (slot k)),
        everywhere_meet f (overwritten_spreads to) s t,
        put_meet (slot k) (g (get s (slot k))) (g (get t (slot k))) (everywhere f s) (everywhere f t),
      )
  effect_distributes (operation inst uses defs) s t = define_meet defs s t
  effect_distributes (safepoint inst slots) s t = both_placed (pointwise (meet House)) (safepoint_row House slots) (collect_meet slots) s t

  pub effects_distribute : (xs : List Step) → Spreads (meet_states House) (effects House ref xs)
  unfolding effects
  effects_distribute [] s t = refl
  effects_distribute (x ∷ xs) s t = ap (effects House ref xs) (effect_distributes x s t) ∙ effects_distribute xs (effect House ref x s) (effect House ref x t)

pub house_laws : (S : Sheet) → Laws (flow House S)
unfolding flow
house_laws S = record {
  meets = meet_laws House S;
  distributes = λ b. effects_distribute (reference_typed S) (steps_of S b);
}
