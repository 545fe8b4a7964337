-- What a reader, a run and a report need of a step's numbers: its operands lie in the words, and where no allocation is missing
-- it is in range.
use Rattle.std.specs.Prelude.{◌≡◌, refl, Bool, true, false, ◌⊎◌, List, [], ◌∷◌, map, ℕ, ◌+◌, ◌/◌, ◌^◌, ◌≤◌, ◌<◌, eqb, length}
use Rattle.std.proofs.Math.Logic.{⊎_elim}
use Rattle.std.proofs.Common.{arith, eq-eqb, pow_mono}
use Rattle.std.proofs.Math.ListN.{get_or}
use Rattle.lists.specs.Region.{region}
use Rattle.lists.specs.Regions.{All, all_at}
use Rattle.paper.specs.Report.{unallocated, first_list, missing_names}
use Rattle.layout.specs.Layout.{defs_from, row_words, row_widths}
use Rattle.cells.specs.States.{RowsFit}
use Rattle.cells.specs.Laws.{narrow_at}
use Rattle.loaded.specs.Actions.{rows_of, no_register, register_of, operand_of, operands, step_of, action_at, ActionWithin, Ranged, InRange, RoomFor, Runnable}
use Rattle.loaded.specs.declared.Action.{Action}
use Rattle.loaded.specs.declared.Action.TheVariants.{Copy, Change, Operation, Safepoint}

-- what is in range of fewer cells is in range of the most
pub in_range_most : (counts words : List ℕ) (a : Action) → RowsFit counts → InRange counts words a → InRange row_widths words a
in_range_most counts words a fit h = most a h
  where
    regs : get_or counts 0 0 ≤ row_words
    regs = narrow_at row_widths counts fit 0

    slots : get_or counts 1 0 ≤ row_words
    slots = narrow_at row_widths counts fit 1

    most : (a : Action) → InRange counts words a → InRange row_widths words a
    most (Copy kind into from) h =
        (omega (arith, narrow_at row_widths counts fit (rows_of kind).into), omega (arith, narrow_at row_widths counts fit (rows_of kind).from))
    most (Change inst k from to) h = omega (arith, slots)
    most (Operation inst at n m) h =
        (h.0, h.1, h.2, λ i q. let b = h.3 i q in omega (arith, regs), λ i q. let b = h.4 i q in omega (arith, regs))
    most (Safepoint inst mask) h = let p : 2 ^ get_or counts 1 0 ≤ 2 ^ row_words = pow_mono slots in omega arith

pub runnable_most : {counts words : List ℕ} {first count : ℕ} → Runnable counts words first count → Runnable row_widths words first count
runnable_most {counts} {words} r = record {
  rows_fit = (omega arith, (omega arith, tt));
  steps_fit = r.steps_fit;
  words_fit = r.words_fit;
  in_range = λ k lo hi. in_range_most counts words (action_at words k) r.rows_fit (r.in_range k lo hi);
}

-- a step that was read has room for its operands
pub room_within : (counts : List ℕ) (Register : ℕ → Type 0) (l : List ℕ) (a : Action) → ActionWithin counts Register l a → RoomFor a l
room_within counts Register l (Copy kind into from) w = tt
room_within counts Register l (Change inst slot from to) w = tt
room_within counts Register l (Operation inst at uses defs) w = (w.0, w.1, w.2)
room_within counts Register l (Safepoint inst mask) w = tt

-- what stands for a register as a sheet is read: one below the count, or none
abbrev pub MayStand : List ℕ → ℕ → Type 0
MayStand counts r = (r < get_or counts 0 0) ⊎ (r ≡ no_register)

-- where no allocation is missing, no register is none
pub both_none : {A : Type 0} (a b : List A) → first_list a b ≡ [] → (a ≡ []) × (b ≡ [])
unfolding first_list
both_none [] b e = (refl, e)
both_none (x ∷ a) b e = let z : ◌≡◌ {A = ℕ} 0 1 = cc in absurd (omega arith)

all_allocated : (ws : List ℕ) → unallocated (map operand_of ws) ≡ [] → All (λ w. w / 1024 ≡ no_register → ⊥) ws
unfolding unallocated operand_of register_of All
all_allocated [] e = tt
all_allocated (w ∷ ws) e = (
  (λ q. let z : ◌≡◌ {A = ℕ} 0 1 = cc (rw (eq-eqb _ _ q) at e) in omega arith),
  all_allocated ws (later (eqb (w / 1024) no_register) refl),
)
  where
    later : (x : Bool) → eqb (w / 1024) no_register ≡ x → unallocated (map operand_of ws) ≡ []
    later true h = let z : ◌≡◌ {A = ℕ} 0 1 = cc (rw h at e) in absurd (omega arith)
    later false h = rw h at e

module _ (regs : ℕ) (words : List ℕ) (at n : ℕ) (room : at + n ≤ length words) (e : unallocated (operands at n words) ≡ []) where
  has_register : ((i : ℕ) → i < n → (get_or words (at + i) 0 / 1024 < regs) ⊎ (get_or words (at + i) 0 / 1024 ≡ no_register)) → (i : ℕ) → i < n → get_or words (at + i) 0 / 1024 < regs
  unfolding operands
  has_register r i h =
      let d : get_or words (at + i) 0 / 1024 ≡ no_register → ⊥ = all_at (λ w. w / 1024 ≡ no_register → ⊥) n at words room (all_allocated (region at n words) e) i h in
      ⊎_elim (λ b. b) (λ q. absurd (d q)) (r i h)

pub allocated : (counts words : List ℕ) (a : Action) → Ranged counts words a → missing_names (step_of words a) ≡ [] → InRange counts words a
unfolding missing_names step_of
allocated counts words (Copy kind into from) h e = h
allocated counts words (Change inst k from to) h e = h
allocated counts words (Operation inst at n m) h e =
    let p : (unallocated (operands at n words) ≡ []) × (unallocated (operands (at + defs_from) m words) ≡ []) = both_none _ _ e in
    (h.0, h.1, h.2, has_register (get_or counts 0 0) words at n (omega arith) p.0 h.3, has_register (get_or counts 0 0) words (at + defs_from) m (omega arith) p.1 h.4)
allocated counts words (Safepoint inst mask) h e = h
