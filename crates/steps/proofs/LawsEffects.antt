-- The effects: defs one after the other, a step, and the steps of a block.
use Rattle.std.proofs.Common.{drop, drop-cons, drop_of_length-le, add-one}
use mathlib.Core.Path.{◌≡◌, refl, ◌∙◌}
use mathlib.Core.Bool.{Bool}
use mathlib.Core.List.{List, [], ◌∷◌, map}
use Prim.Native.Nat.{ℕ, zero, suc, ◌+◌, ◌-◌, ◌/◌, ◌%◌, ◌≤◌, ◌<◌}
use native.Mathlib.Omega.{arith}
use borrow.Author.Tests.{ne_eqb}
use lib.ListN.{length, get_or, set}
use Rattle.lists.specs.Region.{region}
use Rattle.lists.specs.Regions.{All, all_region}
use Rattle.lists.specs.Bits.{set_bits}
use Rattle.paper.specs.Text.{Name}
use Rattle.paper.specs.Sheet as sheet
use Rattle.paper.specs.Sheet.{Operand}
use Rattle.paper.specs.Cells.{named, overwritten, copied, house_changed, old_changed}
use Rattle.paper.specs.Steps.{State, get, put, copy, cell_at, store_at, location_of, everywhere, by_place, safepoint_row, old_define, house_define, old_effect, house_effect, effect, effects}
use Rattle.paper.specs.declared.Rule.{Rule}
use Rattle.paper.specs.declared.Rule.TheVariants.{Old, House}
use Rattle.layout.specs.Layout.{defs_from, row_words, row_widths}
use Rattle.cells.specs.Packed.{name_of_word, marked, cell_of}
use Rattle.cells.specs.States.{state_of}
use Rattle.cells.specs.Laws.{made, state_cell, state_store}
use Rattle.loaded.specs.declared.CopyKind.{CopyKind}
use Rattle.loaded.specs.declared.CopyKind.TheVariants.{Spill, Reload, Move}
use Rattle.loaded.specs.declared.CopyRows.{CopyRows}
use Rattle.loaded.specs.Actions.{rows_of, copy_step, no_register, register_of, operand_of, operands, step_of, action_at, steps_at}
use Rattle.steps.specs.Defs.{cleared_of, define_word, define_words}

-- the rows of a copy are rows of a state, and its numbers cells of them
pub copy_room : {rows : CopyRows} (kind : CopyKind) (into from : ℕ) → rows ≡ rows_of kind
    → into < get_or row_widths (rows_of kind).into 0 → from < get_or row_widths (rows_of kind).from 0
    → (rows.into < 2) × (into < row_words) × (rows.from < 2) × (from < row_words)
unfolding rows_of
copy_room Spill into from e a b = rw e (omega arith, omega arith, omega arith, omega arith)
copy_room Reload into from e a b = rw e (omega arith, omega arith, omega arith, omega arith)
copy_room Move into from e a b = rw e (omega arith, omega arith, omega arith, omega arith)

-- one def: t is what the rule leaves of the state before the register is written
pub defined : (counts : List ℕ) (rule : Rule) (w r : ℕ) (S : State) (t : List (List ℕ)) → r ≡ w / 1024 → (w / 1024 ≡ no_register → ⊥)
    → state_of counts t ≡ cleared_of rule (name_of_word w) S
    → state_of counts (set t 0 (set (get_or t 0 []) r (3072 + w % 1024))) ≡ define_word rule w S
unfolding define_word register_of location_of put
defined counts rule w r S t er d e =
    let cell : cell_of (3072 + w % 1024) ≡ named (name_of_word w) (marked w) = made (3072 + w % 1024) w w (omega arith) (omega arith) (omega arith) in
    rw (er, ne_eqb _ _ d, ← e, ← cell) (state_store counts t 0 (w / 1024) (3072 + w % 1024))

pub cleared_old : (n : Name) (S : State) → S ≡ cleared_of Old n S
unfolding cleared_of
cleared_old n S = refl

pub cleared_house : (n : Name) (S : State) → everywhere (overwritten n) S ≡ cleared_of House n S
unfolding cleared_of
cleared_house n S = refl

-- the defs of words, from the i-th on
module _ (rule : Rule) (words : List ℕ) (i : ℕ) (S : State) where
  pub no_def : length words ≤ i → define_words rule (drop i words) S ≡ S
  unfolding define_words
  no_def h = rw (drop_of_length-le words h)

  pub next_def : i < length words → define_words rule (drop (i + 1) words) (define_word rule (get_or words i 0) S) ≡ define_words rule (drop i words) S
  unfolding define_words
  next_def h = rw (drop-cons words i 0 h, add-one)

abbrev define : Rule → (Name → Bool) → List Operand → State → State
define Old ref ds S = old_define ref ds S
define House ref ds S = house_define ref ds S

honest_list : (rule : Rule) (ref : Name → Bool) (ws : List ℕ) (S : State) → All (λ w. ref (name_of_word w) ≡ marked w) ws → define_words rule ws S ≡ define rule ref (map operand_of ws) S
unfolding All define_words define_word cleared_of old_define house_define operand_of
honest_list Old ref [] S a = refl
honest_list House ref [] S a = refl
honest_list Old ref (w ∷ ws) S a = rw (← a.0) (honest_list Old ref ws _ a.1)
honest_list House ref (w ∷ ws) S a = rw (← a.0) (honest_list House ref ws _ a.1)

-- each effect of the code is the paper's, under either rule
module _ (rule : Rule) (ref : Name → Bool) (S : State) where
  by_rule : (x : sheet.Step) (T : Rule → State) → T Old ≡ old_effect ref x S → T House ≡ house_effect ref x S → T rule ≡ effect rule ref x S
  unfolding effect
  by_rule x T o h = go rule
    where
      go : (rule : Rule) → T rule ≡ effect rule ref x S
      go Old = o
      go House = h

  spill_effect : (k r : ℕ) → store_at 1 k (copied (cell_at S 0 r)) S ≡ effect rule ref (sheet.spill k r) S
  unfolding old_effect house_effect copy put get
  spill_effect k r = by_rule (sheet.spill k r) (λ _. store_at 1 k (copied (cell_at S 0 r)) S) refl refl

  reload_effect : (r k : ℕ) → store_at 0 r (copied (cell_at S 1 k)) S ≡ effect rule ref (sheet.reload r k) S
  unfolding old_effect house_effect copy put get
  reload_effect r k = by_rule (sheet.reload r k) (λ _. store_at 0 r (copied (cell_at S 1 k)) S) refl refl

  move_effect : (into from : ℕ) → store_at 0 into (copied (cell_at S 0 from)) S ≡ effect rule ref (sheet.move into from) S
  unfolding old_effect house_effect copy put get
  move_effect into from = by_rule (sheet.move into from) (λ _. store_at 0 into (copied (cell_at S 0 from)) S) refl refl

  -- a copy, by its rows
  pub copy_effect : {rows : CopyRows} (kind : CopyKind) (into from : ℕ) → rows ≡ rows_of kind
      → store_at rows.into into (copied (cell_at S rows.from from)) S ≡ effect rule ref (copy_step kind into from) S
  unfolding rows_of copy_step
  copy_effect Spill into from e = rw e (spill_effect into from)
  copy_effect Reload into from e = rw e (reload_effect into from)
  copy_effect Move into from e = rw e (move_effect into from)

  pub safepoint_effect : (inst mask : ℕ) → by_place (safepoint_row rule (set_bits mask)) S ≡ effect rule ref (sheet.safepoint inst (set_bits mask)) S
  unfolding old_effect house_effect
  safepoint_effect inst mask = by_rule (sheet.safepoint inst (set_bits mask)) (λ r. by_place (safepoint_row r (set_bits mask)) S) refl refl

  pub operation_effect : (words : List ℕ) (inst at n m : ℕ) → at + defs_from + m ≤ length words
      → ((i : ℕ) → i < m → ref (name_of_word (get_or words (at + defs_from + i) 0)) ≡ marked (get_or words (at + defs_from + i) 0))
      → define_words rule (region (at + defs_from) m words) S ≡ effect rule ref (sheet.operation inst (operands at n words) (operands (at + defs_from) m words)) S
  unfolding operands old_effect house_effect
  operation_effect words inst at n m room honest =
      let defs : List Operand = map operand_of (region (at + defs_from) m words) in
      honest_list rule ref (region (at + defs_from) m words) S (all_region (λ w. ref (name_of_word w) ≡ marked w) (at + defs_from) m words room honest)
      ∙ by_rule (sheet.operation inst (map operand_of (region at n words)) defs) (λ r. define r ref defs S) refl refl

-- an ownership change of the slot k
module _ (counts : List ℕ) (s : List (List ℕ)) (k from to : ℕ) (h : k < get_or counts 1 0) (ref : Name → Bool) (inst : ℕ) where
  abbrev change : sheet.Step
  change = sheet.change inst k (name_of_word from) (name_of_word to)

  pub old_change : (v : ℕ) → cell_of v ≡ old_changed (name_of_word to) (cell_of (get_or (get_or s 1 []) k 0))
      → state_of counts (set s 1 (set (get_or s 1 []) k v)) ≡ effect Old ref change (state_of counts s)
  unfolding effect old_effect put get
  old_change v e = rw (state_cell counts s 1 k h, ← e) (state_store counts s 1 k v)

  pub house_change : (v : ℕ) (t : List (List ℕ)) → cell_of v ≡ house_changed (name_of_word from) (name_of_word to) (cell_of (get_or (get_or s 1 []) k 0))
      → state_of counts t ≡ everywhere (overwritten (name_of_word to)) (state_of counts s)
      → state_of counts (set t 1 (set (get_or t 1 []) k v)) ≡ effect House ref change (state_of counts s)
  unfolding effect house_effect put get
  house_change v t e et = rw (state_cell counts s 1 k h, ← e, ← et) (state_store counts t 1 k v)

-- the steps of a block
steps_cons : (words : List ℕ) (k n : ℕ) → 0 < n → steps_at words k n ≡ step_of words (action_at words k) ∷ steps_at words (k + 1) (n - 1)
unfolding steps_at
steps_cons words k zero p = absurd (omega arith)
steps_cons words k (suc n) p = let e : suc n - 1 ≡ n = omega arith in rw e

module _ (rule : Rule) (ref : Name → Bool) (words : List ℕ) (k left : ℕ) (S : State) where
  pub no_step : left ≤ 0 → S ≡ effects rule ref (steps_at words k left) S
  unfolding effects steps_at
  no_step h = let e : left ≡ 0 = omega arith in rw e

  pub next_step : 0 < left → effects rule ref (steps_at words (k + 1) (left - 1)) (effect rule ref (step_of words (action_at words k)) S) ≡ effects rule ref (steps_at words k left) S
  unfolding effects
  next_step p = rw (steps_cons words k left p)
