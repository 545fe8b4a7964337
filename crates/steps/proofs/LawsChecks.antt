-- The checks: one turn of a search, and what the errors on packed words mean.
use Rattle.std.specs.Prelude.{Ok, Err}
use Rattle.std.proofs.Common.{drop, drop-cons, drop_of_length-le, add-one}
use Rattle.std.specs.Result.{result_and}
use mathlib.Core.Path.{◌≡◌, refl, sym, ap, ap₂, ◌∙◌}
use mathlib.Core.Bool.{Bool, true, false, cond}
use mathlib.Core.List.{List, [], ◌∷◌, map}
use mathlib.Core.Option.{some}
use Prim.Native.Nat.{ℕ, ◌+◌, ◌-◌, ◌/◌, ◌%◌, ◌^◌, ◌≤◌, ◌<◌}
use native.Mathlib.Nat.{zero-add}
use native.Mathlib.Omega.{arith}
use borrow.Author.Tests.{eq-eqb, ne_eqb}
use lib.ListN.{length, get_or}
use lib.Count.{count_trailing_zeros}
use Rattle.lists.specs.Region.{region}
use Rattle.lists.specs.Regions.{All, all_region}
use Rattle.lists.specs.Split.{by_equal}
use Rattle.lists.specs.Bits.{set_bits, no_bits, lowest, set_bits_below}
use Rattle.paper.specs.Cells.{named}
use Rattle.paper.specs.Steps as paper
use Rattle.paper.specs.Steps.{slot, get, location_of, first_of, check_use, check_uses, check_change, check_slot, check_slots}
use Rattle.cells.specs.Packed.{name_of_word, marked, cell_of}
use Rattle.cells.specs.States.{state_of}
use Rattle.cells.specs.Laws.{pick_name, pick_other, same_name, is_named, unnamed, state_cell}
use Rattle.loaded.specs.Actions.{no_register, register_of, operand_of, operands}
use Rattle.steps.specs.Faults.{error_fault, fault_of}
use Rattle.steps.specs.Checks.{CheckResult, use_error, change_error, slot_error, first_error, use_in, slot_in}
use Rattle.steps.specs.declared.CheckerError.TheVariants.{StackMapSpecifiesNonRefSlot}

-- one turn of a search: what is wrong with the first ends it, and where nothing is, the rest decides
abbrev pub Turn : CheckResult → CheckResult → CheckResult → Type 0
Turn whole (Ok u) rest = whole ≡ rest
Turn whole (Err error) rest = whole ≡ Err error

turned : (whole first rest : CheckResult) → whole ≡ result_and first rest → Turn whole first rest
turned whole (Ok u) rest e = e
turned whole (Err error) rest e = e

-- the search over words, from the i-th on
module _ (f : ℕ → CheckResult) (words : List ℕ) (i : ℕ) where
  pub no_use : length words ≤ i → Ok tt ≡ first_error f (drop i words)
  unfolding first_error
  no_use h = rw (drop_of_length-le words h)

  pub next_use : i < length words → Turn (first_error f (drop i words)) (f (get_or words i 0)) (first_error f (drop (i + 1) words))
  unfolding first_error
  next_use h = turned _ _ _ (rw (drop-cons words i 0 h, add-one))

-- the search over the bits of a mask
module _ (f : ℕ → CheckResult) (mask : ℕ) where
  pub no_slot : mask ≡ 0 → Ok tt ≡ first_error f (set_bits mask)
  unfolding first_error
  no_slot e = rw (e, no_bits)

  pub next_slot : (mask ≡ 0 → ⊥) → mask < 2 ^ 32
      → Turn (first_error f (set_bits mask)) (f (count_trailing_zeros 32 mask)) (first_error f (set_bits (mask - 2 ^ count_trailing_zeros 32 mask)))
  unfolding first_error set_bits
  next_slot d h = turned _ _ _ (rw (lowest 32 0 mask (omega arith) h, zero-add))

-- what an error means
fault_and : (r later : CheckResult) → fault_of (result_and r later) ≡ first_of (fault_of r) (fault_of later)
unfolding fault_of first_of
fault_and (Ok u) later = refl
fault_and (Err e) later = refl

low_name : (w : ℕ) → name_of_word (w % 512) ≡ name_of_word w
low_name w = same_name (w % 512) w (omega arith)

use_means : (u w : ℕ) → fault_of (use_error u w) ≡ check_use (operand_of u) (cell_of w)
unfolding use_error fault_of error_fault check_use operand_of
use_means u w =
    by_equal (w / 1024 % 4) 3
    (λ k.
    by_equal (w % 512) (u % 512)
    (λ e. rw (eq-eqb _ _ k, eq-eqb _ _ e, is_named w k) (sym (pick_name w u _ _ e)))
    λ d. rw (eq-eqb _ _ k, ne_eqb _ _ d, is_named w k, low_name u, low_name w) (sym (pick_other w u _ _ d)))
    λ d. rw (ne_eqb _ _ d) (unnamed (λ c. some (paper.unknown_value_in_reg (register_of (u / 1024)))) (check_use (operand_of u)) refl refl refl w d)

change_means : (k from w : ℕ) → fault_of (change_error k from w) ≡ check_change k (name_of_word from) (cell_of w)
unfolding change_error fault_of error_fault check_change
change_means k from w =
    by_equal (w / 1024 % 4) 3
    (λ e3.
    by_equal (w % 512) (from % 512)
    (λ e. rw (eq-eqb _ _ e3, eq-eqb _ _ e, is_named w e3) (sym (pick_name w from _ _ e)))
    λ d. rw (eq-eqb _ _ e3, ne_eqb _ _ d, is_named w e3, low_name from, low_name w) (sym (pick_other w from _ _ d)))
    λ d. rw (ne_eqb _ _ d, low_name from) (unnamed (λ c. some (paper.unknown_value_in_slot k (name_of_word from))) (check_change k (name_of_word from)) refl refl refl w d)

slot_means : (k w : ℕ) → fault_of (slot_error k w) ≡ check_slot k (cell_of w)
unfolding slot_error fault_of error_fault check_slot
slot_means k w =
    by_equal (w / 1024 % 4) 3
    (λ e3. rw (eq-eqb _ _ e3, is_named w e3) (go (marked w)))
    λ d. rw (ne_eqb _ _ d) (unnamed (λ c. some (paper.stack_map_specifies_undefined_slot k)) (check_slot k) refl refl refl w d)
  where
    go : (m : Bool) → fault_of (cond m (Ok tt) (Err (StackMapSpecifiesNonRefSlot k))) ≡ check_slot k (named (name_of_word w) m)
    go true = refl
    go false = refl

-- the uses, and the listed slots, in a state whose row they were checked in
module _ (counts : List ℕ) (s : List (List ℕ)) where
  register_cell : (r : ℕ) → (r ≡ no_register → ⊥) → r < get_or counts 0 0 → get (state_of counts s) (location_of (register_of r)) ≡ cell_of (get_or (get_or s 0 []) r 0)
  unfolding register_of location_of get
  register_cell r d h = rw (ne_eqb _ _ d) (state_cell counts s 0 r h)

  slot_cell : (k : ℕ) → k < get_or counts 1 0 → get (state_of counts s) (slot k) ≡ cell_of (get_or (get_or s 1 []) k 0)
  unfolding get
  slot_cell k h = state_cell counts s 1 k h

  uses_list : (us : List ℕ) → All (λ u. (u / 1024 ≡ no_register → ⊥) × (u / 1024 < get_or counts 0 0)) us
      → fault_of (first_error (use_in (get_or s 0 [])) us) ≡ check_uses (map operand_of us) (state_of counts s)
  unfolding All first_error check_uses fault_of operand_of
  uses_list [] a = refl
  uses_list (u ∷ us) a =
      fault_and (use_in (get_or s 0 []) u) (first_error (use_in (get_or s 0 [])) us)
      ∙ ap₂ first_of
      (use_means u (get_or (get_or s 0 []) (u / 1024) 0) ∙ ap (check_use (operand_of u)) (sym (register_cell (u / 1024) a.0.0 a.0.1)))
      (uses_list us a.1)

  pub uses_mean : (words : List ℕ) (at n : ℕ) → at + n ≤ length words
      → ((i : ℕ) → i < n → get_or words (at + i) 0 / 1024 < 32) → ((i : ℕ) → i < n → get_or words (at + i) 0 / 1024 < get_or counts 0 0)
      → fault_of (first_error (use_in (get_or s 0 [])) (region at n words)) ≡ check_uses (operands at n words) (state_of counts s)
  unfolding operands
  uses_mean words at n room small below =
      uses_list (region at n words)
      (all_region (λ u. (u / 1024 ≡ no_register → ⊥) × (u / 1024 < get_or counts 0 0)) at n words room
      λ i h. let q = small i h in (λ e. omega arith, below i h))

  slots_list : (ks : List ℕ) → All (λ k. k < get_or counts 1 0) ks → fault_of (first_error (slot_in (get_or s 1 [])) ks) ≡ check_slots ks (state_of counts s)
  unfolding All first_error check_slots fault_of
  slots_list [] a = refl
  slots_list (k ∷ ks) a =
      fault_and (slot_in (get_or s 1 []) k) (first_error (slot_in (get_or s 1 [])) ks)
      ∙ ap₂ first_of (slot_means k (get_or (get_or s 1 []) k 0) ∙ ap (check_slot k) (sym (slot_cell k a.0))) (slots_list ks a.1)

  pub slots_mean : (mask : ℕ) → mask < 2 ^ get_or counts 1 0
      → fault_of (first_error (slot_in (get_or s 1 [])) (set_bits mask)) ≡ check_slots (set_bits mask) (state_of counts s)
  slots_mean mask h = slots_list (set_bits mask) (set_bits_below mask (get_or counts 1 0) h)

  pub change_means_in : (k from : ℕ) → k < get_or counts 1 0
      → fault_of (change_error k from (get_or (get_or s 1 []) k 0)) ≡ check_change k (name_of_word from) (get (state_of counts s) (slot k))
  change_means_in k from h = change_means k from (get_or (get_or s 1 []) k 0) ∙ ap (check_change k (name_of_word from)) (sym (slot_cell k h))
