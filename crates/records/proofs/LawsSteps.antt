-- The lines `C`, `O` and `P`: their fields one after the other, and what is tested of them.
use mathlib.Core.Path.{◌≡◌, refl, sym, ◌∙◌}
use mathlib.Core.Bool.{Bool, false, not, ◌||◌, beq}
use mathlib.Core.List.{List}
use mathlib.Core.Option.{Option, none, some}
use Prim.Native.Nat.{ℕ, ◌≤◌, ◌<◌}
use borrow.Author.Tests.{leb-false, ltb-false}
use native.Mathlib.Omega.{arith}
use lib.Pow.{pow_mono}
use lib.Dec.{leb, ltb}
use lib.ListN.{get_or}
use Rattle.lists.specs.Split.{or_left, or_right}
use Rattle.paper.specs.Text.{Bytes, line_feed, number_of, Name, name_of}
use Rattle.paper.specs.Sheet.{Sheet, change, operation, safepoint}
use Rattle.paper.specs.Refusals.{step_record, next, ended, change_of, operation_of, safepoint_of, counted_operands_of, numbers_of, name_beyond, step_beyond, step_out_of_order, beyond_limit, out_of_order, real_elsewhere, types_differ, so_far_of}
use Rattle.fields.specs.Fields.{fields_behind}
use Rattle.lists.specs.Bits.{set_bits}
use Rattle.cells.specs.Packed.{name_of_word}
use Rattle.loaded.specs.declared.Counts.{Counts}
use Rattle.records.specs.declared.Place.{Place}
use Rattle.records.specs.declared.Operands.{Operands}
use Rattle.records.specs.declared.Listed.{Listed}
use Rattle.records.specs.Records.{Ends, Next, name_of_code, Placed, CountsWithin, Counted, TypedBy, ChangeWithin, SafepointWithin}
use Rattle.records.specs.Parts.{counted, is_typed, name_word, SlotsListed, GroupRead}
use Rattle.records.proofs.LawsPlaces.{none_left, not_ended, ends_here}
use Rattle.records.proofs.LawsGroups.{name_limit}
use Rattle.records.proofs.LawsTold.{Clear, Tested}
use Rattle.records.proofs.LawsWords.{name_fits, virtual_fits, name_word_means, is_typed_right}

-- `C`

pub change_no_inst : (s : Bytes) (at : ℕ) → next number_of (fields_behind s at) ≡ none → change_of (fields_behind s at) ≡ none
unfolding change_of
change_no_inst s at e = rw e

module _ {s : Bytes} {at inst a : ℕ} (i : Next number_of s at inst a) where
  pub change_no_slot : next number_of (fields_behind s a) ≡ none → change_of (fields_behind s at) ≡ none
  unfolding change_of
  change_no_slot e = rw (i.says, e)

  module _ {slot b : ℕ} (k : Next number_of s a slot b) where
    pub change_no_from : next name_of (fields_behind s b) ≡ none → change_of (fields_behind s at) ≡ none
    unfolding change_of
    change_no_from e = rw (i.says, k.says, e)

    module _ {from : Name} {c : ℕ} (f : Next name_of s b from c) where
      pub change_no_to : next name_of (fields_behind s c) ≡ none → change_of (fields_behind s at) ≡ none
      unfolding change_of
      change_no_to e = rw (i.says, k.says, f.says, e)

      module _ {to : Name} {d : ℕ} (t : Next name_of s c to d) where
        pub change_too_long : (get_or s d 0 ≡ line_feed → ⊥) → change_of (fields_behind s at) ≡ none
        unfolding change_of
        change_too_long e = rw (i.says, k.says, f.says, t.says, not_ended t.behind (step_record (change inst slot from to)) e)

        pub change_says : get_or s d 0 ≡ line_feed → change_of (fields_behind s at) ≡ some (step_record (change inst slot from to))
        unfolding change_of ended
        change_says e = rw (i.says, k.says, f.says, t.says, none_left t.behind e)

        pub change_ends : get_or s d 0 ≡ line_feed → Ends s at d
        change_ends e = ends_here t.behind (t.line ∙ f.line ∙ k.line ∙ i.line) e

-- a `C` within the counts
pub record ChangeInside (counts : Counts) (inst slot from to : ℕ) : Type 0 where
  pub inst_most : inst ≤ 65535
  pub slot_below : slot < counts.slots
  pub from_fits : name_word from < 512
  pub to_fits : name_word to < 512
  pub from_means : name_of_word (name_word from) ≡ name_of_code from
  pub to_means : name_of_word (name_word to) ≡ name_of_code to

module _ {counts : Counts} (w : CountsWithin counts) (inst slot from to : ℕ) {bf bt : Bool} (ef : bf ≡ name_beyond (counted counts) (name_of_code from))
    (et : bt ≡ name_beyond (counted counts) (name_of_code to)) where
  module _ (z : (ltb 65535 inst || (leb counts.slots slot || (bf || bt))) ≡ false) where
    names_pass : (bf || bt) ≡ false
    names_pass = or_right (leb counts.slots slot) _ (or_right (ltb 65535 inst) _ z)

    from_passes : name_beyond (counted counts) (name_of_code from) ≡ false
    from_passes = sym ef ∙ or_left bf bt names_pass

    to_passes : name_beyond (counted counts) (name_of_code to) ≡ false
    to_passes = sym et ∙ or_right bf bt names_pass

    pub change_clear : ChangeInside counts inst slot from to
    change_clear = record {
      inst_most = ltb-false 65535 inst (or_left _ _ z);
      slot_below = leb-false counts.slots slot (or_left _ _ (or_right (ltb 65535 inst) _ z));
      from_fits = name_fits w from from_passes;
      to_fits = name_fits w to to_passes;
      from_means = name_word_means from (name_fits w from from_passes) (virtual_fits w from from_passes);
      to_means = name_word_means to (name_fits w to to_passes) (virtual_fits w to to_passes);
    }

  pub change_tested : {so : Option Sheet} {place : Place} {typed : List ℕ} → Placed so (step_record (change inst slot (name_of_code from) (name_of_code to))) place
      → Counted (so_far_of so) counts → TypedBy (so_far_of so) typed → {rf rt : Bool} → rf ≡ is_typed typed from → rt ≡ is_typed typed to
      → Tested so (step_record (change inst slot (name_of_code from) (name_of_code to))) place (ltb 65535 inst || (leb counts.slots slot || (bf || bt))) false false (not (beq rf rt))
  unfolding beyond_limit step_beyond out_of_order step_out_of_order real_elsewhere types_differ
  change_tested {so} p h t erf ert = record {
    placed = p;
    limit = rw (name_limit h (name_of_code from), name_limit h (name_of_code to), h.slots, ef, et);
    order = λ z. refl;
    home = λ z. refl;
    types = λ z. rw (erf, ert, is_typed_right w from (from_passes z) t, is_typed_right w to (to_passes z) t);
  }

pub change_within : {counts : Counts} {inst slot from to from' to' : ℕ} → ChangeInside counts inst slot from to → from' ≡ name_word from → to' ≡ name_word to
    → ChangeWithin counts.slots inst slot from' to'
change_within c e f =
    record { inst_most = c.inst_most; slot_below = c.slot_below; from_word = rw e c.from_fits; to_word = rw f c.to_fits }

-- `P`

pub safepoint_no_inst : (s : Bytes) (at : ℕ) → next number_of (fields_behind s at) ≡ none → safepoint_of (fields_behind s at) ≡ none
unfolding safepoint_of
safepoint_no_inst s at e = rw e

module _ {s : Bytes} {at inst first : ℕ} (i : Next number_of s at inst first) where
  pub safepoint_bad : numbers_of (fields_behind s first) ≡ none → safepoint_of (fields_behind s at) ≡ none
  unfolding safepoint_of
  safepoint_bad e = rw (i.says, e)

  module _ {slots after : ℕ} {l : Listed} (r : SlotsListed s first slots after l) where
    pub safepoint_says : safepoint_of (fields_behind s at) ≡ some (step_record (safepoint inst r.listed_slots))
    unfolding safepoint_of
    safepoint_says = rw (i.says, r.says)

    pub safepoint_ends : Ends s at after
    safepoint_ends = record { place = r.ends.place ∙ i.line; inside = r.ends.inside; feed = r.ends.feed }

    pub safepoint_tested : {counts : Counts} {so : Option Sheet} {place : Place} → Placed so (step_record (safepoint inst r.listed_slots)) place
        → Counted (so_far_of so) counts → slots ≡ counts.slots
        → Tested so (step_record (safepoint inst r.listed_slots)) place (ltb 65535 inst || l.beyond) l.disorder false false
    unfolding beyond_limit step_beyond out_of_order step_out_of_order real_elsewhere types_differ
    safepoint_tested p h k = record {
      placed = p;
      limit = rw (h.slots, ← k, r.listing.beyond_told);
      order = λ z. r.listing.order (or_right (ltb 65535 inst) _ z);
      home = λ z. refl;
      types = λ z. refl;
    }

    module _ {place : Place} (c : Clear place (ltb 65535 inst || l.beyond) l.disorder false false) where
      pub safepoint_bits : set_bits l.mask ≡ r.listed_slots
      safepoint_bits = r.listing.bits (or_right (ltb 65535 inst) _ c.within) c.ordered

      pub safepoint_within : SafepointWithin slots inst l.mask
      safepoint_within =
          let a = pow_mono {i = l.least} {j = slots} r.listing.most in
          record { inst_most = ltb-false 65535 inst (or_left _ _ c.within); mask_below = omega (arith, r.listing.room) }

-- `O`

pub operation_no_inst : (s : Bytes) (at : ℕ) → next number_of (fields_behind s at) ≡ none → operation_of (fields_behind s at) ≡ none
unfolding operation_of
operation_no_inst s at e = rw e

module _ {s : Bytes} {at inst first : ℕ} (i : Next number_of s at inst first) where
  pub operation_no_uses : counted_operands_of (fields_behind s first) ≡ none → operation_of (fields_behind s at) ≡ none
  unfolding operation_of
  operation_no_uses e = rw (i.says, e)

  module _ {uses : Operands} {middle : ℕ} (u : GroupRead s first uses middle) where
    pub operation_no_defs : counted_operands_of (fields_behind s middle) ≡ none → operation_of (fields_behind s at) ≡ none
    unfolding operation_of
    operation_no_defs e = rw (i.says, u.says, e)

    module _ {defs : Operands} {after : ℕ} (d : GroupRead s middle defs after) where
      pub operation_too_long : (get_or s after 0 ≡ line_feed → ⊥) → operation_of (fields_behind s at) ≡ none
      unfolding operation_of
      operation_too_long e = rw (i.says, u.says, d.says, not_ended d.behind (step_record (operation inst u.operands d.operands)) e)

      pub operation_says : get_or s after 0 ≡ line_feed → operation_of (fields_behind s at) ≡ some (step_record (operation inst u.operands d.operands))
      unfolding operation_of ended
      operation_says e = rw (i.says, u.says, d.says, none_left d.behind e)

      pub operation_ends : get_or s after 0 ≡ line_feed → Ends s at after
      operation_ends e = ends_here d.behind (d.line ∙ u.line ∙ i.line) e
