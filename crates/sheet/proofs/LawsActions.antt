-- An action that `records` has judged can be the next step.
use mathlib.Core.Path.{◌≡◌}
use mathlib.Core.List.{List}
use Prim.Native.Nat.{ℕ, ◌^◌, ◌<◌}
use native.Mathlib.Omega.{arith}
use lib.ListN.{get_or}
use Rattle.layout.specs.Layout.{slots_word}
use Rattle.loaded.specs.declared.Action.TheVariants.{Copy, Change, Safepoint}
use Rattle.loaded.specs.declared.CopyKind.{CopyKind}
use Rattle.loaded.specs.declared.CopyKind.TheVariants.{Spill, Reload, Move}
use Rattle.loaded.specs.Actions.{rows_of, copy_step}
use Rattle.paper.specs.Sheet.{Sheet}
use Rattle.records.specs.Pairs.{spill_paired, reload_paired, move_paired}
use Rattle.sheet.specs.declared.CopyLimits.{CopyLimits}
use Rattle.sheet.specs.Reading.{Progress, limits_of}
use Rattle.loaded.specs.Filling.{StepFits}
use Rattle.records.specs.Records.{Counted, Paired, PairWithin}
use Rattle.loaded.specs.declared.Counts.{Counts}
use Rattle.loaded.specs.Loaded.{counts_in, counts_of}
use Rattle.sheet.proofs.LawsProgress.{counts_within}

module _ (l : List ℕ) (p : Progress l) where
  pub copy_fits : {counts : Counts} {limits : CopyLimits} (kind : CopyKind) {a b : ℕ} → counts ≡ counts_of l → limits ≡ limits_of kind counts
      → PairWithin limits.into limits.from a b → StepFits l (Copy kind a b)
  copy_fits kind {a} {b} e q h =
      let w = counts_within l p in
      let k : PairWithin (limits_of kind (counts_of l)).into (limits_of kind (counts_of l)).from a b = rw (q, e) at h in
      let below = copied kind k.first_below k.second_below in
      record { packs = below.0; ranged = below.1; honest = tt }
    where
      copied : (kind : CopyKind) {a b : ℕ} → a < (limits_of kind (counts_of l)).into → b < (limits_of kind (counts_of l)).from
          → ((a < 64) × (b < 64)) × ((a < get_or (counts_in l) (rows_of kind).into 0) × (b < get_or (counts_in l) (rows_of kind).from 0))
      copied Spill ha hb = unfold limits_of rows_of in let w = counts_within l p in ((omega arith, omega arith), (ha, hb))
      copied Reload ha hb = unfold limits_of rows_of in let w = counts_within l p in ((omega arith, omega arith), (ha, hb))
      copied Move ha hb = unfold limits_of rows_of in let w = counts_within l p in ((omega arith, omega arith), (ha, hb))

  pub change_fits : (inst k from to : ℕ) → k < get_or l slots_word 0 → StepFits l (Change inst k from to)
  change_fits inst k from to h =
      let w = counts_within l p in
      record { packs = omega arith; ranged = h; honest = tt }

  pub safepoint_fits : (inst mask : ℕ) → mask < 2 ^ get_or l slots_word 0 → StepFits l (Safepoint inst mask)
  safepoint_fits inst mask h = record { packs = tt; ranged = h; honest = tt }

-- the two numbers of a copy, held against its limits as the paper holds them
pub copy_paired : {S : Sheet} {counts : Counts} {limits : CopyLimits} (kind : CopyKind) → Counted S counts → limits ≡ limits_of kind counts
    → Paired S (copy_step kind) limits.into limits.from
unfolding limits_of copy_step
copy_paired Spill h e = rw e (spill_paired h)
copy_paired Reload h e = rw e (reload_paired h)
copy_paired Move h e = rw e (move_paired h)
