-- The three steps of two numbers, with the limits that their numbers are held against.
use Rattle.std.proofs.Math.Path.{refl}
use Rattle.paper.specs.Sheet.{Sheet, spill, reload, move}
use Rattle.paper.specs.Refusals.{real_elsewhere, types_differ, step_beyond, step_out_of_order}
use Rattle.loaded.specs.declared.Counts.{Counts}
use Rattle.records.specs.Records.{Counted, Paired}

module _ {S : Sheet} {counts : Counts} (h : Counted S counts) where
  pub spill_paired : Paired S spill counts.slots counts.regs
  unfolding step_beyond step_out_of_order real_elsewhere types_differ
  spill_paired = record { beyond = λ a b. rw (h.slots, h.regs); order = λ a b. refl; home = λ a b. refl; types = λ a b. refl }

  pub reload_paired : Paired S reload counts.regs counts.slots
  unfolding step_beyond step_out_of_order real_elsewhere types_differ
  reload_paired = record { beyond = λ a b. rw (h.slots, h.regs); order = λ a b. refl; home = λ a b. refl; types = λ a b. refl }

  pub move_paired : Paired S move counts.regs counts.regs
  unfolding step_beyond step_out_of_order real_elsewhere types_differ
  move_paired = record { beyond = λ a b. rw h.regs; order = λ a b. refl; home = λ a b. refl; types = λ a b. refl }
