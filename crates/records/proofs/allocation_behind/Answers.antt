-- `records::allocation_behind` meets its contract: without a tab there is no field; a register is below 100,000, the code of `-`.
use mathlib.Core.Path.{sym, ◌∙◌}
use Rattle.fields.specs.Told.{allocation_refused}
use Rattle.records.proofs.LawsPlaces.{no_field, refused, allocation_next}
use Rattle.records.proofs.allocation_behind.Goals as goal

pub returns-then-s-at-ne9 : goal.returns-then-s-at-ne9
returns-then-s-at-ne9 c = no_field _ _ _ c.if-s-at-ne9.true

pub returns-in_err-register : goal.returns-in_err-register
returns-in_err-register c =
    rw c.from_residual.ensures (refused _ _ c.if-s-at-ne9.false (allocation_refused (sym c.read_allocation.ensures.value ∙ c.in_err-register.was)))

pub returns : goal.returns
returns c =
    rw c.unwrap_or.ensures (allocation_next c.requires c.if-s-at-ne9.false _ (sym c.in_ok-register.ensures.value) c.in_ok-register.ensures.within.small)
