-- `records::name_behind` meets its contract: without a tab there is no field; a name's number is below 100,000, so a code from
-- there on is a real name's and any other a virtual one's.
use mathlib.Core.Path.{sym, ◌∙◌}
use native.Mathlib.Omega.{arith}
use Rattle.fields.specs.Told.{name_refused}
use Rattle.records.proofs.LawsPlaces.{no_field, refused, real_next, virtual_next}
use Rattle.records.proofs.name_behind.Goals as goal

pub returns-then-s-at-ne9 : goal.returns-then-s-at-ne9
returns-then-s-at-ne9 c = no_field _ _ _ c.if-s-at-ne9.true

pub returns-in_err-name : goal.returns-in_err-name
returns-in_err-name c =
    rw c.from_residual.ensures (refused _ _ c.if-s-at-ne9.false (name_refused (sym c.read_name.ensures.value ∙ c.in_err-name.was)))

pub overflow_add-result : goal.overflow_add-result
overflow_add-result c = let w = rw c.in-Real.is at c.in_ok-name.ensures.within.small in omega (arith, w)

pub returns-in-Real : goal.returns-in-Real
returns-in-Real c =
    real_next c.requires c.if-s-at-ne9.false (rw c.in-Real.is at (sym c.in_ok-name.ensures.value)) (rw c.in-Real.is at c.in_ok-name.ensures.within.small)

pub returns-in-Virtual : goal.returns-in-Virtual
returns-in-Virtual c =
    virtual_next c.requires c.if-s-at-ne9.false (rw c.in-Virtual.is at (sym c.in_ok-name.ensures.value)) (rw c.in-Virtual.is at c.in_ok-name.ensures.within.small)
