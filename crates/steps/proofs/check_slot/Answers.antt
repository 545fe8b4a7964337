-- `check_slot` meets its contract: its two tests are those of `slot_error`.
use borrow.Author.Tests.{eq-eqb, ne_eqb}
use Rattle.cells.specs.Packed.{marked}
use Rattle.steps.specs.Checks.{slot_error}
use Rattle.steps.proofs.check_slot.Goals as goal

pub returns-then-w-ne-NAMED_KIND : goal.returns-then-w-ne-NAMED_KIND
unfolding slot_error
returns-then-w-ne-NAMED_KIND c = simp (ne_eqb _ _ c.if-w-ne-NAMED_KIND.true)

pub returns-then-w-eq1 : goal.returns-then-w-eq1
unfolding slot_error marked
returns-then-w-eq1 c = simp (eq-eqb _ _ c.if-w-ne-NAMED_KIND.false, eq-eqb _ _ c.if-w-eq1.true)

pub returns-else-w-eq1 : goal.returns-else-w-eq1
unfolding slot_error marked
returns-else-w-eq1 c = simp (eq-eqb _ _ c.if-w-ne-NAMED_KIND.false, ne_eqb _ _ c.if-w-eq1.false)
