-- `write_block` meets its contract: its own line, and the steps behind it.
use native.Mathlib.Omega.{arith}
use Rattle.writer.specs.Filled.{length_filled, filled_then}
use Rattle.writer.proofs.LawsText.{block_lines}
use Rattle.writer.proofs.write_block.Goals as goal

pub first_step-first-requires : goal.first_step-first-requires
first_step-first-requires c = (omega (arith, c.requires.0), c.requires.1)

pub step_total-total-requires : goal.step_total-total-requires
step_total-total-requires c = (omega (arith, c.requires.0), c.requires.1)

pub write_opening-opened-requires : goal.write_opening-opened-requires
write_opening-opened-requires c = (c.requires.0, c.requires.1, c.requires.2.succs, c.requires.3)

pub write_steps-requires : goal.write_steps-requires
write_steps-requires c = (
  c.requires.0,
  omega (arith, c.step_total-total.ensures, c.first_step-first.ensures, c.requires.2.steps),
  omega (arith, length_filled c.write_opening-opened.ensures, c.requires.3),
)

pub returns : goal.returns
returns c = rw (← block_lines _ _) (filled_then c.write_opening-opened.ensures (rw (c.first_step-first.ensures, c.step_total-total.ensures) at c.write_steps.ensures))
