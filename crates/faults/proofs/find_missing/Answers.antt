use mathlib.Core.Path.{refl, ◌∙◌}
use native.Mathlib.Omega.{arith}
use Rattle.paper.specs.Report.{missing_allocations}
use Rattle.loaded.specs.Loaded.{sheet_of}
use Rattle.faults.specs.Missing.{missing_lines}
use Rattle.faults.proofs.LawsMissing.{blocks_start, block_here, block_later, blocks_ended, some_lines, no_lines_found}
use Rattle.faults.proofs.find_missing.Goals as goal

pub loop-block-init : goal.loop-block-init
unfolding missing_allocations sheet_of
loop-block-init c = blocks_start _ _

pub returns-in-Some : goal.returns-in-Some
returns-in-Some c = let m = rw c.in-Some.is at c.find_in_block.ensures in
    record {
      lines = c.loop-block.invariant ∙ block_here _ _ _ (omega arith) refl (some_lines _ m) ∙ m.lines;
      within = m.within;
    }

pub loop-block-preserved : goal.loop-block-preserved
loop-block-preserved c =
    c.loop-block.invariant ∙ block_later _ _ _ (omega arith) (no_lines_found (rw c.in_default.is at c.find_in_block.ensures))

pub returns : goal.returns
unfolding missing_lines
returns c = record { lines = c.loop-block.invariant ∙ blocks_ended _ _ _ (omega arith); within = tt }
