-- `find_in_block` meets its contract: what is missing in the block is what is missing from `place` on;
-- of the steps that have something missing the first alone is reported, so it ends the search.
use mathlib.Core.Path.{◌≡◌}
use Rattle.paper.specs.Report.{missing_from}
use Rattle.loaded.specs.Actions.{steps_at}
use Rattle.loaded.specs.Loaded.{first_step, step_total}
use Rattle.faults.proofs.LawsMissing.{left}
use Rattle.faults.proofs.find_in_block.Given as goal

abbrev pub invariant-loop-place : goal.invariant-loop-place
invariant-loop-place l =
    (missing_from l.block 0 (steps_at l.words (first_step l.words l.block) (step_total l.words l.block)) ≡ left l.words l.block (first_step l.words l.block) l.place (step_total l.words l.block))
