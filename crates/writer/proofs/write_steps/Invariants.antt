-- `write_steps` meets its contract: whoever fills in the steps from the i-th on has filled in all.
use mathlib.Core.Path.{◌≡◌}
use mathlib.Core.List.{map}
use Prim.Native.Nat.{◌+◌, ◌≤◌}
use lib.ListN.{length}
use Rattle.paper.specs.Limits.{max_steps, max_sheet, words_size}
use Rattle.paper.specs.Refusals.{step_record}
use Rattle.paper.specs.Writing.{records_text}
use Rattle.loaded.specs.Actions.{steps_at}
use Rattle.writer.specs.Filled.{line_room}
use Rattle.writer.proofs.LawsLeft.{Fills}
use Rattle.writer.proofs.LawsText.{steps_left}
use Rattle.writer.proofs.write_steps.Given as goal

abbrev pub invariant-loop-i : goal.invariant-loop-i
invariant-loop-i l =
    (l.i ≤ l.total) × (words_size ≤ length l.words) × (l.first + l.total ≤ max_steps) × (max_sheet + line_room ≤ length l.initial.text) × (length l.text ≡ length l.initial.text)
    × Fills l.initial.text l.at (records_text (map step_record (steps_at l.words l.first l.total))) l.text l.next (steps_left l.words l.first l.total l.i)
