-- `write_unmarked` meets its contract: the lines of the blocks so far that have no mark are written, at most five bytes for each.
use Prim.Native.Nat.{◌+◌, ◌*◌, ◌≤◌}
use Rattle.lists.specs.Sets.{Wrote}
use Rattle.paper.specs.Limits.{longest_unreached_line}
use Rattle.paper.specs.Report.{lines_text}
use Rattle.faults.proofs.LawsBlock.{unmarked_to}
use Rattle.faults.proofs.write_unmarked.Given as goal

abbrev pub invariant-loop-block : goal.invariant-loop-block
invariant-loop-block l =
    (l.next ≤ l.at + longest_unreached_line * l.block)
    × Wrote l.initial.report l.at (lines_text (unmarked_to l.words l.block)) l.report l.next
