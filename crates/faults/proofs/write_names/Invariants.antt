-- `write_names` meets its contract: the lines of the operands so far are written, at most 32 bytes for each.
use Rattle.std.proofs.Common.{◌+◌, ◌*◌, ◌≤◌, map, take}
use Rattle.lists.specs.Sets.{Wrote}
use Rattle.paper.specs.Limits.{longest_fault_line}
use Rattle.paper.specs.Report.{unallocated, lines_text}
use Rattle.loaded.specs.Actions.{operand_of}
use Rattle.faults.specs.Errors.{names_at}
use Rattle.faults.proofs.write_names.Given as goal

abbrev pub invariant-loop-operand : goal.invariant-loop-operand
invariant-loop-operand l =
    (l.next ≤ l.at + longest_fault_line * l.operand-index)
    × Wrote l.initial.report l.at (lines_text (names_at l.position (unallocated (map operand_of (take l.operand-index l.operand-items))))) l.report l.next
