-- `write_operands` meets its contract: whoever writes the operands from the one at hand on has written all; at most 11 bytes for each.
use mathlib.Core.Path.{◌≡◌}
use Prim.Native.Nat.{◌+◌, ◌*◌, ◌≤◌}
use lib.ListN.{length, drop}
use Rattle.paper.specs.Writing.{operand_texts}
use Rattle.loaded.specs.Actions.{operands}
use Rattle.spelling.specs.Parted.{row}
use Rattle.writer.proofs.LawsLeft.{Finishes}
use Rattle.writer.proofs.LawsLines.{operands_text}
use Rattle.writer.proofs.write_operands.Given as goal

abbrev pub invariant-loop-w : goal.invariant-loop-w
invariant-loop-w l =
    (l.next ≤ l.at + 11 * l.w-index) × (l.at + 11 * l.n ≤ length l.initial.text) × (length l.w-items ≡ l.n)
    × Finishes l.initial.text l.at (row (operand_texts (operands l.from l.n l.words))) l.text l.next (operands_text (drop l.w-index l.w-items))
