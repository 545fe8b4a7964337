-- `write_slots` meets its contract: whoever writes the slots that are left of the mask has written all; at most 6 bytes for each.
use mathlib.Core.Path.{◌≡◌}
use mathlib.Core.List.{map}
use Prim.Native.Nat.{◌+◌, ◌*◌, ◌≤◌, ◌<◌, ◌^◌}
use lib.ListN.{length}
use Rattle.lists.specs.Bits.{set_bits}
use Rattle.paper.specs.Text.{digits}
use Rattle.spelling.specs.Parted.{row}
use Rattle.writer.proofs.LawsLeft.{Finishes}
use Rattle.writer.proofs.LawsLines.{slots_text}
use Rattle.writer.proofs.write_slots.Given as goal

abbrev pub invariant-loop-left : goal.invariant-loop-left
invariant-loop-left l =
    (l.left < 2 ^ 32) × (l.next + 6 * length (set_bits l.left) ≤ l.at + 192) × (l.at + 192 ≤ length l.initial.text) × (length l.text ≡ length l.initial.text)
    × Finishes l.initial.text l.at (row (map digits (set_bits l.mask))) l.text l.next (slots_text l.left)

abbrev pub decreases-loop-left : goal.decreases-loop-left
decreases-loop-left l = l.left
