-- `write_successors` meets its contract: whoever writes the successors from the i-th on has written all; at most 6 bytes for each.
use mathlib.Core.Path.{◌≡◌}
use mathlib.Core.List.{map}
use Prim.Native.Nat.{◌+◌, ◌*◌, ◌-◌, ◌≤◌, ◌<◌}
use lib.ListN.{length}
use Rattle.lists.specs.Region.{region}
use Rattle.paper.specs.Text.{digits}
use Rattle.paper.specs.Limits.{max_blocks, max_succs, words_size}
use Rattle.layout.specs.Layout.{succ_base}
use Rattle.spelling.specs.Parted.{row}
use Rattle.writer.proofs.LawsLeft.{Finishes}
use Rattle.writer.proofs.LawsLines.{numbers_text}
use Rattle.writer.proofs.write_successors.Given as goal

abbrev pub invariant-loop-i : goal.invariant-loop-i
invariant-loop-i l =
    (l.i ≤ l.total) × (l.total ≤ max_succs) × (l.b < max_blocks) × (words_size ≤ length l.words) × (l.next ≤ l.at + 6 * l.i)
    × (l.at + 48 ≤ length l.initial.text) × (length l.text ≡ length l.initial.text)
    × Finishes l.initial.text l.at (row (map digits (region (succ_base l.b) l.total l.words))) l.text l.next (numbers_text (region (succ_base l.b + l.i) (l.total - l.i) l.words))
