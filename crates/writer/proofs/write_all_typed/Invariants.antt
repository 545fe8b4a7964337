-- `write_all_typed` meets its contract: whoever writes the lines of the names from n on has written those of all; at most 8 bytes for each.
use mathlib.Core.Path.{◌≡◌}
use mathlib.Core.List.{map}
use Prim.Native.Nat.{◌+◌, ◌*◌, ◌≤◌}
use lib.ListN.{length}
use Rattle.paper.specs.Refusals.{typed_record}
use Rattle.paper.specs.Writing.{records_text}
use Rattle.layout.specs.Layout.{typed_words}
use Rattle.loaded.specs.Loaded.{marked_from}
use Rattle.writer.proofs.LawsLeft.{Finishes}
use Rattle.writer.proofs.LawsLines.{typed_left}
use Rattle.writer.proofs.write_all_typed.Given as goal

abbrev pub invariant-loop-n : goal.invariant-loop-n
invariant-loop-n l =
    (l.n ≤ typed_words) × (length l.typed ≡ typed_words) × (l.next ≤ l.at + 8 * l.n) × (l.at + 8 * typed_words ≤ length l.initial.text) × (length l.text ≡ length l.initial.text)
    × Finishes l.initial.text l.at (records_text (map typed_record (marked_from 0 l.typed))) l.text l.next (typed_left l.typed l.n)
