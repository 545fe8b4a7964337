-- `write_blocks` meets its contract: whoever fills in the blocks from b on has filled in all.
use mathlib.Core.Path.{◌≡◌}
use mathlib.Core.Bool.{true}
use Prim.Native.Nat.{◌+◌, ◌≤◌}
use lib.ListN.{length, get_or}
use Rattle.paper.specs.Limits.{max_sheet}
use Rattle.paper.specs.Writing.{records_text, block_records}
use Rattle.layout.specs.Layout.{opened_word}
use Rattle.loaded.specs.Loaded.{blocks_at}
use Rattle.writer.specs.Form.{fits}
use Rattle.writer.specs.Filled.{line_room}
use Rattle.writer.proofs.LawsLeft.{Fills}
use Rattle.writer.proofs.LawsText.{blocks_left}
use Rattle.writer.proofs.write_blocks.Given as goal

abbrev pub invariant-loop-b : goal.invariant-loop-b
invariant-loop-b l =
    (l.b ≤ l.opened) × (l.opened ≡ get_or l.words opened_word 0) × (fits l.words ≡ true) × (max_sheet + line_room ≤ length l.initial.text) × (length l.text ≡ length l.initial.text)
    × Fills l.initial.text l.at (records_text (block_records (blocks_at l.words 0 (get_or l.words opened_word 0)))) l.text l.next (blocks_left l.words l.opened l.b)
