-- `write_blocks` meets its contract: a line more each turn; the longest line for each block fits.
use mathlib.Core.Path.{◌≡◌}
use Prim.Native.Nat.{◌*◌, ◌-◌, ◌≤◌}
use lib.ListN.{length}
use Rattle.lists.specs.Sets.{Wrote}
use Rattle.loaded.specs.Loaded.{sheet_of}
use Rattle.paper.specs.Report.{by_block}
use Rattle.states.specs.EntryStates.{block_text}
use Rattle.states.specs.Stated.{longest_line}
use Rattle.states.proofs.write_blocks.Given as goal

abbrev pub invariant-loop-b : goal.invariant-loop-b
invariant-loop-b l =
    (l.b ≤ l.blocks) × (l.next ≤ longest_line * l.b) × (length l.out ≡ length l.initial.out) × Wrote l.initial.out 0 (by_block (block_text l.rule (sheet_of l.words)) 0 l.b) l.out l.next
