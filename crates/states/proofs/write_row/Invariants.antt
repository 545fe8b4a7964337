-- `write_row` meets its contract: a cell more each turn.
use mathlib.Core.Path.{◌≡◌}
use Prim.Native.Nat.{◌+◌, ◌*◌, ◌≤◌}
use lib.ListN.{length}
use Rattle.lists.specs.Sets.{Wrote}
use Rattle.states.specs.Stated.{row_text, longest_cell}
use Rattle.states.proofs.write_row.Given as goal

abbrev pub invariant-loop-cell : goal.invariant-loop-cell
invariant-loop-cell l =
    (l.next ≤ l.at + (1 + longest_cell) * l.cell-index) × (length l.cell-items ≡ l.n) × Wrote l.initial.out l.at (row_text l.from l.cell-index l.words) l.out l.next
