-- `real_row` meets its contract: before each turn the first i cells hold their registers' own names, unmarked; the word 3328 + i is
-- that cell where i is below 32 (`own_cell`).
use Rattle.std.proofs.Common.{false}
use Rattle.paper.specs.Cells.{named}
use Rattle.paper.specs.Text.{real}
use Rattle.cells.proofs.Rows.{Reached}
use Rattle.cells.proofs.real_row.Given as goal

abbrev pub invariant-loop-i : goal.invariant-loop-i
invariant-loop-i l = Reached l.i (λ k x. named (real k) false) l.initial.word-items l.word-items
