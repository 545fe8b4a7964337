-- `collect_row` meets its contract: before each turn the first i cells are as the safepoint leaves them, the others as they were.
use Rattle.std.proofs.Common.{cond}
use Rattle.lists.specs.Bits.{set_bits}
use Rattle.paper.specs.Cells.{collected}
use Rattle.paper.specs.Sheet.{listed}
use Rattle.cells.proofs.Rows.{Reached}
use Rattle.cells.proofs.collect_row.Given as goal

abbrev pub invariant-loop-i : goal.invariant-loop-i
invariant-loop-i l = Reached l.i (λ k x. cond (listed (set_bits l.kept) k) x (collected l.rule x)) l.initial.row l.row
