-- `row_stays` meets its contract: before each turn `all` says it of the first i cells.
use Rattle.std.proofs.Common.{◌≡◌, true, ℕ, ◌<◌}
use Rattle.cells.specs.States.{Stays, meet_at}
use Rattle.cells.proofs.row_stays.Given as goal

abbrev pub invariant-loop-i : goal.invariant-loop-i
invariant-loop-i l = l.all ≡ true → (k : ℕ) → k < l.i → Stays l.at (meet_at l.rule l.row) l.words k
