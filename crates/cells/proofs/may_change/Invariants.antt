-- `may_change` meets its contract: before each turn the mask is made of bits below i, and lists each cell below i that may change.
use Rattle.std.proofs.Common.{◌≡◌, false, ℕ, ◌^◌, ◌<◌}
use Rattle.lists.specs.Bits.{set_bits}
use Rattle.paper.specs.Sheet.{listed}
use Rattle.cells.specs.States.{Stays, meet_at}
use Rattle.cells.proofs.may_change.Given as goal

abbrev pub invariant-loop-i : goal.invariant-loop-i
invariant-loop-i l = (l.mask < 2 ^ l.i) × ((k : ℕ) → k < l.i → listed (set_bits l.mask) k ≡ false → Stays l.at (meet_at l.rule l.row) l.words k)
