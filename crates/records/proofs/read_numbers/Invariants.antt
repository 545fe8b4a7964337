-- `records::read_numbers` meets its contract: the line's numbers are those kept and those behind `i`, which moves on each turn; a
-- bad field or a ninth number leaves no list of at most 8.
use Prim.Native.Nat.{◌-◌}
use lib.ListN.{length}
use Rattle.records.proofs.LawsNumbers.{NumbersReading}
use Rattle.records.proofs.read_numbers.Given as goal

abbrev pub invariant-loop-i : goal.invariant-loop-i
invariant-loop-i l = NumbersReading l.s l.at l.count l.values l.i

abbrev pub decreases-loop-i : goal.decreases-loop-i
decreases-loop-i l = length l.s - l.i
