-- `records::read_slots` meets its contract: the line's slots are those that `listed` tells of and those behind `i`, which moves on
-- each turn; a bad field leaves none.
use Prim.Native.Nat.{◌-◌}
use lib.ListN.{length}
use Rattle.records.proofs.LawsSlots.{Slotting}
use Rattle.records.proofs.read_slots.Given as goal

abbrev pub invariant-loop-i : goal.invariant-loop-i
invariant-loop-i l = Slotting l.s l.at l.slots l.i l.listed

abbrev pub decreases-loop-i : goal.decreases-loop-i
decreases-loop-i l = length l.s - l.i
