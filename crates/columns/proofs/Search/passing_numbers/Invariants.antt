-- `columns::Search::passing_numbers` meets its contract: the numbers behind `at` pass as far as i, which moves on each turn; a field that
-- shows the refusal, or the line's end, ends the count.
use Prim.Native.Nat.{◌-◌}
use lib.ListN.{length}
use Rattle.columns.proofs.LawsNumbers.{Counting}
use Rattle.columns.proofs.Search.passing_numbers.Given as goal

abbrev pub invariant-loop-i : goal.invariant-loop-i
invariant-loop-i l = Counting l.self.sheet.now l.at l.self.number l.limit l.least l.count l.i

abbrev pub decreases-loop-i : goal.decreases-loop-i
decreases-loop-i l = length l.self.sheet.now - l.i
