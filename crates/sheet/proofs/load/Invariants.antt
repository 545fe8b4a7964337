-- `sheet::load` meets its contract: the lines from `at` on, added to the sheet in the words, give what the whole sheet gives, and
-- each good line moves `at` on; a bad line's number is the sheet's, and at the end too few `B` are refusal 4.
use Prim.Native.Nat.{◌-◌}
use lib.ListN.{length}
use Rattle.sheet.proofs.LawsLoad.{Ahead}
use Rattle.sheet.proofs.load.Given as goal

abbrev pub invariant-loop-at : goal.invariant-loop-at
invariant-loop-at l = Ahead l.sheet l.at l.line l.initial.words l.words

abbrev pub decreases-loop-at : goal.decreases-loop-at
decreases-loop-at l = length l.sheet - l.at
