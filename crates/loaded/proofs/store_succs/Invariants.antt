-- `store_succs` meets its contract: from `at` on the first `i` successors stand, one more each turn; each is below 65,536,
-- so it fits the cast.
use mathlib.Core.Path.{◌≡◌}
use lib.ListN.{get_or}
use Rattle.lists.specs.Over.{over}
use Rattle.loaded.proofs.store_succs.Given as goal

abbrev pub invariant-loop-i : goal.invariant-loop-i
invariant-loop-i l = l.words ≡ over l.at l.i (λ k x. get_or l.fn.succs k 0) l.initial.words
