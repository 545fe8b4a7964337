-- `visited` meets its contract: one answer for each rule and mark.
use Rattle.states.proofs.Laws.{old_visited, not_visited, is_visited}
use Rattle.states.proofs.visited.Goals as goal

pub returns-in-Old : goal.returns-in-Old
returns-in-Old c = rw c.in-Old.is (λ o e. old_visited o)

pub returns-then-mark-eq0 : goal.returns-then-mark-eq0
returns-then-mark-eq0 c = rw c.in-House.is (λ o e. not_visited _ o c.if-mark-eq0.true e)

pub returns-else-mark-eq0 : goal.returns-else-mark-eq0
returns-else-mark-eq0 c = rw c.in-House.is (λ o e. is_visited _ o c.if-mark-eq0.false e)
