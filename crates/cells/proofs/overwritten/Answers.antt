-- `overwritten` meets its contract: the name itself becomes Conflicted; another name stays, and so does what is no name.
use Rattle.cells.proofs.Laws.{overwritten_same, overwritten_other, overwritten_unnamed}
use Rattle.cells.proofs.overwritten.Goals as goal

pub returns-then-w-name : goal.returns-then-w-name
returns-then-w-name c = overwritten_same _ c.if-w-eq-NAMED_KIND.true _ c.if-w-name.true

pub returns-else-w-name : goal.returns-else-w-name
returns-else-w-name c = overwritten_other _ c.if-w-eq-NAMED_KIND.true _ c.if-w-name.false

pub returns-else-w-eq-NAMED_KIND : goal.returns-else-w-eq-NAMED_KIND
returns-else-w-eq-NAMED_KIND c = overwritten_unnamed _ c.if-w-eq-NAMED_KIND.false _
