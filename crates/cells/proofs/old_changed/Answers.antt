-- `old_changed` meets its contract: a name becomes to with its mark (`renamed`), anything else becomes to unmarked.
use Rattle.cells.proofs.Laws.{old_changed_named, old_changed_unnamed}
use Rattle.cells.proofs.old_changed.Goals as goal

pub returns-then-w-eq-NAMED_KIND : goal.returns-then-w-eq-NAMED_KIND
returns-then-w-eq-NAMED_KIND c = old_changed_named _ c.if-w-eq-NAMED_KIND.true _ _ c.renamed.ensures

pub returns-else-w-eq-NAMED_KIND : goal.returns-else-w-eq-NAMED_KIND
returns-else-w-eq-NAMED_KIND c = old_changed_unnamed _ c.if-w-eq-NAMED_KIND.false _
