-- `house_changed` meets its contract: what is no name stays; from becomes to with its mark (`renamed`), another name Conflicted.
use Rattle.cells.proofs.Laws.{house_changed_unnamed, house_changed_same, house_changed_other}
use Rattle.cells.proofs.house_changed.Goals as goal

pub returns-then-w-ne-NAMED_KIND : goal.returns-then-w-ne-NAMED_KIND
returns-then-w-ne-NAMED_KIND c = house_changed_unnamed _ c.if-w-ne-NAMED_KIND.true _ _

pub returns-then-w-from : goal.returns-then-w-from
returns-then-w-from c = house_changed_same _ c.if-w-ne-NAMED_KIND.false _ _ _ c.renamed.ensures c.if-w-from.true

pub returns-else-w-from : goal.returns-else-w-from
returns-else-w-from c = house_changed_other _ c.if-w-ne-NAMED_KIND.false _ _ c.if-w-from.false
