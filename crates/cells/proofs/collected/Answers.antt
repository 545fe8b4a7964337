-- `collected` meets its contract: what is no name stays, an unmarked name stays, and a marked one becomes what the rule says.
use Rattle.cells.proofs.Laws.{collected_unnamed, collected_unmarked, collected_old, collected_house}
use Rattle.cells.proofs.collected.Goals as goal

pub returns-then-w-ne-NAMED_KIND : goal.returns-then-w-ne-NAMED_KIND
returns-then-w-ne-NAMED_KIND c = collected_unnamed _ c.if-w-ne-NAMED_KIND.true _

pub returns-then-w-eq0 : goal.returns-then-w-eq0
returns-then-w-eq0 c = collected_unmarked _ c.if-w-ne-NAMED_KIND.false _ c.if-w-eq0.true

pub returns-in-Old : goal.returns-in-Old
returns-in-Old c = rw c.in-Old.is (collected_old _ c.if-w-ne-NAMED_KIND.false c.if-w-eq0.false)

pub returns-in-House : goal.returns-in-House
returns-in-House c = rw c.in-House.is (collected_house _ c.if-w-ne-NAMED_KIND.false c.if-w-eq0.false)
