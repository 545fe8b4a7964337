-- `copied` meets its contract: Absent becomes Unknown, and every other kind stays.
use Rattle.cells.proofs.Laws.{copied_absent, copied_present}
use Rattle.cells.proofs.copied.Goals as goal

pub returns-then-w-eq-ABSENT_KIND : goal.returns-then-w-eq-ABSENT_KIND
returns-then-w-eq-ABSENT_KIND c = copied_absent _ c.if-w-eq-ABSENT_KIND.true

pub returns-else-w-eq-ABSENT_KIND : goal.returns-else-w-eq-ABSENT_KIND
returns-else-w-eq-ABSENT_KIND c = copied_present _ c.if-w-eq-ABSENT_KIND.false
