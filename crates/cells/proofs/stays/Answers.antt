-- `stays` meets its contract: equal cells stay, and for the other tests a row or a column of the table says it
-- (`old_conflicted_stays`, `old_absent_comes`, `house_unknown_stays`).
use mathlib.Core.Path.{sym}
use mathlib.Core.Bool.{true≢false}
use borrow.Author.Tests.{eqb-true}
use Rattle.cells.proofs.Laws.{same_stays, old_conflicted_stays, old_absent_comes, house_unknown_stays}
use Rattle.cells.proofs.stays.Goals as goal

pub returns-then-a-b : goal.returns-then-a-b
returns-then-a-b c e = same_stays _ _ _ c.if-a-b.true

pub returns-then-a-eq-CONFLICTED : goal.returns-then-a-eq-CONFLICTED
returns-then-a-eq-CONFLICTED c e = rw c.in-Old.is (old_conflicted_stays _ _ c.if-a-eq-CONFLICTED.true)

pub returns-then-b-eq-ABSENT_KIND : goal.returns-then-b-eq-ABSENT_KIND
returns-then-b-eq-ABSENT_KIND c e = absurd (true≢false (sym e))

pub returns-else-a-eq-CONFLICTED : goal.returns-else-a-eq-CONFLICTED
returns-else-a-eq-CONFLICTED c e = rw c.in-Old.is (old_absent_comes _ _ (eqb-true _ _ e))

pub returns-else-b-eq-ABSENT_KIND : goal.returns-else-b-eq-ABSENT_KIND
returns-else-b-eq-ABSENT_KIND c e = rw c.in-House.is (house_unknown_stays _ _ (eqb-true _ _ e) c.if-b-eq-ABSENT_KIND.false)
