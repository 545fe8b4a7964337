-- `records::lowest` meets its contract: one case for each number, with no test before it met.
use Rattle.paper.specs.Refusals.{first_holding}
use Rattle.records.specs.Records.{holding, judged_of}
use Rattle.records.proofs.lowest.Goals as goal

pub returns-else-place-2 : goal.returns-else-place-2
unfolding holding first_holding judged_of
returns-else-place-2 c = rw (c.if-place.false, c.if-beyond.false, c.if-disorder.false, c.if-elsewhere.false, c.if-differ.false, c.if-place-2.false)

pub returns-then-place : goal.returns-then-place
unfolding holding first_holding judged_of
returns-then-place c = rw c.if-place.true

pub returns-then-beyond : goal.returns-then-beyond
unfolding holding first_holding judged_of
returns-then-beyond c = rw (c.if-place.false, c.if-beyond.true)

pub returns-then-disorder : goal.returns-then-disorder
unfolding holding first_holding judged_of
returns-then-disorder c = rw (c.if-place.false, c.if-beyond.false, c.if-disorder.true)

pub returns-then-elsewhere : goal.returns-then-elsewhere
unfolding holding first_holding judged_of
returns-then-elsewhere c = rw (c.if-place.false, c.if-beyond.false, c.if-disorder.false, c.if-elsewhere.true)

pub returns-then-differ : goal.returns-then-differ
unfolding holding first_holding judged_of
returns-then-differ c = rw (c.if-place.false, c.if-beyond.false, c.if-disorder.false, c.if-elsewhere.false, c.if-differ.true)

pub returns-then-place-2 : goal.returns-then-place-2
unfolding holding first_holding judged_of
returns-then-place-2 c = rw (c.if-place.false, c.if-beyond.false, c.if-disorder.false, c.if-elsewhere.false, c.if-differ.false, c.if-place-2.true)
