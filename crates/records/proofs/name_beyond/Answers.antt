-- `records::name_beyond` meets its contract: one case for a virtual name, one for a real one.
use borrow.Author.Tests.{lt-ltb, le-ltb}
use Rattle.paper.specs.Refusals.{name_beyond}
use Rattle.records.specs.Records.{name_of_code}
use Rattle.records.proofs.name_beyond.Goals as goal

pub returns-then-name-lt-REAL : goal.returns-then-name-lt-REAL
unfolding name_of_code name_beyond
returns-then-name-lt-REAL c = rw (lt-ltb _ _ c.if-name-lt-REAL.true)

pub returns-else-name-lt-REAL : goal.returns-else-name-lt-REAL
unfolding name_of_code name_beyond
returns-else-name-lt-REAL c = rw (le-ltb _ _ c.if-name-lt-REAL.false)
