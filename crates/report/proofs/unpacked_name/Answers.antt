-- `unpacked_name` meets its contract: below 256 the nine bits are a virtual name, else a real one, and the test tells which.
use borrow.Author.Tests.{lt-ltb, le-ltb}
use Rattle.cells.specs.Packed.{name_of_word}
use Rattle.fields.specs.Fields.{named}
use Rattle.report.proofs.unpacked_name.Goals as goal

pub returns-then-name-lt-REAL_NAMES : goal.returns-then-name-lt-REAL_NAMES
unfolding name_of_word named
returns-then-name-lt-REAL_NAMES c = rw (lt-ltb _ _ c.if-name-lt-REAL_NAMES.true)

pub returns-else-name-lt-REAL_NAMES : goal.returns-else-name-lt-REAL_NAMES
unfolding name_of_word named
returns-else-name-lt-REAL_NAMES c = rw (le-ltb _ _ c.if-name-lt-REAL_NAMES.false)
