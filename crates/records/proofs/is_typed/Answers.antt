-- `records::is_typed` meets its contract: one case below 256, where a virtual name has its word, and one from there on.
use borrow.Author.Tests.{lt-ltb, le-ltb}
use Rattle.records.specs.Parts.{is_typed}
use Rattle.records.proofs.is_typed.Goals as goal

pub returns-then-name-lt-MAX_VREGS : goal.returns-then-name-lt-MAX_VREGS
unfolding is_typed
returns-then-name-lt-MAX_VREGS c = rw (lt-ltb _ _ c.if-name-lt-MAX_VREGS.true)

pub returns-else-name-lt-MAX_VREGS : goal.returns-else-name-lt-MAX_VREGS
unfolding is_typed
returns-else-name-lt-MAX_VREGS c = rw (le-ltb _ _ c.if-name-lt-MAX_VREGS.false)
