-- `records::is_elsewhere` meets its contract: a case for a virtual name, and for a real one a case with a register and one without.
use borrow.Author.Tests.{lt-ltb, le-ltb}
use Rattle.paper.specs.Refusals.{elsewhere, is_reg}
use Rattle.records.specs.Records.{name_of_code, register_of_code}
use Rattle.records.proofs.is_elsewhere.Goals as goal

pub returns-then-name-lt-REAL : goal.returns-then-name-lt-REAL
unfolding name_of_code elsewhere
returns-then-name-lt-REAL c = rw (lt-ltb _ _ c.if-name-lt-REAL.true)

pub returns-then-register-lt-NO_ALLOCATION : goal.returns-then-register-lt-NO_ALLOCATION
unfolding name_of_code register_of_code elsewhere is_reg
returns-then-register-lt-NO_ALLOCATION c = rw (le-ltb _ _ c.if-name-lt-REAL.false, lt-ltb _ _ c.if-register-lt-NO_ALLOCATION.true)

pub returns-else-register-lt-NO_ALLOCATION : goal.returns-else-register-lt-NO_ALLOCATION
unfolding name_of_code register_of_code elsewhere is_reg
returns-else-register-lt-NO_ALLOCATION c = rw (le-ltb _ _ c.if-name-lt-REAL.false, le-ltb _ _ c.if-register-lt-NO_ALLOCATION.false)
