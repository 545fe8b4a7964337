-- `records::register_word` meets its contract: one case for a register, which is below 64 and fits the cast, and one for none.
use native.Mathlib.Omega.{arith}
use borrow.Author.Tests.{lt-ltb, le-ltb}
use Rattle.records.specs.Parts.{register_word}
use Rattle.records.proofs.register_word.Goals as goal

pub overflow_cast-result : goal.overflow_cast-result
unfolding register_word
overflow_cast-result c = omega (arith, rw (lt-ltb _ _ c.if-register-lt-NO_ALLOCATION.true) at c.requires)

pub returns-then-register-lt-NO_ALLOCATION : goal.returns-then-register-lt-NO_ALLOCATION
unfolding register_word
returns-then-register-lt-NO_ALLOCATION c = rw (lt-ltb _ _ c.if-register-lt-NO_ALLOCATION.true)

pub returns-else-register-lt-NO_ALLOCATION : goal.returns-else-register-lt-NO_ALLOCATION
unfolding register_word
returns-else-register-lt-NO_ALLOCATION c = rw (le-ltb _ _ c.if-register-lt-NO_ALLOCATION.false)
