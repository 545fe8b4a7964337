-- `records::name_word` meets its contract: one case for a virtual name, one for a real one; a word below 512 fits the cast.
use native.Mathlib.Omega.{arith}
use borrow.Author.Tests.{lt-ltb, le-ltb}
use Rattle.records.specs.Parts.{name_word}
use Rattle.records.proofs.name_word.Goals as goal

pub overflow_cast-result : goal.overflow_cast-result
unfolding name_word
overflow_cast-result c = omega (arith, rw (lt-ltb _ _ c.if-name-lt-REAL.true) at c.requires)

pub overflow_cast-result-else-name-lt-REAL : goal.overflow_cast-result-else-name-lt-REAL
unfolding name_word
overflow_cast-result-else-name-lt-REAL c = omega (arith, rw (le-ltb _ _ c.if-name-lt-REAL.false) at c.requires)

pub returns-then-name-lt-REAL : goal.returns-then-name-lt-REAL
unfolding name_word
returns-then-name-lt-REAL c = rw (lt-ltb _ _ c.if-name-lt-REAL.true)

pub returns-else-name-lt-REAL : goal.returns-else-name-lt-REAL
unfolding name_word
returns-else-name-lt-REAL c = rw (le-ltb _ _ c.if-name-lt-REAL.false)
