-- `write_digit` meets its contract: its test is that of `digit_from`, which is one digit, for which there is room, or none.
use mathlib.Core.Path.{refl}
use native.Mathlib.Omega.{arith}
use borrow.Author.Tests.{le-leb, lt-leb}
use Rattle.paper.specs.Text.{digit_from}
use Rattle.fields.proofs.write_digit.Goals as goal

pub bounds-out-at : goal.bounds-out-at
unfolding digit_from
bounds-out-at c = omega (arith, rw (le-leb _ _ c.if-unit-v.true) at c.requires.1)

pub returns-then-unit-v : goal.returns-then-unit-v
unfolding digit_from
returns-then-unit-v c = rw (le-leb _ _ c.if-unit-v.true) (record { list = refl; next = omega arith })

pub returns-else-unit-v : goal.returns-else-unit-v
unfolding digit_from
returns-else-unit-v c = rw (lt-leb _ _ c.if-unit-v.false) (record { list = refl; next = omega arith })
