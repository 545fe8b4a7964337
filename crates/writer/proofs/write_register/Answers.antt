-- `write_register` meets its contract: a tab, and `-` or the number behind it.
use native.Mathlib.Omega.{arith}
use Rattle.lists.specs.Sets.{then}
use Rattle.fields.specs.Spelling.{length_digits}
use borrow.Author.Tests.{eq-eqb, ne_eqb}
use Rattle.paper.specs.Writing.{allocation_text}
use Rattle.loaded.specs.Actions.{register_of}
use Rattle.writer.proofs.write_register.Goals as goal

pub write_before_number-requires : goal.write_before_number-requires
write_before_number-requires c = omega (arith, length_digits c.args.register)

pub returns-then-register-eq-NO_REGISTER : goal.returns-then-register-eq-NO_REGISTER
unfolding allocation_text register_of
returns-then-register-eq-NO_REGISTER c = (rw (eq-eqb _ _ c.if-register-eq-NO_REGISTER.true) (then c.write_byte-a.ensures c.write_byte.ensures), omega arith)

pub returns-else-register-eq-NO_REGISTER : goal.returns-else-register-eq-NO_REGISTER
unfolding allocation_text register_of
returns-else-register-eq-NO_REGISTER c = (rw (ne_eqb _ _ c.if-register-eq-NO_REGISTER.false) c.write_before_number.ensures, omega (arith, length_digits c.args.register))
