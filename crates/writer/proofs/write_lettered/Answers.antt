-- `write_lettered` meets its contract: its two parts, one behind the other, of at most 7 bytes.
use native.Mathlib.Omega.{arith}
use Rattle.lists.specs.Sets.{then}
use Rattle.fields.specs.Spelling.{length_digits}
use Rattle.writer.proofs.write_lettered.Goals as goal

pub write_before_number-requires : goal.write_before_number-requires
write_before_number-requires c = omega (arith, length_digits c.args.v)

pub returns : goal.returns
returns c = (then c.write_byte-a.ensures c.write_before_number.ensures, omega (arith, length_digits c.args.v))
