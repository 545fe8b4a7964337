-- `write_head` meets its contract: its four parts, one behind the other; the block has at most three digits.
use native.Mathlib.Omega.{arith}
use Rattle.lists.specs.Sets.{then}
use Rattle.fields.specs.Spelling.{length_three}
use Rattle.states.proofs.Laws.{head_spelled}
use Rattle.states.proofs.write_head.Goals as goal

pub write_before_number-c-requires : goal.write_before_number-c-requires
write_before_number-c-requires c = omega (arith, length_three c.args.b (omega arith))

pub write_byte-d-requires : goal.write_byte-d-requires
write_byte-d-requires c = omega (arith, length_three c.args.b (omega arith))

pub write_byte-requires : goal.write_byte-requires
write_byte-requires c = omega (arith, length_three c.args.b (omega arith))

pub returns : goal.returns
returns c = (rw (head_spelled c.args.b c.args.mark) (then (then c.write_byte-a.ensures c.write_before_number-c.ensures) (then c.write_byte-d.ensures c.write_byte.ensures)), omega (arith, length_three c.args.b (omega arith)))
