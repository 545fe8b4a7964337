-- `#` and the number are written, and a line feed behind them: a number below 100,000 has at most five digits.
use Rattle.std.proofs.Common.{arith}
use Rattle.lists.specs.Sets.{then}
use Rattle.fields.specs.Spelling.{length_digits}
use Rattle.frames.specs.Frame.{frame_head}
use Rattle.frames.proofs.write_head.Goals as goal

pub write_before_number-end-requires : goal.write_before_number-end-requires
write_before_number-end-requires c = omega (arith, length_digits c.args.n)

pub write_byte-requires : goal.write_byte-requires
write_byte-requires c = omega (arith, length_digits c.args.n)

pub returns : goal.returns
unfolding frame_head
returns c = (then c.write_before_number-end.ensures c.write_byte.ensures, omega (arith, length_digits c.args.n))
