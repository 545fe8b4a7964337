-- `checker::write_refusal` meets its contract: its four parts, one behind the other, and there is room for each.
use native.Mathlib.Omega.{arith}
use Rattle.lists.specs.Sets.{then, length_wrote}
use Rattle.fields.specs.Spelling.{length_digits}
use Rattle.checker.proofs.Texts.{refusal_wrote}
use Rattle.checker.proofs.write_refusal.Goals as goal

pub write_before_number-b-requires : goal.write_before_number-b-requires
write_before_number-b-requires c =
    omega (arith, length_wrote c.write_byte-a.ensures, length_digits c.args.refusal.number)

pub overflow_cast-refusal-2 : goal.overflow_cast-refusal-2
overflow_cast-refusal-2 c = omega (arith, c.requires.0)

pub write_before_number-c-requires : goal.write_before_number-c-requires
write_before_number-c-requires c =
    let refusal = c.args.refusal in
    omega (arith, length_wrote c.write_byte-a.ensures, length_wrote c.write_before_number-b.ensures, length_digits refusal.number, length_digits refusal.line)

pub overflow_cast-refusal-3 : goal.overflow_cast-refusal-3
overflow_cast-refusal-3 c = omega (arith, c.requires.0)

pub write_before_number-d-requires : goal.write_before_number-d-requires
write_before_number-d-requires c =
    let refusal = c.args.refusal in
    omega (
      arith,
      length_wrote c.write_byte-a.ensures,
      length_wrote c.write_before_number-b.ensures,
      length_wrote c.write_before_number-c.ensures,
      length_digits refusal.number,
      length_digits refusal.line,
      length_digits refusal.field,
    )

pub write_byte-requires : goal.write_byte-requires
write_byte-requires c =
    let refusal = c.args.refusal in
    omega (
      arith,
      length_wrote c.write_byte-a.ensures,
      length_wrote c.write_before_number-b.ensures,
      length_wrote c.write_before_number-c.ensures,
      length_wrote c.write_before_number-d.ensures,
      length_digits refusal.number,
      length_digits refusal.line,
      length_digits refusal.field,
    )

pub returns : goal.returns
returns c =
    refusal_wrote c.args.refusal
    (then
    (then (then (then c.write_byte-a.ensures c.write_before_number-b.ensures) c.write_before_number-c.ensures) c.write_before_number-d.ensures)
    c.write_byte.ensures)
