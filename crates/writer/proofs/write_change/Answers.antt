-- `write_change` meets its contract: its five parts, one behind the other.
use native.Mathlib.Omega.{arith}
use Rattle.lists.specs.Sets.{then}
use Rattle.fields.specs.Spelling.{length_digits}
use Rattle.paper.specs.Report.{behind_tabs}
use Rattle.paper.specs.Writing.{letter_of, texts_of, record_text}
use Rattle.writer.proofs.write_change.Goals as goal

pub write_before_number-b-requires : goal.write_before_number-b-requires
write_before_number-b-requires c = omega (arith, length_digits c.args.slot)

pub write_name-c-requires : goal.write_name-c-requires
write_name-c-requires c = omega (arith, length_digits c.args.slot)

pub write_name-d-requires : goal.write_name-d-requires
write_name-d-requires c = omega (arith, length_digits c.args.slot)

pub write_byte-requires : goal.write_byte-requires
write_byte-requires c = omega (arith, length_digits c.args.slot)

pub returns : goal.returns
unfolding record_text letter_of texts_of behind_tabs
returns c = let names = then c.write_name-c.ensures.0 (then c.write_name-d.ensures.0 c.write_byte.ensures) in
    then c.write_lettered-a.ensures.0 (then c.write_before_number-b.ensures names)
