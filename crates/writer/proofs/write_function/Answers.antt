-- `write_function` meets its contract: its six parts, one behind the other, of at most 32 bytes.
use native.Mathlib.Omega.{arith}
use Rattle.lists.specs.Sets.{then}
use Rattle.fields.specs.Spelling.{length_digits}
use Prim.Native.Nat.{ℕ, ◌≤◌}
use lib.ListN.{length}
use Rattle.paper.specs.Text.{digits}
use Rattle.paper.specs.Report.{behind_tabs}
use Rattle.paper.specs.Writing.{letter_of, texts_of, record_text}
use Rattle.writer.proofs.write_function.Goals as goal

-- each number has at most five digits
record Digits (slots vregs blocks entry : ℕ) : Type 0 where
  slots_digits : length (digits slots) ≤ 5
  vregs_digits : length (digits vregs) ≤ 5
  blocks_digits : length (digits blocks) ≤ 5
  entry_digits : length (digits entry) ≤ 5

few_digits : (slots vregs blocks entry : ℕ) → Digits slots vregs blocks entry
few_digits slots vregs blocks entry =
    record { slots_digits = length_digits _; vregs_digits = length_digits _; blocks_digits = length_digits _; entry_digits = length_digits _ }

pub write_before_number-b-requires : goal.write_before_number-b-requires
write_before_number-b-requires c = omega (arith, few_digits c.args.counts.slots c.args.counts.vregs c.args.counts.blocks c.args.entry)

pub write_before_number-c-requires : goal.write_before_number-c-requires
write_before_number-c-requires c = omega (arith, few_digits c.args.counts.slots c.args.counts.vregs c.args.counts.blocks c.args.entry)

pub write_before_number-d-requires : goal.write_before_number-d-requires
write_before_number-d-requires c = omega (arith, few_digits c.args.counts.slots c.args.counts.vregs c.args.counts.blocks c.args.entry)

pub write_before_number-e-requires : goal.write_before_number-e-requires
write_before_number-e-requires c = omega (arith, few_digits c.args.counts.slots c.args.counts.vregs c.args.counts.blocks c.args.entry)

pub write_byte-requires : goal.write_byte-requires
write_byte-requires c = omega (arith, few_digits c.args.counts.slots c.args.counts.vregs c.args.counts.blocks c.args.entry)

pub returns : goal.returns
unfolding behind_tabs letter_of texts_of record_text
returns c = let last = then c.write_before_number-e.ensures c.write_byte.ensures in (
  then c.write_lettered-a.ensures.0
      (then c.write_before_number-b.ensures (then c.write_before_number-c.ensures (then c.write_before_number-d.ensures last))),
  omega (arith, few_digits c.args.counts.slots c.args.counts.vregs c.args.counts.blocks c.args.entry),
)
