-- `write_named` meets its contract: the name, and `*` behind it where the word is marked.
use native.Mathlib.Omega.{arith}
use Rattle.report.specs.Lengths.{name_short}
use Rattle.states.proofs.Laws.{wrote_marked, wrote_unmarked}
use Rattle.states.proofs.write_named.Goals as goal

pub write_packed_name-end-requires : goal.write_packed_name-end-requires
write_packed_name-end-requires c = omega (arith, name_short c.args.cell)

pub write_byte-requires : goal.write_byte-requires
write_byte-requires c = omega (arith, name_short c.args.cell)

pub returns-then-cell-eq1 : goal.returns-then-cell-eq1
returns-then-cell-eq1 c = wrote_marked _ c.write_packed_name-end.ensures c.if-cell-eq1.true c.write_byte.ensures

pub returns : goal.returns
returns c = wrote_unmarked _ c.write_packed_name-end.ensures c.if-cell-eq1.false
