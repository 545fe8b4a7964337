-- `write_cell` meets its contract: behind the tab, what the kind of the word says.
use native.Mathlib.Omega.{arith}
use Rattle.states.proofs.Laws.{wrote_absent, wrote_unknown, wrote_conflicted, wrote_name}
use Rattle.states.proofs.write_cell.Goals as goal

pub returns-in-0 : goal.returns-in-0
returns-in-0 c = (wrote_absent _ c.write_byte-next.ensures c.in-0.is c.write_byte.ensures, omega arith)

pub returns-in-1 : goal.returns-in-1
returns-in-1 c = (wrote_unknown _ c.write_byte-next.ensures c.in-1.is c.write_byte-in-1.ensures, omega arith)

pub returns-in-2 : goal.returns-in-2
returns-in-2 c = (wrote_conflicted _ c.write_byte-next.ensures c.in-2.is c.write_byte-in-2.ensures, omega arith)

pub returns-in_default : goal.returns-in_default
returns-in_default c = let m = c.in_default.in_default-own.rest in
    (wrote_name _ c.write_byte-next.ensures (omega (arith, m)) c.write_named.ensures.0, omega arith)
