-- `mask_unless` meets its contract: i being below 32, the shifted bit is not lost.
use mathlib.Core.Path.{◌∙◌}
use native.Mathlib.Nat.{one-mul}
use native.Mathlib.Omega.{arith}
use lib.Pow.{shl_exact}
use Rattle.cells.proofs.mask_unless.Goals as goal

pub returns-else-stays : goal.returns-else-stays
returns-else-stays c = rw c.if-stays.false (shl_exact 1 c.args.i 32 (omega arith) (omega arith) ∙ one-mul _)
