use Rattle.std.proofs.Common.{arith}
use Rattle.cells.proofs.Rows.{all_step}
use Rattle.cells.proofs.row_stays.Goals as goal

pub loop-i-init : goal.loop-i-init
loop-i-init c e k h = absurd (omega arith)

pub loop-i-preserved : goal.loop-i-preserved
loop-i-preserved c = all_step _ _ _ _ c.loop-i.invariant c.stays-all.ensures

pub returns : goal.returns
returns c e k h = c.loop-i.invariant e k (omega arith)
