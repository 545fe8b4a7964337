-- `safepoint_cell` meets its contract: bit i of the mask, i being below 32, is clear exactly where the list of its set bits lacks i.
use mathlib.Core.Path.{◌∙◌}
use Rattle.cells.proofs.Rows.{bit_clear, bit_set}
use Rattle.cells.proofs.safepoint_cell.Goals as goal

pub returns-then-kept-i-eq0 : goal.returns-then-kept-i-eq0
returns-then-kept-i-eq0 c = c.collected.ensures ∙ bit_clear _ _ c.requires _ _ c.if-kept-i-eq0.true

pub returns-else-kept-i-eq0 : goal.returns-else-kept-i-eq0
returns-else-kept-i-eq0 c = bit_set _ _ c.requires _ _ c.if-kept-i-eq0.false
