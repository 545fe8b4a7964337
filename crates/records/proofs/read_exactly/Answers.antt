-- `records::read_exactly` meets its contract: at most 8 numbers are enough to tell whether there are `n` and no more.
use Rattle.records.proofs.LawsNumbers.{exactly_none, exactly_not, exactly_read}
use Rattle.records.proofs.read_exactly.Goals as goal

pub returns-in_err-read : goal.returns-in_err-read
returns-in_err-read c = rw c.from_residual.ensures (exactly_none _ _ _ c.requires.1 c.in_err-read.ensures)

pub returns-then-read-n : goal.returns-then-read-n
returns-then-read-n c = exactly_read c.in_ok-read.ensures _ c.requires.1 c.if-read-n.true

pub returns-else-read-n : goal.returns-else-read-n
returns-else-read-n c = exactly_not c.in_ok-read.ensures _ c.requires.1 c.if-read-n.false
