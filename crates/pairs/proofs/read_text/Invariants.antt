-- Each frame but the last has 99,999 bytes.
use Rattle.std.proofs.Common.{◌+◌, ◌-◌, length}
use Rattle.pairs.proofs.read_text.Given as goal

abbrev pub decreases-loop-n : goal.decreases-loop-n
decreases-loop-n g l = length l.initial.room + 1 - l.n
