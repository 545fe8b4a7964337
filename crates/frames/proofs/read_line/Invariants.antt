-- What was read of a line is what was taken, and no line feed stands in it.
use Rattle.std.proofs.Common.{length, take, ◌-◌}
use Rattle.std.specs.Io.KnownBytes.{Consumes}
use Rattle.frames.proofs.Laws.{LineReading}
use Rattle.frames.proofs.read_line.Given as goal

abbrev pub invariant-loop-i : goal.invariant-loop-i
invariant-loop-i g l = record {
  reading : LineReading l.initial.line l.line l.i;
  taken : Consumes (g.R.Read.remaining l.initial.input) (g.R.Read.remaining l.input) (take l.i l.line);
}

abbrev pub decreases-loop-i : goal.decreases-loop-i
decreases-loop-i g l = length l.initial.line - l.i
