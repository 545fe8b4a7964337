-- What was taken stands at the start of the room.
use Rattle.std.proofs.Common.{◌≤◌, length, take, ◌-◌}
use Rattle.std.specs.Io.KnownBytes.{Consumes}
use Rattle.regcheck.proofs.read_sheet.Given as goal

abbrev pub invariant-loop-count : goal.invariant-loop-count
invariant-loop-count g l = record {
  inside : l.count ≤ length l.room;
  taken : Consumes (g.R.Read.remaining l.initial.input) (g.R.Read.remaining l.input) (take l.count l.room);
}

abbrev pub decreases-loop-count : goal.decreases-loop-count
decreases-loop-count g l = length l.initial.room - l.count
