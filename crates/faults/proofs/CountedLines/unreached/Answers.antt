-- `unreached` of `Counted` meets its contract: the line of an unreached block is no fault.
use mathlib.Core.Path.{refl}
use native.Mathlib.Omega.{arith}
use Rattle.faults.proofs.LawsPasses.{unreached_counted}
use Rattle.faults.proofs.CountedLines.unreached.Goals as goal

pub returns : goal.returns
returns c = record { lines = omega (arith, unreached_counted c.args._block); most = omega arith; kept = refl }
