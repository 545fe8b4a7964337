-- `fault` of `Counted` meets its contract: the line of a fault is one fault.
use mathlib.Core.Path.{refl}
use native.Mathlib.Omega.{arith}
use Rattle.steps.specs.Faults.{error_fault}
use Rattle.faults.proofs.LawsPasses.{fault_counted}
use Rattle.faults.proofs.CountedLines.fault.Goals as goal

pub returns : goal.returns
returns c = record { lines = omega (arith, fault_counted c.args._position (error_fault c.args._error)); most = omega arith; kept = refl }
