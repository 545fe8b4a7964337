-- `fault` of `Written` meets its contract: one line is written, as long as a fault's line may be.
use mathlib.Core.Path.{refl}
use native.Mathlib.Omega.{arith}
use Rattle.lists.specs.Sets.{length_wrote}
use Rattle.report.specs.Lengths.{line_short}
use Rattle.faults.proofs.LawsPasses.{fault_wrote}
use Rattle.faults.proofs.WrittenLines.fault.Goals as goal

pub write_line-self-requires : goal.write_line-self-requires
write_line-self-requires c = (c.requires.0, omega (arith, line_short c.args.position c.fields_of.result c.requires.0 c.fields_of.ensures.short))

pub returns : goal.returns
returns c = let w = c.write_line-self.ensures in
    record {
      lines = (refl, fault_wrote _ c.fields_of.ensures w);
      most = omega (arith, w.next, line_short c.args.position c.fields_of.result c.requires.0 c.fields_of.ensures.short);
      kept = length_wrote w;
    }
