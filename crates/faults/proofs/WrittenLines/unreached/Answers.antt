-- `unreached` of `Written` meets its contract: one line is written, as long as an unreached block's may be.
use mathlib.Core.Path.{refl}
use native.Mathlib.Omega.{arith}
use Rattle.lists.specs.Sets.{length_wrote}
use Rattle.report.specs.Lengths.{unreached_short}
use Rattle.faults.proofs.LawsPasses.{unreached_wrote}
use Rattle.faults.proofs.WrittenLines.unreached.Goals as goal

pub write_unreached-self-requires : goal.write_unreached-self-requires
write_unreached-self-requires c = (c.requires.0, omega (arith, unreached_short c.args.block c.requires.0))

pub returns : goal.returns
returns c = let w = c.write_unreached-self.ensures in
    record {
      lines = (refl, unreached_wrote _ w);
      most = omega (arith, w.next, unreached_short c.args.block c.requires.0);
      kept = length_wrote w;
    }
