-- `is_empty` meets its contract: as many blocks wait as are counted.
use mathlib.Core.Path.{◌≡◌, sym, ap, ◌∙◌}
use native.Mathlib.Omega.{arith}
use lib.ListN.{length}
use Rattle.std.proofs.lemmas.Bool.Decides.{nat_tests}
use Rattle.runs.proofs.LawsQueue.{length_held}
use Rattle.runs.proofs.Queue.is_empty.Goals as goal

pub returns : goal.returns
returns c =
    let n : length c.args.self.now ≡ c.self.inside.count = sym (ap length c.self.view_is) ∙ length_held _ _ _ in
    grind (arith, nat_tests, n)
