-- `check_uses` meets its contract: before each turn the uses that are left give the error that all of them give.
use Rattle.std.proofs.Common.{◌≡◌, drop}
use Rattle.lists.specs.Region.{region}
use Rattle.steps.specs.Checks.{first_error, use_in}
use Rattle.steps.proofs.check_uses.Given as goal

abbrev pub invariant-loop-u : goal.invariant-loop-u
invariant-loop-u l =
    first_error (use_in l.row) (region l.at l.n l.words) ≡ first_error (use_in l.row) (drop l.u-index l.u-items)
