-- `records::name_repeated` meets its contract: the operands from `i` on tell whether a name of all repeats.
use mathlib.Core.Path.{◌≡◌}
use mathlib.Core.List.{map}
use native.Mathlib.Decide.{ℕ_discrete}
use lib.ListN.{drop}
use Rattle.paper.specs.Refusals.{repeats}
use Rattle.records.specs.Parts.{name_code}
use Rattle.records.proofs.name_repeated.Given as goal

abbrev pub invariant-loop-i : goal.invariant-loop-i
invariant-loop-i l = repeats ℕ_discrete (map name_code l.operands) ≡ repeats ℕ_discrete (map name_code (drop l.i l.operands))
