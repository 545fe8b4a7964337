-- `records::register_repeated` meets its contract: the operands from `i` on tell whether a register of all repeats; `-` plays no part.
use mathlib.Core.Path.{◌≡◌}
use mathlib.Core.List.{map}
use native.Mathlib.Decide.{ℕ_discrete}
use lib.ListN.{drop}
use Rattle.paper.specs.Refusals.{repeats}
use Rattle.records.specs.Parts.{below, register_code}
use Rattle.records.proofs.register_repeated.Given as goal

abbrev pub invariant-loop-i : goal.invariant-loop-i
invariant-loop-i l = repeats ℕ_discrete (below 100000 (map register_code l.operands)) ≡ repeats ℕ_discrete (below 100000 (map register_code (drop l.i l.operands)))
