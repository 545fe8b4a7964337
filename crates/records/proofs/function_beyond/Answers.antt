-- `records::function_beyond` meets its contract: the tests are those of refusal 5, one by one.
use mathlib.Core.Path.{refl}
use Rattle.paper.specs.Refusals.{beyond_limit}
use Rattle.records.proofs.function_beyond.Goals as goal

pub returns : goal.returns
unfolding beyond_limit
returns c = λ S. refl
