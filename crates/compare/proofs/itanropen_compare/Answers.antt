-- `itanropen_compare` meets its contract: the struct for C is made of what the two reports come to.
use mathlib.Core.Path.{ap, ◌∙◌}
use Rattle.compare.specs.Places.{judgement_of}
use Rattle.compare.proofs.itanropen_compare.Goals as goal

pub returns : goal.returns
returns c = c.from.ensures ∙ ap judgement_of c.compare.ensures.value
