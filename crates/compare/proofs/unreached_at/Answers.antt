-- `unreached_at` meets its contract: the two shapes are the two fields' (`unreached_shapes`).
use mathlib.Core.Path.{ap, ◌∙◌}
use mathlib.Core.Bool.{Bool}
use Rattle.compare.specs.Places.{line_place}
use Rattle.compare.proofs.LawsLine.{unreached_shapes}
use Rattle.compare.proofs.unreached_at.Goals as goal

pub returns-clause-value : goal.returns-clause-value
returns-clause-value c =
    let a = c.args in
    let s = a.s.now in
    c.line_of.ensures.value ∙ ap (λ (good : Bool). line_place good s a.at) (unreached_shapes s a.at)
