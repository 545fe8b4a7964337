-- `missing_among` meets its contract: the chain looks at the words of a part, each of which stands for an operand (`any_missing`).
use Rattle.std.proofs.Common.{rules, tests, ◌∙◌, ◌+◌, ◌-◌, ◌/◌, eqb, take, drop}
use Rattle.std.proofs.lemmas.Iterator.{YieldsList-from_slice}
use Rattle.std.proofs.lemmas.Iterator.Search.{any_from_yields_List}
use Rattle.loaded.specs.Actions.{no_register, operands}
use Rattle.steps.specs.Parts.{part}
use Rattle.steps.proofs.LawsMissing.{any_missing}
use Rattle.steps.proofs.missing_among.Goals as goal

pub returns : goal.returns
unfolding operands
returns c =
    let a = c.args in
    any_from_yields_List (λ word. eqb (word / 1024) no_register) _ _ _ c.any.ensures.ran
    (YieldsList-from_slice (take (a.at + a.n - a.at) (drop a.at a.words.now)) cc) (λ x b q k. search (rules, tests))
    ∙ rw part (any_missing _)
