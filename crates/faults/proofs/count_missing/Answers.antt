-- `count_missing` meets its contract: the chain counts the words of a part that stand for an operand with no allocation (`counted`).
use Rattle.std.proofs.Common.{rules, tests, ◌≡◌, ◌∙◌, ℕ, ◌+◌, ◌-◌, ◌/◌, eqb, filter, length, take, drop, arith, length-take}
use Rattle.std.proofs.lemmas.Iterator.{YieldsList-from_slice}
use Rattle.std.proofs.lemmas.Iterator.Consumers.{YieldsList-from_filter, count_from_yields_List}
use Rattle.std.proofs.lemmas.List.Sums.{length-filter, count_by-le-length}
use Rattle.loaded.specs.Actions.{no_register, operands}
use Rattle.steps.specs.Parts.{part}
use Rattle.faults.proofs.LawsOperands.{counted}
use Rattle.faults.proofs.count_missing.Goals as goal

pub returns : goal.returns
unfolding operands
returns c =
    let a = c.args in
    let test = λ (word : ℕ). eqb (word / 1024) no_register in
    let words = take (a.from + a.n - a.from) (drop a.from a.words.now) in
    let e : c.count.result ≡ length (filter test words) =
    count_from_yields_List c.filter.result _ c.count.ensures.ran
    (YieldsList-from_filter _ test (YieldsList-from_slice words cc) c.filter.ensures.closure (λ x r q k. search (rules, tests))) in
    (e ∙ rw part (counted _), rw (e, length-filter) (omega (arith, count_by-le-length test words, length-take {A = ℕ})))
