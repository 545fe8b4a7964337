-- `records::group_beyond` meets its contract: above 8 the count decides; else the library's search is that through what the group
-- holds.
use Rattle.std.proofs.Common.{rules, ◌∙◌, take}
use borrow.Author.Tests.{lt-ltb, le-ltb}
use Rattle.std.proofs.lemmas.Iterator.{YieldsList-from_slice}
use Rattle.std.proofs.lemmas.Iterator.Search.{any_from_yields_List}
use Rattle.paper.specs.Refusals.{operand_beyond}
use Rattle.records.specs.Parts.{counted, operand_meant, group_over}
use Rattle.records.proofs.LawsGroups.{held_any}
use Rattle.records.proofs.group_beyond.Goals as goal

pub returns-then-count-gt-MAX_OPERANDS : goal.returns-then-count-gt-MAX_OPERANDS
unfolding group_over
returns-then-count-gt-MAX_OPERANDS c = rw (lt-ltb _ _ c.if-count-gt-MAX_OPERANDS.true)

pub returns : goal.returns
unfolding group_over
returns c =
    let g = c.args.g in
    let limit = operand_beyond (counted c.args.counts) in
    rw (le-ltb _ _ c.if-count-gt-MAX_OPERANDS.false)
    (any_from_yields_List (λ o. limit (operand_meant o)) _ _ _ c.any.ensures.ran (YieldsList-from_slice (take g.count g.operands) cc) (λ x b q k. search rules)
    ∙ held_any g limit)
