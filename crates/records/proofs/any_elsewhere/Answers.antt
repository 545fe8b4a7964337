-- `records::any_elsewhere` meets its contract: the library's search is that through what the group holds.
use Rattle.std.proofs.Common.{rules, ◌∙◌, take}
use Rattle.std.proofs.lemmas.Iterator.{YieldsList-from_slice}
use Rattle.std.proofs.lemmas.Iterator.Search.{any_from_yields_List}
use Rattle.paper.specs.Refusals.{elsewhere}
use Rattle.records.specs.Records.{name_of_code, register_of_code}
use Rattle.records.proofs.LawsGroups.{held_any}
use Rattle.records.proofs.any_elsewhere.Goals as goal

pub returns : goal.returns
returns c =
    let g = c.args.g in
    any_from_yields_List (λ o. elsewhere (name_of_code o.name) (register_of_code o.register)) _ _ _ c.any.ensures.ran
    (YieldsList-from_slice (take g.count g.operands) cc) (λ x b q k. search rules)
    ∙ held_any g (λ u. elsewhere u.name u.reg)
