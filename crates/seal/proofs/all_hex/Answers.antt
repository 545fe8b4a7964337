-- `seal::all_hex` meets its contract: the chain asks `is_hex` of each byte.
use Rattle.std.proofs.Common.{rules, ◌∙◌}
use Rattle.std.proofs.lemmas.Iterator.{YieldsList-from_slice}
use Rattle.std.proofs.lemmas.Iterator.Search.{all_from_yields_List}
use Rattle.paper.specs.Seal.{is_hex}
use Rattle.seal.proofs.LawsText.{every_hex}
use Rattle.seal.proofs.all_hex.Goals as goal

pub returns : goal.returns
returns c =
    all_from_yields_List is_hex _ _ _ c.all.ensures.ran (YieldsList-from_slice _ c.iter.ensures.rest) (λ x b q k. search rules) ∙ every_hex _
