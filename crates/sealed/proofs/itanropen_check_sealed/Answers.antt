-- `sealed::itanropen_check_sealed` meets its contract.
use Rattle.sealed.proofs.Laws.{exported}
use Rattle.sealed.proofs.itanropen_check_sealed.Goals as goal

pub returns : goal.returns
returns c =
    exported c.check_sealed-said.ensures c.rule_of-chosen.ensures c.from.ensures
