-- `checker::itanropen_check` meets its contract: it is `check` under the rule that the bool names.
use Rattle.checker.proofs.Laws.{exported}
use Rattle.checker.proofs.itanropen_check.Goals as goal

pub returns : goal.returns
returns c = exported c.check-said.ensures c.rule_of-chosen.ensures c.from.ensures
