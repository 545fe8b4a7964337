-- `checker::rule_of` meets its contract: 0 is the old rule, and any other number is the house rule.
use Rattle.checker.proofs.Laws.{number_0, number_other}
use Rattle.checker.proofs.rule_of.Goals as goal

pub returns-then-number-eq0 : goal.returns-then-number-eq0
returns-then-number-eq0 c = number_0 _ c.if-number-eq0.true

pub returns-else-number-eq0 : goal.returns-else-number-eq0
returns-else-number-eq0 c = number_other _ c.if-number-eq0.false
