-- `write_rule` meets its contract: the letters of each rule's name are written as one text.
use native.Mathlib.Omega.{arith}
use Rattle.paper.specs.Report.{rule_text}
use Rattle.report.proofs.write_rule.Goals as goal

pub write_text-requires : goal.write_text-requires
unfolding rule_text
write_text-requires c = omega (arith, (rw c.in-Old.is at c.requires))

pub write_text-requires-in-House : goal.write_text-requires-in-House
unfolding rule_text
write_text-requires-in-House c = omega (arith, (rw c.in-House.is at c.requires))

pub returns-in-Old : goal.returns-in-Old
unfolding rule_text
returns-in-Old c = rw c.in-Old.is c.write_text.ensures

pub returns-in-House : goal.returns-in-House
unfolding rule_text
returns-in-House c = rw c.in-House.is c.write_text-in-House.ensures
