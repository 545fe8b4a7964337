-- `write_name` meets its contract: the letter is the one that the name's text begins with.
use Rattle.paper.specs.Text.{name_text}
use Rattle.fields.specs.Fields.{named}
use Rattle.fields.proofs.write_name.Goals as goal

pub write_before_number-requires-in-Virtual : goal.write_before_number-requires-in-Virtual
unfolding name_text named
write_before_number-requires-in-Virtual c = rw c.in-Virtual.is at c.requires

pub write_before_number-requires : goal.write_before_number-requires
unfolding name_text named
write_before_number-requires c = rw c.in-Real.is at c.requires

pub returns-in-Real : goal.returns-in-Real
unfolding name_text named
returns-in-Real c = rw c.in-Real.is c.write_before_number.ensures

pub returns-in-Virtual : goal.returns-in-Virtual
unfolding name_text named
returns-in-Virtual c = rw c.in-Virtual.is c.write_before_number-in-Virtual.ensures
