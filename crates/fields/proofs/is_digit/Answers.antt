-- `is_digit` meets its contract: the library's test is that of the definition.
use Rattle.paper.specs.Text.{is_digit}
use Rattle.fields.proofs.is_digit.Goals as goal

pub returns : goal.returns
unfolding is_digit
returns c = c.is_ascii_digit.ensures.value
