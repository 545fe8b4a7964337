-- `write_before_number` meets its contract: the byte, and the number behind it (`then`).
use Rattle.lists.specs.Sets.{then}
use Rattle.fields.proofs.write_before_number.Goals as goal

pub returns : goal.returns
returns c = then c.write_byte-next.ensures c.write_number.ensures
