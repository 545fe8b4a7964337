-- `write_text` meets its contract: the text stands in the part of the buffer that it was copied to.
use native.Mathlib.Omega.{arith}
use Rattle.fields.proofs.Laws.{copied}
use Rattle.fields.proofs.write_text.Goals as goal

pub returns : goal.returns
returns c = copied _ _ _ _ _ c.copy_from_slice.ensures.after (omega arith) c.requires
