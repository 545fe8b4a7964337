-- `store_operands` meets its contract: the 16 words from `at` on are the row, the others as they were.
use native.Mathlib.Omega.{arith}
use Rattle.loaded.proofs.LawsCopied.{part_over}
use Rattle.loaded.proofs.store_operands.Goals as goal

pub returns : goal.returns
returns c = part_over _ _ _ _ _ _ c.copy_from_slice.ensures.after (omega arith) (omega arith) (omega arith)
