-- `put_action` meets its contract: the step's words are those of `packed`, the others as they were; taken apart, the four words are
-- the step again (`written`).
use native.Mathlib.Omega.{arith}
use Rattle.loaded.proofs.LawsCopied.{part_over}
use Rattle.loaded.proofs.LawsPacking.{written}
use Rattle.loaded.proofs.put_action.Goals as goal

pub returns : goal.returns
returns c =
    written _ _ _ _ _ c.requires.0 c.requires.1 c.requires.2 c.packed-p.ensures (part_over _ _ _ _ _ _ c.copy_from_slice.ensures.after (omega (arith, c.copy_from_slice.ensures.len)) (omega arith) (omega arith))
