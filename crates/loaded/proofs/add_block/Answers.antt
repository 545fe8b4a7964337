-- `add_block` meets its contract: only the next block's words and the count of blocks change (`block_written`), so the words
-- mean the sheet with that block at its end (`block_stored`).
use mathlib.Core.Path.{ap}
use mathlib.Core.List.{List}
use Prim.Native.Nat.{ℕ, ◌+◌}
use lib.ListN.{get_or, set}
use Rattle.layout.specs.Layout.{opened_word}
use Rattle.loaded.proofs.LawsBody.{block_stored, block_written}
use native.Mathlib.Omega.{arith}
use Rattle.loaded.proofs.add_block.Goals as goal

pub returns : goal.returns
returns c = block_stored _ _ c.requires.0 _ _ c.requires.1 c.requires.2 c.well_formed.1.0.1.0.1
    (block_written _ _ _ _ (omega arith) (omega arith) c.requires.2.few (ap (λ (t : List ℕ). set t opened_word (get_or c.args.words.now opened_word 0 + 1)) c.store_succs.ensures))
