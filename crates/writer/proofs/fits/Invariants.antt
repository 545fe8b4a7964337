-- `fits` meets its contract: before each turn the blocks from b on fit exactly where all do.
use mathlib.Core.Path.{◌≡◌}
use Prim.Native.Nat.{◌-◌, ◌≤◌}
use lib.ListN.{length}
use Rattle.paper.specs.Limits.{max_blocks, words_size}
use Rattle.writer.specs.Form.{blocks_fit, fits}
use Rattle.writer.proofs.fits.Given as goal

abbrev pub invariant-loop-b : goal.invariant-loop-b
invariant-loop-b l =
    (l.b ≤ l.opened) × (l.opened ≤ max_blocks) × (words_size ≤ length l.words) × (fits l.words ≡ blocks_fit l.words l.b (l.opened - l.b))
