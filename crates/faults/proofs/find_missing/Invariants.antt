-- `find_missing` meets its contract: what is missing in the sheet is what is missing from `block` on;
-- the first block that has something missing gives all that is reported.
use mathlib.Core.Path.{◌≡◌}
use Prim.Native.Nat.{◌-◌}
use lib.ListN.{get_or}
use Rattle.layout.specs.Layout.{blocks_word}
use Rattle.paper.specs.Report.{missing_blocks, missing_allocations}
use Rattle.loaded.specs.Loaded.{sheet_of}
use Rattle.faults.proofs.find_missing.Given as goal

abbrev pub invariant-loop-block : goal.invariant-loop-block
invariant-loop-block l =
    (missing_allocations (sheet_of l.words) ≡ missing_blocks (sheet_of l.words) l.block (get_or l.words blocks_word 0 - l.block))
