-- `check_stackmap` meets its contract: before each turn the bits that are left give the error that all of them give; the lowest is
-- the next listed slot (`next_slot`), and the mask without it is less.
use Rattle.std.proofs.Common.{◌≡◌, ◌<◌, ◌^◌}
use Rattle.lists.specs.Bits.{set_bits}
use Rattle.steps.specs.Checks.{first_error, slot_in}
use Rattle.steps.proofs.check_stackmap.Given as goal

abbrev pub invariant-search : goal.invariant-search
invariant-search l = (l.left < 2 ^ 32) × (first_error (slot_in l.row) (set_bits l.mask) ≡ first_error (slot_in l.row) (set_bits l.left))

abbrev pub decreases-search : goal.decreases-search
decreases-search l = l.left
