-- `without_lowest` meets its contract: a mask and the mask less 1 share the set bits of the mask but for the lowest (`cleared`).
use Rattle.lists.specs.Bits.{cleared}
use Rattle.cells.proofs.without_lowest.Goals as goal

pub returns : goal.returns
returns c = cleared 32 _ c.requires c.ranges.mask.fits
