-- `renamed` meets its contract: the sum's parts do not overlap, so its kind is a name's, its mark w's and its low nine bits to's.
use Rattle.cells.proofs.Laws.{renamed}
use Rattle.cells.proofs.renamed.Goals as goal

pub returns : goal.returns
returns c = renamed _ _
