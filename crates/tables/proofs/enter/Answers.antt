use Rattle.tables.specs.Laws.{entered_is}
use Rattle.tables.proofs.enter.Goals as goal

pub returns : goal.returns
returns c =
    entered_is _ _ c.requires.1 c.requires.0 (rw c.row_counts-counts.ensures at c.store.ensures)
