use Rattle.tables.specs.Laws.{came_first, came_again}
use Rattle.tables.proofs.join.Goals as goal

pub returns-then-words-b-eq0 : goal.returns-then-words-b-eq0
returns-then-words-b-eq0 c =
    came_first _ _ c.requires.2 c.if-words-b-eq0.true c.enter.ensures

pub returns : goal.returns
returns c =
    came_again _ _ c.requires.2 c.requires.1 c.if-words-b-eq0.false _ (rw c.row_counts-counts.ensures at c.meet_with.ensures)
