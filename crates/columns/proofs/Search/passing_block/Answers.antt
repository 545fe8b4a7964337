-- `columns::Search::passing_block` meets its contract: of the first eight fields as many pass as of all, but for those behind them.
use Rattle.paper.specs.Limits.{max_succs}
use Rattle.paper.specs.Refusals.{block_passing}
use Rattle.columns.proofs.LawsNumbers.{numbers_many, numbers_all}
use Rattle.columns.proofs.Search.passing_block.Goals as goal

pub returns-then-count-gt-MAX_SUCCS : goal.returns-then-count-gt-MAX_SUCCS
unfolding block_passing
returns-then-count-gt-MAX_SUCCS c = numbers_many _ _ max_succs _ c.passing_numbers-count.ensures c.if-count-gt-MAX_SUCCS.true

pub returns-else-count-gt-MAX_SUCCS : goal.returns-else-count-gt-MAX_SUCCS
unfolding block_passing
returns-else-count-gt-MAX_SUCCS c = numbers_all _ _ max_succs _ c.passing_numbers-count.ensures c.if-count-gt-MAX_SUCCS.false
