-- `lay` meets its contract: the text's bytes are copied, and those behind them stay.
use Rattle.paper.specs.Answer.{laid}
use Rattle.writer.proofs.lay.Goals as goal

pub returns : goal.returns
unfolding laid
returns c = rw c.copy_from_slice.ensures.after
