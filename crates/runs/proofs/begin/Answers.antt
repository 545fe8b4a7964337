-- `begin` meets its contract: every block as it begins, then the entry with its state and waiting alone, is the run's beginning;
-- the sheet's words are kept, so the entry is still a block.
use Rattle.runs.proofs.LawsBegin.{regs_are, begun}
use Rattle.runs.proofs.begin.Goals as goal

pub returns : goal.returns
returns c =
    begun c.requires.0 (regs_are c.args.words.now c.row_counts-counts.result c.row_counts-counts.ensures) c.entry-entry.ensures c.begin_blocks.ensures.0 c.begin_blocks.ensures.1 c.enter.ensures c.entry_state.ensures c.requires.1 c.push.ensures
