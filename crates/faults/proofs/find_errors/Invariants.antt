-- `find_errors` meets its contract: the pass was told the lines of the blocks so far, at most a fault's line a step and a line a block;
-- a sheet has at most `max_steps` steps and `max_blocks` blocks, so there is room for the next block's lines.
use Rattle.faults.proofs.LawsBlock.{AfterBlocks}
use Rattle.faults.proofs.find_errors.Given as goal

abbrev pub invariant-loop-block : goal.invariant-loop-block
invariant-loop-block g l = let m = g.L.Lines in AfterBlocks m.told m.taken m.size l.rule l.words l.block l.initial.lines l.lines
