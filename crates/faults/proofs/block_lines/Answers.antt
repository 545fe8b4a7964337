-- `block_lines` meets its contract: a block whose mark is 0 has no state behind the analysis, so its one line is its own
-- (`unmarked_entries`); any other has the lines of its faults (`marked_entries`).
use native.Mathlib.Omega.{arith}
use Rattle.faults.proofs.LawsBlock.{unmarked_entries, marked_entries}
use Rattle.faults.proofs.LawsPasses.{pass_within}
use Rattle.faults.proofs.block_lines.Goals as goal

pub returns-then-words-block-eq0 : goal.returns-then-words-block-eq0
returns-then-words-block-eq0 g c = rw (unmarked_entries c.requires.0 c.requires.1 c.if-words-block-eq0.true) (pass_within (omega arith) c.unreached.ensures)

pub returns-else-words-block-eq0 : goal.returns-else-words-block-eq0
returns-else-words-block-eq0 g c = rw (marked_entries c.requires.0 c.requires.1 c.if-words-block-eq0.false) (pass_within (omega arith) c.check_block.ensures)
