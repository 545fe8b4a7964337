-- `write_opening` meets its contract: nothing behind every sheet's end, else its three parts, one behind the other.
use native.Mathlib.Omega.{arith}
use Rattle.lists.specs.Sets.{then}
use Rattle.paper.specs.Writing.{letter_of}
use Rattle.writer.specs.Filled.{whole}
use Rattle.writer.proofs.LawsLeft.{unwritten}
use Rattle.writer.proofs.LawsText.{block_text}
use Rattle.writer.proofs.write_opening.Goals as goal

pub returns-then-at-gt-MAX_SHEET : goal.returns-then-at-gt-MAX_SHEET
returns-then-at-gt-MAX_SHEET c = unwritten _ _ _ c.if-at-gt-MAX_SHEET.true

pub write_successors-c-requires : goal.write_successors-c-requires
write_successors-c-requires c = (c.requires.0, c.requires.1, c.requires.2, omega arith)

pub returns : goal.returns
unfolding letter_of
returns c = whole (rw (← block_text _) (then c.write_byte-a.ensures (then c.write_successors-c.ensures.0 c.write_byte.ensures)))
