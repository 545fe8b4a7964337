-- `write_safepoint` meets its contract: its three parts, one behind the other.
use Rattle.lists.specs.Sets.{then}
use Rattle.paper.specs.Writing.{letter_of}
use Rattle.writer.proofs.LawsText.{safepoint_text}
use Rattle.writer.proofs.write_safepoint.Goals as goal

pub returns : goal.returns
unfolding letter_of
returns c = rw (← safepoint_text _ _) (then c.write_lettered-a.ensures.0 (then c.write_slots-b.ensures.0 c.write_byte.ensures))
