-- `write_groups` meets its contract: its three parts, one behind the other.
use native.Mathlib.Omega.{arith}
use Rattle.lists.specs.Sets.{then}
use Rattle.writer.proofs.LawsText.{groups_line}
use Rattle.writer.proofs.write_groups.Goals as goal

pub write_group-a-requires : goal.write_group-a-requires
write_group-a-requires c = (c.requires.0, c.requires.2, omega arith)

pub write_group-b-requires : goal.write_group-b-requires
write_group-b-requires c = (c.requires.1, c.requires.3, omega arith)

pub returns : goal.returns
returns c = rw (← groups_line _ _) (then c.write_group-a.ensures.0 (then c.write_group-b.ensures.0 c.write_byte.ensures))
