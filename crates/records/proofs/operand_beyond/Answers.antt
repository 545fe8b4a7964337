-- `records::operand_beyond` meets its contract: `name_beyond` tells of the name; a register is held against `regs`, `-` is none.
use Rattle.records.proofs.LawsGroups.{operand_limit}
use Rattle.records.proofs.operand_beyond.Goals as goal

pub returns : goal.returns
returns c = operand_limit _ _ _ c.name_beyond.ensures
