-- `itanropen_write` meets its contract.
use Rattle.writer.proofs.LawsSheet.{exported}
use Rattle.writer.proofs.itanropen_write.Goals as goal

pub returns : goal.returns
returns c = exported c.write_sheet.ensures c.from.ensures
