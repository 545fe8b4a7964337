-- `itanropen_load` meets its contract.
use Rattle.writer.proofs.LawsLoad.{load_exported}
use Rattle.writer.proofs.itanropen_load.Goals as goal

pub returns : goal.returns
returns c = load_exported c.load_sheet.ensures c.from.ensures
