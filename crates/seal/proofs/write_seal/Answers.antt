-- `seal::write_seal` meets its contract.
use Rattle.seal.proofs.LawsSeal.{sealed_by}
use Rattle.seal.proofs.write_seal.Goals as goal

pub returns : goal.returns
returns c = sealed_by c.args.out.now _ c.crc-word.ensures c.seal_line-line.ensures c.copy_from_slice.ensures.after c.requires
