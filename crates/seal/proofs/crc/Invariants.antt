-- `seal::crc` meets its contract: what the register makes of the bytes left is what all ones make of all bytes. That the 256 words are what
-- the rule gives is computed once, in `next-requires`.
use Rattle.std.proofs.Common.{◌≡◌, drop}
use Rattle.paper.specs.Seal.{all_ones, feed}
use Rattle.seal.proofs.crc.Given as goal

abbrev pub invariant-loop-byte : goal.invariant-loop-byte
invariant-loop-byte l = feed l.register (drop l.byte-index l.text) ≡ feed all_ones l.text
