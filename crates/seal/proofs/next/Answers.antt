-- `seal::next` meets its contract: the table's entry for the low byte, beside the rest of the register.
use native.Mathlib.Omega.{arith}
use Rattle.seal.proofs.Laws.{looked_up}
use Rattle.seal.proofs.next.Goals as goal

pub returns : goal.returns
returns c = rw c.requires (looked_up c.args.register c.args.byte (omega arith))
