use Rattle.std.proofs.Common.{refl, ◌∙◌, arith}
use Rattle.seal.specs.Table.{shift, shifts, entries, table}
use Rattle.seal.proofs.Laws.{feed_more, feed_end}
use Rattle.seal.proofs.crc.Goals as goal

pub next-register-requires : goal.next-register-requires
unfolding table entries shifts shift
next-register-requires c = refl

pub loop-byte-preserved : goal.loop-byte-preserved
loop-byte-preserved c =
    feed_more c.args.text.now c.loop-byte.register c.next-register.result c.loop-byte.byte-index c.loop-byte-test.true c.next-register.ensures ∙ c.loop-byte.invariant

pub returns : goal.returns
returns c = feed_end c.args.text.now c.loop-byte.register c.loop-byte.byte-index (omega arith) c.loop-byte.invariant
