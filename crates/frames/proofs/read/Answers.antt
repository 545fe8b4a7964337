-- What is no frame went to the room's first bytes, and nothing else was written.
use Rattle.std.proofs.Common.{rules}
use Rattle.frames.specs.Frame.{longest_frame}
use Rattle.frames.proofs.Laws.{kept_behind, kept_further}
use Rattle.frames.proofs.read.Goals as goal

pub returns-then-is_err-clause-left : goal.returns-then-is_err-clause-left
returns-then-is_err-clause-left g c =
    kept_further c.in-Some.length longest_frame _ _ c.in-Some.ensures.within (kept_behind c.in-Some.length c.read_exact.new.buf c.args.room.now c.if-room-length.false (search rules))
