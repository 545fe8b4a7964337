-- The first line was written, and the text behind it.
use Rattle.std.proofs.Common.{rules, subst}
use Rattle.std.specs.Io.KnownBytes.{Appends}
use Rattle.std.proofs.KnownBytes.{Appends-trans}
use Rattle.std.proofs.lemmas.Result.{on_ok_weaker}
use Rattle.frames.proofs.Laws.{wrote_first}
use Rattle.frames.proofs.write.Goals as goal

pub returns-clause-written : goal.returns-clause-written
returns-clause-written g c =
    on_ok_weaker c.write_all-2.result
    (Appends-trans _ _ _ _ _ (subst (Appends _ _) (wrote_first c.write_head-end.ensures.0 (search rules)) c.in_ok-write_all.ensures.bytes))
    c.write_all-2.ensures.bytes
