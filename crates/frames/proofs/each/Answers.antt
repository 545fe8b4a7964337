-- A frame that was read is one text more, answered.
use Rattle.std.proofs.Common.{refl}
use denote.Param.Always.{mut_next}
use Rattle.frames.proofs.LawsEach.{answered_none, answered_more, answered_end}
use Rattle.frames.proofs.each.Goals as goal

pub loop-init : goal.loop-init
loop-init g c = record { callable = c.requires; answered = answered_none _ _ _ }

pub loop-preserved : goal.loop-preserved
loop-preserved g c = record {
  callable = mut_next _ _ _ _ _ _ c.reply.ensures refl c.loop.invariant.callable;
  answered = answered_more _ c.loop.room c.read.new.room c.loop.invariant.answered c.in-Some.is c.in_ok-length.ensures.left c.in_ok-length.ensures.taken
      (_, refl, record { shown = _; shows = refl; left = _; called = c.in_ok-reply.ensures; leaves = refl });
}

pub returns-in_default : goal.returns-in_default
returns-in_default g c = (_, answered_end _ c.read.new.room c.loop.invariant.answered c.in_default.is c.in_ok-length.ensures.taken)

pub returns : goal.returns
returns g c = (_, c.loop.invariant.answered)
