-- What was taken so far is frames, each answered.
use Rattle.frames.specs.Frame.{EachAnswered}
use Rattle.frames.proofs.each.Given as goal

abbrev pub invariant-loop : goal.invariant-loop
invariant-loop g l = record {
  callable : goal.F-IsAlwaysCallable g l.reply;
  answered : EachAnswered g.F.FnMut (g.R.Read.remaining l.initial.input) (g.R.Read.remaining l.input) (l.initial.reply, l.initial.output) (l.reply, l.output);
}
