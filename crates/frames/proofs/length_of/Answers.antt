-- What a first line says, test by test.
use Rattle.std.proofs.Common.{sym, ap, ◌∙◌, Some}
use Rattle.frames.specs.Frame.{length_ended}
use Rattle.frames.proofs.Laws.{no_hash, no_number, ended}
use Rattle.frames.proofs.length_of.Goals as goal

pub returns-then-not-starts_with-clause-value : goal.returns-then-not-starts_with-clause-value
returns-then-not-starts_with-clause-value c = no_hash _ c.if-not-starts_with.ensures.value

pub returns-in_err-n-clause-value : goal.returns-in_err-n-clause-value
returns-in_err-n-clause-value c = c.from_residual.ensures ∙ no_number _ c.if-not-starts_with.ensures.value c.in_err-n.ensures.value

pub returns-in_err-ends-clause-value : goal.returns-in_err-ends-clause-value
unfolding length_ended
returns-in_err-ends-clause-value c =
    c.from_residual-in_err-ends.ensures ∙ ended _ c.if-not-starts_with.ensures.value c.in_ok-n.ensures.value c.in_err-ends.ensures.value

pub returns-in-LineFeed-clause-value : goal.returns-in-LineFeed-clause-value
unfolding length_ended
returns-in-LineFeed-clause-value c =
    ended _ c.if-not-starts_with.ensures.value c.in_ok-n.ensures.value (ap Some (sym c.in-LineFeed.is) ∙ c.in_ok-ends.ensures.value)

pub returns-in-Tab-clause-value : goal.returns-in-Tab-clause-value
unfolding length_ended
returns-in-Tab-clause-value c =
    ended _ c.if-not-starts_with.ensures.value c.in_ok-n.ensures.value (ap Some (sym c.in-Tab.is) ∙ c.in_ok-ends.ensures.value)
