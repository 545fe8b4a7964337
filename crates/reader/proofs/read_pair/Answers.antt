-- Each answer is told apart by a law of `Laws`.
use Rattle.std.proofs.Common.{sym, ◌∙◌}
use Rattle.fields.specs.Told.{number_says, number_refused}
use Rattle.reader.proofs.Laws.{no_first, no_second, bad_second, one_more, both, feed_no_tab}
use Rattle.reader.proofs.read_pair.Goals as goal

pub returns-in_err-a : goal.returns-in_err-a
returns-in_err-a c = c.from_residual.ensures ∙ sym (no_first (number_refused (sym c.in_err-a.ensures.value)))

pub returns-in_err-ends_from : goal.returns-in_err-ends_from
returns-in_err-ends_from c =
    c.from_residual-in_err-ends_from.ensures ∙ sym (no_second (number_says (sym c.in_ok-a.ensures.value)) c.in_err-ends_from.ensures.within.0)

pub returns-in_default : goal.returns-in_default
returns-in_default c =
    sym (no_second (number_says (sym c.in_ok-a.ensures.value)) (feed_no_tab c.args.s.now c.in_ok-a.i (rw c.in_default.is at c.in_ok-ends_from.ensures.within).1))

pub returns-in_err-b : goal.returns-in_err-b
returns-in_err-b c =
    c.from_residual-in_err-b.ensures ∙ sym (bad_second (number_says (sym c.in_ok-a.ensures.value))
    (rw c.in-Tab.is at c.in_ok-ends_from.ensures.within).1 (number_refused (sym c.in_err-b.ensures.value)))

pub returns-in_default-ends_from : goal.returns-in_default-ends_from
returns-in_default-ends_from c =
    sym (both (number_says (sym c.in_ok-a.ensures.value)) (rw c.in-Tab.is at c.in_ok-ends_from.ensures.within).1
    (number_says (sym c.in_ok-b.ensures.value)) (rw c.in_default-ends_from.is at c.ends_from-2.ensures.within).0)

pub returns-in-Tab-end : goal.returns-in-Tab-end
returns-in-Tab-end c =
    sym (one_more (number_says (sym c.in_ok-a.ensures.value)) (rw c.in-Tab.is at c.in_ok-ends_from.ensures.within).1
    (number_says (sym c.in_ok-b.ensures.value)) (rw c.in-Tab-end.is at c.in-Some.ensures.within).1)

pub returns-in-LineFeed : goal.returns-in-LineFeed
returns-in-LineFeed c =
    sym (both (number_says (sym c.in_ok-a.ensures.value)) (rw c.in-Tab.is at c.in_ok-ends_from.ensures.within).1
    (number_says (sym c.in_ok-b.ensures.value)) (feed_no_tab c.args.s.now c.in_ok-b.j (rw c.in-LineFeed.is at c.in-Some.ensures.within).1))
