-- `columns::Search::passing_number` meets its contract: no number is read, or one that the refusal's test lets pass or not (`within_as`).
use mathlib.Core.Path.{◌∙◌}
use Rattle.columns.proofs.LawsPassing.{unread, shown_by, within_as}
use Rattle.columns.proofs.Search.passing_number.Goals as goal

pub returns-in_err-v : goal.returns-in_err-v
returns-in_err-v c = rw c.from_residual.ensures (unread c.in_err-v.ensures)

pub returns-then-self-limit : goal.returns-then-self-limit
returns-then-self-limit c = shown_by c.in_ok-v.ensures.0 (within_as _ _ _ ∙ rw c.if-self-limit.true)

pub returns : goal.returns
returns c =
    let w = c.in_ok-v.ensures in
    (record { field = w.0; passes = within_as _ _ _ ∙ rw c.if-self-limit.false }, w.1)
