-- `columns::Search::passing_name` meets its contract: no name is read, or one that the refusal's test lets pass or not (`name_within_as`).
use mathlib.Core.Path.{◌∙◌}
use Rattle.columns.proofs.LawsPassing.{unread, shown_by, name_within_as}
use Rattle.columns.proofs.Search.passing_name.Goals as goal

pub returns-in_err-name : goal.returns-in_err-name
returns-in_err-name c = rw c.from_residual.ensures (unread c.in_err-name.ensures)

pub returns-then-self-name_beyond : goal.returns-then-self-name_beyond
returns-then-self-name_beyond c =
    shown_by c.in_ok-name.ensures.0 (name_within_as _ _ _ ∙ rw (← c.name_beyond.ensures, c.if-self-name_beyond.true))

pub returns : goal.returns
returns c = record {
  field = c.in_ok-name.ensures.0;
  passes = name_within_as _ _ _ ∙ rw (← c.name_beyond.ensures, c.if-self-name_beyond.false);
}
