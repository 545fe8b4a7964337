-- `columns::Search::operand_register` meets its contract: no allocation is read, or one of which `register_shows` tells whether it passes.
use mathlib.Core.Path.{sym, ◌∙◌}
use borrow.Author.Tests.{not-true, not-false}
use Rattle.columns.proofs.LawsPassing.{unread, shown_by}
use Rattle.columns.proofs.Search.operand_register.Goals as goal

pub returns-in_err-register : goal.returns-in_err-register
returns-in_err-register c us e = rw c.from_residual.ensures (unread c.in_err-register.ensures)

pub returns-then-register_shows : goal.returns-then-register_shows
returns-then-register_shows c us e =
    shown_by c.in_ok-register.ensures.0 (not-true _ (sym (c.register_shows.ensures us e) ∙ c.if-register_shows.true))

pub returns : goal.returns
returns c us e = record {
  field = c.in_ok-register.ensures.0;
  passes = not-false _ (sym (c.register_shows.ensures us e) ∙ c.if-register_shows.false);
}
