-- `checker::check` meets its contract: a buffer that is too short is refusal 1, and any other answer's scratch is cleared.
use mathlib.Core.Path.{sym, ◌∙◌}
use Rattle.checker.specs.Lengths.{long}
use Rattle.checker.proofs.Laws.{turned_short, checked}
use Rattle.checker.proofs.check.Goals as goal

pub returns-then-too_short : goal.returns-then-too_short
returns-then-too_short c = turned_short _ _ _ (sym c.too_short.ensures ∙ c.if-too_short.true)

pub answer-said-requires : goal.answer-said-requires
answer-said-requires c = long _ _ _ _ (sym c.too_short.ensures ∙ c.if-too_short.false)

pub returns : goal.returns
returns c =
    checked c.answer-said.ensures c.clear.ensures c.clear-2.ensures (sym c.too_short.ensures ∙ c.if-too_short.false)
