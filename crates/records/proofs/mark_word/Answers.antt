-- `records::mark_word` meets its contract: one case for each answer of `is_typed`.
use mathlib.Core.Path.{sym, ◌∙◌}
use Rattle.records.specs.Parts.{mark_word}
use Rattle.records.proofs.mark_word.Goals as goal

pub returns-then-is_typed : goal.returns-then-is_typed
unfolding mark_word
returns-then-is_typed c = rw (sym c.is_typed.ensures ∙ c.if-is_typed.true)

pub returns-else-is_typed : goal.returns-else-is_typed
unfolding mark_word
returns-else-is_typed c = rw (sym c.is_typed.ensures ∙ c.if-is_typed.false)
