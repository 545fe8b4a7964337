-- `header` meets its contract, field by field (`Heading`).
use mathlib.Core.Path.{sym, ◌∙◌}
use Rattle.compare.proofs.Laws.{no_feed}
use Rattle.compare.proofs.LawsLine.{letter_none, letter_there, rule_none, rule_there, no_count, count_none, header_good, header_open}
use Rattle.compare.proofs.header.Goals as goal

pub returns-in_err-letter-clause-value : goal.returns-in_err-letter-clause-value
returns-in_err-letter-clause-value c = c.from_residual.ensures ∙ letter_none _ c.in_err-letter.ensures.value

pub returns-in_err-rule-clause-value : goal.returns-in_err-rule-clause-value
returns-in_err-rule-clause-value c = c.from_residual-in_err-rule.ensures ∙ rule_none _ (letter_there _ c.in_ok-letter.ensures.value) c.in_err-rule.ensures.value

pub returns-in_err-start-clause-value : goal.returns-in_err-start-clause-value
returns-in_err-start-clause-value c = c.from_residual-in_err-start.ensures ∙ no_count _ (rule_there _ (letter_there _ c.in_ok-letter.ensures.value) c.in_ok-rule.ensures.value) c.in_err-start.ensures

pub returns-in_err-count-clause-value : goal.returns-in_err-count-clause-value
returns-in_err-count-clause-value c = c.from_residual-in_err-count.ensures ∙ count_none _ (rule_there _ (letter_there _ c.in_ok-letter.ensures.value) c.in_ok-rule.ensures.value) c.in_ok-start.ensures.0 c.in_ok-start.ensures.2 (sym c.in_err-count.ensures.value)

pub returns-in_err-ends-clause-value : goal.returns-in_err-ends-clause-value
returns-in_err-ends-clause-value c = c.from_residual-in_err-ends.ensures ∙ header_open _ (rule_there _ (letter_there _ c.in_ok-letter.ensures.value) c.in_ok-rule.ensures.value) c.in_ok-start.ensures.0 c.in_ok-start.ensures.2 (sym c.in_ok-count.ensures.value) c.in_err-ends.ensures.within.1

pub returns-in-LineFeed-clause-value : goal.returns-in-LineFeed-clause-value
returns-in-LineFeed-clause-value c = header_good _ (rule_there _ (letter_there _ c.in_ok-letter.ensures.value) c.in_ok-rule.ensures.value) c.in_ok-start.ensures.0 c.in_ok-start.ensures.2 (sym c.in_ok-count.ensures.value) (rw c.in-LineFeed.is at c.in_ok-ends.ensures.within).1

pub returns-in-Tab-clause-value : goal.returns-in-Tab-clause-value
returns-in-Tab-clause-value c = header_open _ (rule_there _ (letter_there _ c.in_ok-letter.ensures.value) c.in_ok-rule.ensures.value) c.in_ok-start.ensures.0 c.in_ok-start.ensures.2 (sym c.in_ok-count.ensures.value) (no_feed c.args.s.now c.in_ok-count.next (rw c.in-Tab.is at c.in_ok-ends.ensures.within).1)
