-- `checker::too_short` meets its contract: each test decides refusal 1, and the last one's result is the answer.
use native.Mathlib.Omega.{arith}
use Rattle.checker.specs.Lengths.{short_report, short_words, by_queue}
use Rattle.checker.proofs.too_short.Goals as goal

pub returns-then-report-size : goal.returns-then-report-size
returns-then-report-size c = short_report _ _ _ _ c.if-report-size.true

pub returns-then-words-lt-WORDS_SIZE : goal.returns-then-words-lt-WORDS_SIZE
returns-then-words-lt-WORDS_SIZE c = short_words _ _ _ _ c.if-words-lt-WORDS_SIZE.true

pub returns : goal.returns
returns c = by_queue _ _ _ _ (omega arith) (omega arith)
