-- `write_typed` meets its contract: nothing where the word is 0, else its two parts, one behind the other.
use native.Mathlib.Omega.{arith}
use Rattle.lists.specs.Sets.{then}
use borrow.Author.Tests.{eq-eqb, ne_eqb}
use Rattle.paper.specs.Report.{behind_tabs}
use Rattle.paper.specs.Writing.{letter_of, texts_of, record_text}
use Rattle.writer.specs.Form.{typed_text}
use Rattle.writer.proofs.LawsLeft.{wrote_nothing}
use Rattle.writer.proofs.write_typed.Goals as goal

pub returns-then-word-eq0 : goal.returns-then-word-eq0
unfolding typed_text
returns-then-word-eq0 c = (rw (eq-eqb _ _ c.if-word-eq0.true) (wrote_nothing _ _), omega arith)

pub returns : goal.returns
unfolding typed_text behind_tabs letter_of texts_of record_text
returns c = (rw (ne_eqb _ _ c.if-word-eq0.false) (then c.write_lettered-a.ensures.0 c.write_byte.ensures), omega arith)
