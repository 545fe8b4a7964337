-- `sheet::no_text` meets its contract: an empty sheet is refused; of any other the two tests that are left are the paper's.
use Rattle.sheet.proofs.LawsText.{no_text_empty, no_text_some}
use mathlib.Core.Path.{sym}
use Rattle.sheet.proofs.no_text.Goals as goal

pub returns-then-n-eq0 : goal.returns-then-n-eq0
returns-then-n-eq0 c = sym (no_text_empty _ c.if-n-eq0.true)

pub returns : goal.returns
returns c = sym (no_text_some _ c.if-n-eq0.false)
