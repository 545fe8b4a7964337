-- `is_read` meets its contract: the reader's answer is that of the definition.
use Rattle.std.specs.Prelude.{is_ok}
use mathlib.Core.Path.{ap, ◌∙◌}
use Rattle.writer.proofs.LawsText.{read_answer}
use Rattle.writer.proofs.is_read.Goals as goal

pub returns : goal.returns
returns c = c.is_ok.ensures.value ∙ ap is_ok c.load.ensures.answer ∙ read_answer _
