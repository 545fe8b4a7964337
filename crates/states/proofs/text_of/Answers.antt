-- `text_of` meets its contract: each part is stated by the function that writes it.
use Rattle.states.specs.Stated.{part_text, part_size}
use Rattle.states.proofs.text_of.Goals as goal

pub returns-in-Answer : goal.returns-in-Answer
unfolding part_text part_size
returns-in-Answer c = rw c.in-Answer.is c.answer_text.ensures

pub returns-in-States : goal.returns-in-States
unfolding part_text part_size
returns-in-States c = rw c.in-States.is c.entry_states.ensures.0
