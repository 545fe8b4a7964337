-- `write_back` meets its contract: too few words, then by the answer of `load_sheet`.
use Rattle.writer.proofs.LawsLoad.{back_short, back_refused, back_written}
use Rattle.writer.proofs.write_back.Goals as goal

pub returns-then-words-lt-WORDS_SIZE : goal.returns-then-words-lt-WORDS_SIZE
returns-then-words-lt-WORDS_SIZE c = back_short _ _ _ c.if-words-lt-WORDS_SIZE.true

pub returns-in-Err : goal.returns-in-Err
returns-in-Err c = back_refused c.if-words-lt-WORDS_SIZE.false c.load_sheet.ensures _ _ c.in-Err.is

pub returns-in-Ok : goal.returns-in-Ok
returns-in-Ok c = back_written c.if-words-lt-WORDS_SIZE.false c.load_sheet.ensures _ _ _ _ c.in-Ok.is c.write_sheet-written.ensures c.clear.ensures
