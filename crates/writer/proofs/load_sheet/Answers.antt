-- `load_sheet` meets its contract: too few words, then by the reader's answer.
use Rattle.writer.proofs.LawsLoad.{refused_short, read_loaded, read_refused}
use Rattle.writer.proofs.load_sheet.Goals as goal

pub returns-then-words-lt-WORDS_SIZE : goal.returns-then-words-lt-WORDS_SIZE
returns-then-words-lt-WORDS_SIZE c = refused_short _ _ c.if-words-lt-WORDS_SIZE.true

pub returns-in-Err : goal.returns-in-Err
returns-in-Err c = read_refused c.if-words-lt-WORDS_SIZE.false c.load.ensures _ _ c.in-Err.is c.clear.ensures

pub returns : goal.returns
returns c = read_loaded c.if-words-lt-WORDS_SIZE.false c.load.ensures c.in_default.is
