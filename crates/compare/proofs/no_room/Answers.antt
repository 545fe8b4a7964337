-- `no_room` meets its contract, test by test.
use Rattle.compare.proofs.LawsText.{first_long, second_long, both_short}
use Rattle.compare.proofs.no_room.Goals as goal

pub returns-then-first-gt-LONGEST_REPORT : goal.returns-then-first-gt-LONGEST_REPORT
returns-then-first-gt-LONGEST_REPORT c = first_long _ _ _ c.if-first-gt-LONGEST_REPORT.true

pub returns-then-second-gt-LONGEST_REPORT : goal.returns-then-second-gt-LONGEST_REPORT
returns-then-second-gt-LONGEST_REPORT c = second_long _ _ _ c.if-first-gt-LONGEST_REPORT.false c.if-second-gt-LONGEST_REPORT.true

pub returns : goal.returns
returns c = both_short _ _ _ c.if-first-gt-LONGEST_REPORT.false c.if-second-gt-LONGEST_REPORT.false
