-- `compare` meets its contract: the first report, the second, and where they part.
use mathlib.Core.Path.{refl}
use Rattle.compare.proofs.LawsLine.{first_bad, second_bad, both_good, line_is, line_none}
use Rattle.compare.proofs.compare.Goals as goal

pub returns-in-Some-clause-value : goal.returns-in-Some-clause-value
returns-in-Some-clause-value c = let f = line_is _ c.in-Some.ensures.value in first_bad _ _ f.0 f.1

pub returns-in-Some-bad_line-clause-value : goal.returns-in-Some-bad_line-clause-value
returns-in-Some-bad_line-clause-value c =
    let f = line_is _ c.in-Some-bad_line.ensures.value in
    second_bad _ _ refl (line_none _ c.in_default.ensures.value) f.0 f.1

pub returns-clause-value : goal.returns-clause-value
returns-clause-value c = both_good _ _ refl (line_none _ c.in_default.ensures.value) refl (line_none _ c.in_default-bad_line.ensures.value) c.part.ensures.value
