-- `checker::write_faults` meets its contract: what is missing, or what the analysis' states show, is said of the loaded sheet.
use native.Mathlib.Omega.{arith}
use mathlib.Core.Path.{refl}
use Rattle.checker.proofs.Laws.{reported, nothing_missing, same_sheet, checkable}
use Rattle.checker.proofs.write_faults.Goals as goal

pub write_missing-requires : goal.write_missing-requires
write_missing-requires c =
    (c.requires.0, rw c.in-Some.is at c.find_missing.ensures, omega arith)

pub returns-in-Some : goal.returns-in-Some
returns-in-Some c = reported c.write_missing.ensures refl refl

pub analyze-requires : goal.analyze-requires
analyze-requires c =
    (c.requires.0, (nothing_missing c.find_missing.ensures c.in_default.is), omega arith, omega arith)

pub write_errors-requires : goal.write_errors-requires
write_errors-requires c = ((checkable c.requires.0 c.requires.1 (nothing_missing c.find_missing.ensures c.in_default.is) c.requires.3 c.analyze.ensures.0), omega arith)

pub returns : goal.returns
returns c =
    let e = c.analyze.ensures.0 in
    let same = same_sheet c.requires.0 c.requires.1 (nothing_missing c.find_missing.ensures c.in_default.is) c.requires.3 e in
    reported (rw same at c.write_errors.ensures) e.kept.same_length e.same_length
