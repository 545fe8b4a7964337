-- `write_missing_among` meets its contract: the header counts the lines, and there is one at least, so the sheet is faulty; a
-- header and eight lines fit.
use native.Mathlib.Omega.{arith}
use Rattle.report.specs.Lengths.{header_short}
use Rattle.faults.proofs.LawsReported.{reported_names}
use Rattle.faults.proofs.write_missing_among.Goals as goal

pub write_header-next-requires : goal.write_header-next-requires
write_header-next-requires c = (omega arith, omega (arith, (header_short c.args.rule c.count_missing-missing.result)))

pub write_names-requires : goal.write_names-requires
write_names-requires c = (omega arith, c.requires.2, omega (arith, (header_short c.args.rule c.count_missing-missing.result)))

pub returns : goal.returns
returns c = reported_names _ _ _ _ c.count_missing-missing.ensures.0 c.write_header-next.ensures c.write_names.ensures.0 c.requires.4
    (omega (arith, (header_short c.args.rule c.count_missing-missing.result))) c.requires.3
