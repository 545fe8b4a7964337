-- `write_errors` meets its contract: no allocation is missing, so the lines are every block's. Counting the faults leaves the report as
-- it is; the header, a line for each step and one for each block fit. Where the count is 0 the sheet is accepted, and its lines are those of
-- the blocks without a mark.
use mathlib.Core.Path.{sym}
use native.Mathlib.Omega.{arith}
use Rattle.std.proofs.Common.{rules}
use Rattle.report.specs.Lengths.{header_short}
use Rattle.faults.proofs.LawsBlock.{faultless_lines}
use Rattle.faults.proofs.LawsReported.{none_counted, errors_accepted, errors_faulty, entries_found}
use Rattle.faults.proofs.write_errors.Goals as goal

pub write_header-next-requires : goal.write_header-next-requires
write_header-next-requires c = (omega arith, omega (arith, header_short c.args.rule c.find_errors.new.lines.faults))

pub write_unmarked-requires : goal.write_unmarked-requires
write_unmarked-requires c = (c.requires.0.loaded, c.requires.0.room, omega (arith, header_short c.args.rule c.find_errors.new.lines.faults))

pub returns-then-count-eq0 : goal.returns-then-count-eq0
returns-then-count-eq0 c = let z = c.if-count-eq0.true in
    let n = c.find_errors.ensures.lines in
    let same = faultless_lines c.requires.0 (none_counted _ n z) in
    rw (entries_found _ _ c.requires.0.allocated)
    (errors_accepted _ _ n c.write_header-next.ensures (rw same at c.write_unmarked.ensures.0)
    (omega (arith, header_short c.args.rule c.find_errors.new.lines.faults))
    c.requires.1 z)

pub find_errors-requires-2 : goal.find_errors-requires-2
find_errors-requires-2 c = (c.requires.0, omega (arith, header_short c.args.rule c.find_errors.new.lines.faults))

pub returns : goal.returns
returns c =
    let same = sym c.find_errors-2.ensures.lines.0 in
    let done = errors_faulty _ _ c.find_errors.ensures.lines c.write_header-next.ensures c.find_errors-2.ensures.lines.1
    (omega (arith, c.find_errors-2.ensures.most, header_short c.args.rule c.find_errors.new.lines.faults))
    c.requires.1 c.if-count-eq0.false in
    rw (entries_found _ _ c.requires.0.allocated) (search rules)
