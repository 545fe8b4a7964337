-- `sheet::read_typed` meets its contract: place, counts and least number in the words are those of the sheet so far, so what
-- `typed_line` tells holds of it; for a good line `F` was read and no `B`, and the name is below `vregs` and in order.
use mathlib.Core.Path.{refl, ap}
use native.Mathlib.Omega.{arith}
use Rattle.records.specs.Records.{typed_line}
use Rattle.loaded.specs.declared.Reached.{Reached}
use Rattle.loaded.specs.Loaded.{so_far}
use Rattle.sheet.proofs.LawsProgress.{size_of, typed_ready, typed_placed, within_by, so_far_counted, so_far_least}
use Rattle.sheet.proofs.LawsJudged.{line_refused, line_accepted}
use Rattle.sheet.proofs.read_typed.Goals as goal

pub progress-reached-requires : goal.progress-reached-requires
progress-reached-requires c = size_of _ c.requires.1

pub counts_of-counts-requires : goal.counts_of-counts-requires
counts_of-counts-requires c = size_of _ c.requires.1

pub overflow_cast-line : goal.overflow_cast-line
overflow_cast-line c = omega (arith, (rw c.counts_of-counts.ensures at c.in_ok-line.ensures.clear.1.name_below), (within_by _ _ c.counts_of-counts.ensures c.requires.1).vregs)

pub add_typed-requires : goal.add_typed-requires
add_typed-requires c =
    let e = c.progress-reached.ensures in
    let q = typed_ready _ c.requires.1 e c.in_ok-line.ensures.clear.0.placed in
    (q.0, q.1, (rw c.counts_of-counts.ensures at c.in_ok-line.ensures.clear.1.name_below), omega (arith, ap (λ (r : Reached). r.least) e, c.in_ok-line.ensures.clear.1.name_ascends))

pub returns-in_err-line : goal.returns-in_err-line
unfolding typed_line
returns-in_err-line c =
    line_refused (let p = c.requires.1 in
    c.typed_line.ensures.by_index (so_far _) (typed_placed _ p c.progress-reached.ensures) (so_far_counted _ p _ c.counts_of-counts.ensures) (so_far_least _ p c.progress-reached.ensures)) _ c.from_residual.ensures.1 refl (ap typed_line c.in_err-line.was)

pub returns : goal.returns
unfolding typed_line
returns c =
    line_accepted (let p = c.requires.1 in
    c.typed_line.ensures.by_index (so_far _) (typed_placed _ p c.progress-reached.ensures) (so_far_counted _ p _ c.counts_of-counts.ensures) (so_far_least _ p c.progress-reached.ensures)) c.requires.1 (ap typed_line c.in_ok-line.was) c.in_ok-line.ensures.clear.0.inside c.add_typed.ensures
