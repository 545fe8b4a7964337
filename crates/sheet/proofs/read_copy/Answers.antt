-- `sheet::read_copy` meets its contract: `pair_line` holds the numbers against the counts of the kind's rows, as the paper does
-- (`copy_paired`), in the place that the words tell; a good line's action fits.
use mathlib.Core.Path.{refl, ap}
use Rattle.records.specs.Records.{pair_line}
use Rattle.loaded.specs.Actions.{copy_step, step_of}
use Rattle.loaded.specs.Loaded.{so_far}
use Rattle.sheet.proofs.LawsProgress.{step_ready, size_of, step_placed, so_far_counted}
use Rattle.sheet.proofs.LawsJudged.{line_refused, line_accepted}
use Rattle.sheet.proofs.LawsActions.{copy_fits, copy_paired}
use Rattle.sheet.proofs.read_copy.Goals as goal

pub step_place-place-requires : goal.step_place-place-requires
step_place-place-requires c = size_of _ c.requires.1

pub counts_of-counts-requires : goal.counts_of-counts-requires
counts_of-counts-requires c = size_of _ c.requires.1

pub add_step-requires : goal.add_step-requires
add_step-requires c =
    let r = (step_ready c.requires.1 c.step_place-place.ensures c.in_ok-line.ensures.clear.0) in
    (r.some_sheet, r.some_block, r.some_room, copy_fits _ c.requires.1 _ c.counts_of-counts.ensures c.limits_of-limits.ensures c.in_ok-line.ensures.clear.1)

pub returns-in_err-line : goal.returns-in_err-line
unfolding pair_line
returns-in_err-line c =
    line_refused (let p = c.requires.1 in
    c.pair_line.ensures.result_value (so_far _) (copy_step c.args.kind) (step_placed _ p _ c.step_place-place.ensures) (copy_paired _ (so_far_counted _ p _ c.counts_of-counts.ensures) c.limits_of-limits.ensures)) _ c.from_residual.ensures.1 refl (ap (pair_line (copy_step _)) c.in_err-line.was)

pub returns : goal.returns
unfolding pair_line step_of
returns c =
    line_accepted (let p = c.requires.1 in
    c.pair_line.ensures.result_value (so_far _) (copy_step c.args.kind) (step_placed _ p _ c.step_place-place.ensures) (copy_paired _ (so_far_counted _ p _ c.counts_of-counts.ensures) c.limits_of-limits.ensures)) c.requires.1 (ap (pair_line (copy_step _)) c.in_ok-line.was) c.in_ok-line.ensures.clear.0.inside c.add_step.ensures
