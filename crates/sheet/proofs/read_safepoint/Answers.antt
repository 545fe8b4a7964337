-- `sheet::read_safepoint` meets its contract: place and counts in the words are those of the sheet so far, so what `safepoint_line`
-- tells holds of it; a good line's action fits.
use mathlib.Core.Path.{refl, ap}
use Rattle.records.specs.Records.{safepoint_line}
use Rattle.loaded.specs.Actions.{step_of}
use Rattle.loaded.specs.Loaded.{so_far}
use Rattle.sheet.proofs.LawsProgress.{step_ready, size_of, step_placed, so_far_counted}
use Rattle.sheet.proofs.LawsJudged.{line_refused, line_accepted}
use Rattle.sheet.proofs.LawsActions.{safepoint_fits}
use Rattle.sheet.proofs.read_safepoint.Goals as goal

pub step_place-place-requires : goal.step_place-place-requires
step_place-place-requires c = size_of _ c.requires.1

pub counts_of-counts-requires : goal.counts_of-counts-requires
counts_of-counts-requires c = size_of _ c.requires.1

pub add_step-requires : goal.add_step-requires
add_step-requires c =
    let r = (step_ready c.requires.1 c.step_place-place.ensures c.in_ok-line.ensures.clear.0) in
    (r.some_sheet, r.some_block, r.some_room, safepoint_fits _ c.requires.1 _ _ (rw c.counts_of-counts.ensures at c.in_ok-line.ensures.clear.1.mask_below))

pub returns-in_err-line : goal.returns-in_err-line
unfolding safepoint_line
returns-in_err-line c =
    line_refused (let p = c.requires.1 in
    c.safepoint_line.ensures.result_value (so_far _) (step_placed _ p _ c.step_place-place.ensures) (so_far_counted _ p _ c.counts_of-counts.ensures)) _ c.from_residual.ensures.1 refl (ap safepoint_line c.in_err-line.was)

pub returns : goal.returns
unfolding safepoint_line step_of
returns c =
    line_accepted (let p = c.requires.1 in
    c.safepoint_line.ensures.result_value (so_far _) (step_placed _ p _ c.step_place-place.ensures) (so_far_counted _ p _ c.counts_of-counts.ensures)) c.requires.1 (ap safepoint_line c.in_ok-line.was) c.in_ok-line.ensures.clear.0.inside c.add_step.ensures
