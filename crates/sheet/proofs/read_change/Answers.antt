-- `sheet::read_change` meets its contract: place, counts and typed names in the words are those of the sheet so far, so what
-- `change_line` tells holds of it; a good line's action fits.
use mathlib.Core.Path.{refl, ap}
use native.Mathlib.Omega.{arith}
use Rattle.lists.specs.Region.{region, length_region}
use Rattle.layout.specs.Layout.{typed_base, typed_words}
use Rattle.records.specs.Records.{change_line}
use Rattle.loaded.specs.Actions.{step_of}
use Rattle.loaded.specs.Loaded.{so_far}
use Rattle.sheet.proofs.LawsProgress.{step_ready, size_of, step_placed, within_by, so_far_counted, so_far_typed}
use Rattle.sheet.proofs.LawsJudged.{line_refused, line_accepted}
use Rattle.sheet.proofs.LawsActions.{change_fits}
use Rattle.sheet.proofs.read_change.Goals as goal

pub step_place-place-requires : goal.step_place-place-requires
step_place-place-requires c = size_of _ c.requires.1

pub counts_of-counts-requires : goal.counts_of-counts-requires
counts_of-counts-requires c = size_of _ c.requires.1

pub slice_bounds-change_line-end : goal.slice_bounds-change_line-end
slice_bounds-change_line-end c = omega (arith, size_of _ c.requires.1)

pub change_line-requires : goal.change_line-requires
unfolding region
change_line-requires c =
    let typed = length_region typed_base typed_words c.args.words.now (omega (arith, size_of _ c.requires.1)) in
    (c.requires.0, typed, within_by _ _ c.counts_of-counts.ensures c.requires.1)

pub add_step-requires : goal.add_step-requires
add_step-requires c =
    let r = (step_ready c.requires.1 c.step_place-place.ensures c.in_ok-line.ensures.clear.0) in
    (r.some_sheet, r.some_block, r.some_room, change_fits _ c.requires.1 _ _ _ _ (rw c.counts_of-counts.ensures at c.in_ok-line.ensures.clear.1.slot_below))

pub returns-in_err-line : goal.returns-in_err-line
unfolding change_line region
returns-in_err-line c =
    line_refused (let p = c.requires.1 in
    c.change_line.ensures.result_value (so_far _) (step_placed _ p _ c.step_place-place.ensures) (so_far_counted _ p _ c.counts_of-counts.ensures) (so_far_typed _ p)) _ c.from_residual.ensures.1 refl (ap change_line c.in_err-line.was)

pub returns : goal.returns
unfolding change_line step_of region
returns c =
    line_accepted (let p = c.requires.1 in
    c.change_line.ensures.result_value (so_far _) (step_placed _ p _ c.step_place-place.ensures) (so_far_counted _ p _ c.counts_of-counts.ensures) (so_far_typed _ p)) c.requires.1 (ap change_line c.in_ok-line.was) c.in_ok-line.ensures.clear.0.inside c.add_step.ensures
