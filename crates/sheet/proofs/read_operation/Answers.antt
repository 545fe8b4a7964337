-- `sheet::read_operation` meets its contract: place, counts and typed names in the words are those of the sheet so far, so what
-- `operation_line` tells holds of it; a good line's operands are stored behind all that was read, and the action finds them there.
use mathlib.Core.Path.{refl, ap, subst}
use native.Mathlib.Omega.{arith}
use Rattle.lists.specs.Region.{region, length_region}
use Rattle.layout.specs.Layout.{typed_base, typed_words}
use Rattle.records.specs.Records.{operation_line, GroupsWithin}
use Rattle.loaded.specs.declared.Counts.{Counts}
use Rattle.loaded.specs.Loaded.{sheet_of, so_far}
use Rattle.sheet.proofs.LawsProgress.{step_ready, size_of, counted_of, typed_by, step_placed, within_by, so_far_counted}
use Rattle.sheet.proofs.LawsJudged.{line_refused, line_accepted}
use Rattle.sheet.proofs.read_operation.Goals as goal

pub step_place-place-requires : goal.step_place-place-requires
step_place-place-requires c = size_of _ c.requires.1

pub counts_of-counts-requires : goal.counts_of-counts-requires
counts_of-counts-requires c = size_of _ c.requires.1

pub slice_bounds-operation_line-end : goal.slice_bounds-operation_line-end
slice_bounds-operation_line-end c = omega (arith, size_of _ c.requires.1)

pub operation_line-requires : goal.operation_line-requires
unfolding region
operation_line-requires c =
    let typed = length_region typed_base typed_words c.args.words.now (omega (arith, size_of _ c.requires.1)) in
    (c.requires.0, typed, within_by _ _ c.counts_of-counts.ensures c.requires.1)

pub add_operation-requires : goal.add_operation-requires
unfolding region
add_operation-requires c =
    let words = c.args.words.now in
    let r = step_ready c.requires.1 c.step_place-place.ensures c.in_ok-line.ensures.clear.0 in
    let w = subst (λ (k : Counts). GroupsWithin k (region typed_base typed_words words) c.in_ok-line.line.operands c.in_ok-line.line.n c.in_ok-line.line.m)
    c.counts_of-counts.ensures
    c.in_ok-line.ensures.clear.1 in
    (r.some_sheet, r.some_block, r.some_room, w.uses_within (sheet_of words) (counted_of words) (typed_by words), w.defs_within (sheet_of words) (counted_of words) (typed_by words))

pub returns-in_err-line : goal.returns-in_err-line
unfolding operation_line
returns-in_err-line c =
    line_refused (let p = c.requires.1 in
    c.operation_line.ensures.result_value (so_far _) (step_placed _ p _ c.step_place-place.ensures) (so_far_counted _ p _ c.counts_of-counts.ensures)) _ c.from_residual.ensures.1 refl (ap operation_line c.in_err-line.was)

pub returns : goal.returns
unfolding operation_line region
returns c =
    line_accepted (let p = c.requires.1 in
    c.operation_line.ensures.result_value (so_far _) (step_placed _ p _ c.step_place-place.ensures) (so_far_counted _ p _ c.counts_of-counts.ensures)) c.requires.1 (ap operation_line c.in_ok-line.was) c.in_ok-line.ensures.clear.0.inside c.add_operation.ensures
