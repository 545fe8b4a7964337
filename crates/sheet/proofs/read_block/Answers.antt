-- `sheet::read_block` meets its contract: place and counts in the words are those of the sheet so far, so what `block_line` tells
-- holds of it; for a good line there is room for a block, so `F` was read, and each successor is below `F`'s count.
use mathlib.Core.Path.{refl, ap, subst}
use Rattle.records.specs.Records.{block_line}
use Rattle.loaded.specs.Filling.{BlockWithin}
use Rattle.loaded.specs.declared.Counts.{Counts}
use Rattle.loaded.specs.Loaded.{so_far}
use Rattle.sheet.proofs.LawsProgress.{size_of, room_of, begun_by_room, block_placed, so_far_counted}
use Rattle.sheet.proofs.LawsJudged.{line_refused, line_accepted}
use Rattle.sheet.proofs.read_block.Goals as goal

pub progress-reached-requires : goal.progress-reached-requires
progress-reached-requires c = size_of _ c.requires.1

pub blocks-requires : goal.blocks-requires
blocks-requires c = size_of _ c.requires.1

pub counts_of-counts-requires : goal.counts_of-counts-requires
counts_of-counts-requires c = size_of _ c.requires.1

pub add_block-requires : goal.add_block-requires
add_block-requires c =
    let room = room_of _ c.requires.1 c.progress-reached.ensures c.blocks-2.ensures c.in_ok-line.ensures.clear.0.placed in
    (begun_by_room _ c.requires.1 room, room, (subst (λ (k : Counts). BlockWithin k.blocks c.in_ok-line.line.count c.in_ok-line.line.succs) c.counts_of-counts.ensures c.in_ok-line.ensures.clear.1))

pub returns-in_err-line : goal.returns-in_err-line
unfolding block_line
returns-in_err-line c =
    line_refused (let p = c.requires.1 in
    c.block_line.ensures.by_index (so_far _) (block_placed _ p c.progress-reached.ensures c.blocks-2.ensures) (so_far_counted _ p _ c.counts_of-counts.ensures)) _ c.from_residual.ensures.1 refl (ap block_line c.in_err-line.was)

pub returns : goal.returns
unfolding block_line
returns c =
    line_accepted (let p = c.requires.1 in
    c.block_line.ensures.by_index (so_far _) (block_placed _ p c.progress-reached.ensures c.blocks-2.ensures) (so_far_counted _ p _ c.counts_of-counts.ensures)) c.requires.1 (ap block_line c.in_ok-line.was) c.in_ok-line.ensures.clear.0.inside c.add_block.ensures
