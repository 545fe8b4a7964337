-- `write_block` meets its contract: the head, the registers, the slots and the end of the line, and there is room for each.
use native.Mathlib.Omega.{arith}
use Rattle.states.proofs.Laws.{block_room, rows_room, wrote_block}
use Rattle.states.proofs.write_block.Goals as goal

pub row_counts-counts-requires : goal.row_counts-counts-requires
row_counts-counts-requires c = omega (arith, block_room c.requires.0 c.requires.1)

pub overflow_mul-row : goal.overflow_mul-row
overflow_mul-row c = omega (arith, block_room c.requires.0 c.requires.1)

pub overflow_add-row : goal.overflow_add-row
overflow_add-row c = omega (arith, block_room c.requires.0 c.requires.1)

pub overflow_add-next_row : goal.overflow_add-next_row
overflow_add-next_row c = omega (arith, block_room c.requires.0 c.requires.1)

pub overflow_add-b : goal.overflow_add-b
overflow_add-b c = omega (arith, block_room c.requires.0 c.requires.1)

pub offset_bounds-words-b : goal.offset_bounds-words-b
offset_bounds-words-b c = omega (arith, block_room c.requires.0 c.requires.1)

pub bounds-words-b : goal.bounds-words-b
bounds-words-b c = omega (arith, block_room c.requires.0 c.requires.1)

pub write_head-head-requires : goal.write_head-head-requires
write_head-head-requires c = (omega (arith, block_room c.requires.0 c.requires.1, (rows_room c.requires.0 c.requires.1 c.row_counts-counts.result c.row_counts-counts.ensures)), omega (arith, block_room c.requires.0 c.requires.1, (rows_room c.requires.0 c.requires.1 c.row_counts-counts.result c.row_counts-counts.ensures)))

pub write_row-first-requires : goal.write_row-first-requires
write_row-first-requires c = (omega (arith, block_room c.requires.0 c.requires.1, (rows_room c.requires.0 c.requires.1 c.row_counts-counts.result c.row_counts-counts.ensures)), omega (arith, block_room c.requires.0 c.requires.1, (rows_room c.requires.0 c.requires.1 c.row_counts-counts.result c.row_counts-counts.ensures)))

pub write_row-second-requires : goal.write_row-second-requires
write_row-second-requires c = (omega (arith, block_room c.requires.0 c.requires.1, (rows_room c.requires.0 c.requires.1 c.row_counts-counts.result c.row_counts-counts.ensures)), omega (arith, block_room c.requires.0 c.requires.1, (rows_room c.requires.0 c.requires.1 c.row_counts-counts.result c.row_counts-counts.ensures)))

pub write_byte-requires : goal.write_byte-requires
write_byte-requires c = omega (arith, block_room c.requires.0 c.requires.1, (rows_room c.requires.0 c.requires.1 c.row_counts-counts.result c.row_counts-counts.ensures))

pub returns : goal.returns
returns c = (wrote_block c.requires.0 c.requires.1 c.row_counts-counts.result c.row_counts-counts.ensures _ c.visited-mark.ensures c.write_head-head.ensures.0 c.write_row-first.ensures.0 c.write_row-second.ensures.0 c.write_byte.ensures, omega (arith, block_room c.requires.0 c.requires.1, (rows_room c.requires.0 c.requires.1 c.row_counts-counts.result c.row_counts-counts.ensures)))
