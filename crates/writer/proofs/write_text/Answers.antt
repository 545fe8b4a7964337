-- `write_text` meets its contract: the `F` line, the `T` lines and the blocks, one behind the other.
use native.Mathlib.Omega.{arith}
use Rattle.lists.specs.Region.{region, length_region}
use Rattle.layout.specs.Layout.{entry_word, typed_base, typed_words}
use Rattle.writer.specs.Filled.{whole, filled_then}
use Rattle.writer.proofs.LawsText.{fitting, whole_text}
use Rattle.writer.proofs.write_text.Goals as goal

pub counts_of-counts-requires : goal.counts_of-counts-requires
counts_of-counts-requires c = omega (arith, (fitting _ c.requires.0).size)

pub entry-entry-requires : goal.entry-entry-requires
entry-entry-requires c = omega (arith, (fitting _ c.requires.0).size)

pub overflow_cast-entry : goal.overflow_cast-entry
overflow_cast-entry c = omega (arith, c.entry-entry.ensures, c.shared_slice_known-1.given entry_word)

pub slice_bounds-write_all_typed-start : goal.slice_bounds-write_all_typed-start
slice_bounds-write_all_typed-start c = omega (arith, (fitting _ c.requires.0).size)

pub slice_bounds-write_all_typed-end : goal.slice_bounds-write_all_typed-end
slice_bounds-write_all_typed-end c = omega (arith, (fitting _ c.requires.0).size)

pub write_all_typed-b-requires : goal.write_all_typed-b-requires
unfolding region
write_all_typed-b-requires c = (length_region typed_base typed_words c.args.words.now (omega (arith, (fitting _ c.requires.0).size)), omega arith)

pub write_blocks-requires : goal.write_blocks-requires
write_blocks-requires c = (c.requires.0, omega arith)

pub returns : goal.returns
unfolding region
returns c = rw (← whole_text _)
    (filled_then (whole (rw (c.counts_of-counts.ensures, c.entry-entry.ensures) at c.write_function-a.ensures.0))
    (filled_then (whole c.write_all_typed-b.ensures.0) c.write_blocks.ensures))
