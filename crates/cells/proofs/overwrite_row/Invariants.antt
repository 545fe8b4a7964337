-- `overwrite_row` meets its contract: before each turn the cells below the index are overwritten, the others as they were.
use Rattle.paper.specs.Cells.{overwritten}
use Rattle.cells.specs.Packed.{name_of_word}
use Rattle.cells.proofs.Rows.{Reached}
use Rattle.cells.proofs.overwrite_row.Given as goal

abbrev pub invariant-loop-word : goal.invariant-loop-word
invariant-loop-word l = Reached l.word-index (λ k. overwritten (name_of_word l.name)) l.initial.row l.row
