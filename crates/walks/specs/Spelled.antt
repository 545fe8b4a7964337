-- The states by rows and counts, in document 01's own words: two rows, of registers and of slots.
use Rattle.std.specs.Prelude.{◌≡◌, refl, false, [], ◌∷◌, replicate}
use Rattle.paper.specs.Text.{real}
use Rattle.paper.specs.Sheet.{Sheet}
use Rattle.paper.specs.Cells.{named}
use Rattle.paper.specs.Steps.{counts_of, row_of, unfilled, unfilled_rows, entry_rows, entry_state, unreached_state}
use Rattle.paper.specs.declared.Rule.{Rule}

pub entry_two_rows : (rule : Rule) (S : Sheet) → entry_state rule S ≡ row_of S.regs (λ i. named (real i) false) ∷ replicate S.slots (unfilled rule) ∷ []
unfolding entry_state entry_rows unfilled_rows counts_of
entry_two_rows rule S = refl

pub unreached_two_rows : (rule : Rule) (S : Sheet) → unreached_state rule S ≡ replicate S.regs (unfilled rule) ∷ replicate S.slots (unfilled rule) ∷ []
unfolding unreached_state unfilled_rows counts_of
unreached_two_rows rule S = refl
