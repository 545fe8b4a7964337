-- How far a cell can fall under each meet, which cells occur, and what a sheet is whose entry and successors are blocks.
use Rattle.std.specs.Prelude.{◌≡◌, refl, true, false, List, [], ◌∷◌, ℕ, suc, zero, ◌+◌, ◌*◌, ◌<◌, replicate}
use Rattle.std.proofs.Common.{mul-suc, mul-add, arith}
use Rattle.paper.specs.Sheet.{Sheet, succs_of}
use Rattle.paper.specs.Cells.{Cell, absent, unknown, conflicted, named}
use Rattle.paper.specs.Steps.{counts_of, total, cell_count}
use Rattle.paper.specs.Walks.{In}
use Rattle.paper.specs.declared.Rule.{Rule}
use Rattle.paper.specs.declared.Rule.TheVariants.{Old, House}
use Rattle.walks.specs.Heights.{sum}
use Rattle.walks.specs.Fits.{shape_of, shape}

-- how far a cell can still fall: under the house rule Absent never occurs
unfoldable pub height : Rule → Cell → ℕ
height House absent = 0
height House unknown = 0
height House conflicted = 1
height House (named n true) = 2
height House (named n false) = 3
height Old conflicted = 0
height Old (named n true) = 1
height Old (named n false) = 2
height Old unknown = 3
height Old absent = 4

unfoldable pub top : Rule → ℕ
top Old = 4
top House = 3

abbrev pub Present : Cell → Type 0
Present absent = ⊥
Present unknown = Unit {0}
Present conflicted = Unit {0}
Present (named n m) = Unit {0}

-- the cells that occur under a rule
abbrev pub Occurs : Rule → Cell → Type 0
Occurs Old c = Unit {0}
Occurs House c = Present c

sum_row : (n c : ℕ) → sum (λ (u : Unit {0}). c) (replicate n tt) ≡ c * n
unfolding sum
sum_row zero c = omega arith
sum_row (suc n) c = rw (sum_row n c) (omega (arith, mul-suc c n))

sum_rows : (counts : List ℕ) (c : ℕ) → sum (sum (λ (u : Unit {0}). c)) (shape_of counts) ≡ c * total counts
unfolding sum shape_of total
sum_rows [] c = omega arith
sum_rows (n ∷ counts) c = rw (sum_row n c, sum_rows counts c, mul-add c n (total counts)) refl

pub sum_shape : (S : Sheet) (c : ℕ) → sum (sum (λ (u : Unit {0}). c)) (shape S) ≡ c * cell_count S
unfolding shape cell_count
sum_shape S c = sum_rows (counts_of S) c

-- the cells of a state, as document 01 counts them
pub cells_counted : (S : Sheet) → cell_count S ≡ S.regs + S.slots
unfolding cell_count counts_of total
cells_counted S = omega arith

-- a sheet whose entry and successors are blocks: "entry below blocks", "Values are held against the counts in `F`."
pub record Closed (S : Sheet) : Type 0 where
  pub entry_in : S.entry < S.blocks
  pub succs_in : (b s : ℕ) → In s (succs_of S b) → s < S.blocks
