-- A state in packed words: its rows in order, each with its width of words, of which as many count as `F` says. Counts, widths and
-- rows are lists, so that nothing here but `row_counts` knows how many rows there are.
use Rattle.std.specs.Prelude.{◌≡◌, Bool, true, false, not, ◌||◌, List, [], ◌∷◌, map, ℕ, zero, suc, ◌+◌, ◌≤◌, eqb, get_or, take, drop}
use Rattle.lists.specs.Kept.{Kept}
use Rattle.paper.specs.Cells.{Cell}
use Rattle.paper.specs.Steps.{State}
use Rattle.paper.specs.Runs.{meet_states}
use Rattle.paper.specs.declared.Rule.{Rule}
use Rattle.layout.specs.Layout.{row_widths, state_words}
use Rattle.cells.specs.Packed.{cell_of}
use Rattle.cells.specs.Meeting.{meet_word}
use Rattle.cells.specs.declared.RowCounts.{RowCounts}

-- the first n cells of a row
unfoldable pub cells_of : ℕ → List ℕ → List Cell
cells_of n row = map cell_of (take n row)

-- the state that rows of words mean, each cut to its count
unfoldable pub state_of : List ℕ → List (List ℕ) → State
state_of [] rows = []
state_of (n ∷ counts) [] = []
state_of (n ∷ counts) (row ∷ rows) = cells_of n row ∷ state_of counts rows

-- the rows of a state that stands in lent words from `at` on, each with its width of words
unfoldable pub rows_at : List ℕ → ℕ → List ℕ → List (List ℕ)
rows_at [] at words = []
rows_at (width ∷ widths) at words = drop at words ∷ rows_at widths (at + width) words

unfoldable pub stored_state : List ℕ → ℕ → List ℕ → State
stored_state counts at words = state_of counts (rows_at row_widths at words)

-- no row counts more cells than its width
abbrev pub Narrow : List ℕ → List ℕ → Type 0
Narrow [] [] = Unit {0}
Narrow [] (n ∷ counts) = ⊥
Narrow (width ∷ widths) [] = ⊥
Narrow (width ∷ widths) (n ∷ counts) = (n ≤ width) × Narrow widths counts

-- the counts are those of a state: as many rows as a state has, each with room for its cells
abbrev pub RowsFit : List ℕ → Type 0
RowsFit counts = Narrow row_widths counts

-- the counts as the code passes them
abbrev pub row_counts : RowCounts → List ℕ
row_counts c = c.regs ∷ c.slots ∷ []

-- does `over at n f l` change an element?
unfoldable pub changes : ℕ → ℕ → (ℕ → ℕ → ℕ) → List ℕ → Bool
changes at zero f l = false
changes at (suc n) f l = changes at n f l || not (eqb (f n (get_or l (at + n) 0)) (get_or l (at + n) 0))

-- does it leave the k-th as it is?
abbrev pub Stays : ℕ → (ℕ → ℕ → ℕ) → List ℕ → ℕ → Type 0
Stays at f l k = f k (get_or l (at + k) 0) ≡ get_or l (at + k) 0

abbrev pub meet_at : Rule → List ℕ → ℕ → ℕ → ℕ
meet_at rule row k w = meet_word rule w (get_or row k 0)

-- the rows s are met into the state that stands at `at`
pub record MetWith (rule : Rule) (counts : List ℕ) (at : ℕ) (s : List (List ℕ)) (before after : List ℕ) (changed : Bool) : Type 0 where
  pub meaning : stored_state counts at after ≡ meet_states rule (stored_state counts at before) (state_of counts s)
  pub kept : Kept at (state_words) before after
  pub still : changed ≡ false → after ≡ before
  pub moved : changed ≡ true → meet_states rule (stored_state counts at before) (state_of counts s) ≡ stored_state counts at before → ⊥

-- the rows s are written at `at`
pub record Stored (counts : List ℕ) (at : ℕ) (s : List (List ℕ)) (before after : List ℕ) : Type 0 where
  pub meaning : stored_state counts at after ≡ state_of counts s
  pub kept : Kept at (state_words) before after
