-- Document 01, "The sheet": what a sheet says once it is read. `F` gives the counts, `T` the reference-typed names, each `B`
-- a block with its successors, and the lines behind it the block's steps, all in the sheet's own order.
use Rattle.std.specs.Prelude.{Bool, false, ◌||◌, List, [], ◌∷◌, ℕ, eqb, get_or}
use Rattle.std.proofs.Math.Option.{Option}
use Rattle.paper.specs.Text.{Name, real, virtual}

-- "A virtual name's reg may be `-` (no allocation)": none
pub record Operand : Type 0 where
  pub name : Name
  pub reg : Option ℕ

-- the six steps, `inst` first where the line has one
pub data Step : Type 0 where
  -- `S slot reg` spill
  spill : (slot reg : ℕ) → Step
  -- `L reg slot` reload
  reload : (reg slot : ℕ) → Step
  -- `M into from` move
  move : (into from : ℕ) → Step
  -- `C inst slot from to`: ownership change between two names
  change : (inst slot : ℕ) (from to : Name) → Step
  -- `O inst n (name reg)*n m (name reg)*m`: operation, n uses then m defs
  operation : (inst : ℕ) (uses defs : List Operand) → Step
  -- `P inst slot..`: safepoint
  safepoint : (inst : ℕ) (slots : List ℕ) → Step

-- `B succ..`: opens the next block. "Its steps follow."
pub record Block : Type 0 where
  pub succs : List ℕ
  pub steps : List Step

-- `F regs slots vregs blocks entry`, the names `n` of the `T` lines, and the blocks
pub record Sheet : Type 0 where
  pub regs : ℕ
  pub slots : ℕ
  pub vregs : ℕ
  pub blocks : ℕ
  pub entry : ℕ
  pub typed : List ℕ
  pub body : List Block

abbrev pub no_block : Block
no_block = record { succs = []; steps = [] }

abbrev pub succs_of : Sheet → ℕ → List ℕ
succs_of S b = (get_or S.body b no_block).succs

abbrev pub steps_of : Sheet → ℕ → List Step
steps_of S b = (get_or S.body b no_block).steps

-- is the number one of the list?
unfoldable pub listed : List ℕ → ℕ → Bool
listed [] n = false
listed (k ∷ ks) n = eqb k n || listed ks n

-- "`T n`: virtual name n is reference-typed." "Real names are never reference-typed."
unfoldable pub reference_typed : Sheet → Name → Bool
reference_typed S (real n) = false
reference_typed S (virtual n) = listed S.typed n
