-- Document 01, "The two programs on a walk": "The original holds a value for each name, the allocated program one for each
-- cell." What each step does to either, and what it reads.
use Rattle.std.specs.Prelude.{◌≡◌, Bool, cond, List, [], ◌∷◌, ◌++◌, map, ℕ, zero, suc, ◌<◌}
use Rattle.std.proofs.Math.Decide.{ℕ_discrete}
use Rattle.paper.specs.Text.{Name, real, name_same}
use Rattle.paper.specs.Sheet.{Operand, Step, spill, reload, move, change, operation, safepoint, Sheet, steps_of, listed, reference_typed}
use Rattle.paper.specs.Cells.{pick}
use Rattle.paper.specs.Steps.{Location, at, nowhere, register, slot, Location_discrete, location_of}
use Rattle.paper.specs.Walks.{HouseWalk, trail}

unfoldable pub location_same : (k l : Location) → Dec (k ≡ l)
location_same = Location_discrete ℕ_discrete

-- the uses of a step
unfoldable pub uses_of : Step → List Operand
uses_of (spill k r) = []
uses_of (reload r k) = []
uses_of (move into from) = []
uses_of (change inst k from to) = []
uses_of (operation inst uses defs) = uses
uses_of (safepoint inst slots) = []

-- values of any type; "its results, one a def in order", which depend on the operation's place in the walk, the values it
-- reads and the def's number; "one and the same function of the place in the walk and the value", the collector
pub record World : Type 1 where
  pub Value : Type 0
  pub results : (place : ℕ) → List Value → (def : ℕ) → Value
  pub collect : (place : ℕ) → Value → Value

module _ (W : World) where
  abbrev pub Original : Type 0
  Original = Name → W.Value

  abbrev pub Allocated : Type 0
  Allocated = Location → W.Value

  unfoldable pub write_name : Name → W.Value → Original → Original
  write_name n v o k = pick (name_same k n) v (o k)

  unfoldable pub write_cell : Location → W.Value → Allocated → Allocated
  write_cell l v a k = pick (location_same k l) v (a k)

  -- "`O` reads its uses in order, by name in the original and by register in the allocated program"
  unfoldable pub original_reads : List Operand → Original → List W.Value
  original_reads uses o = map (λ u. o u.name) uses

  unfoldable pub allocated_reads : List Operand → Allocated → List W.Value
  allocated_reads uses a = map (λ u. a (location_of u.reg)) uses

  -- "then writes its results, one a def in order, to the def names and the def registers, and changes nothing else"
  unfoldable pub original_writes : List Operand → (ℕ → W.Value) → Original → Original
  original_writes [] result o = o
  original_writes (d ∷ ds) result o = original_writes ds (λ i. result (suc i)) (write_name d.name (result 0) o)

  unfoldable pub allocated_writes : List Operand → (ℕ → W.Value) → Allocated → Allocated
  allocated_writes [] result a = a
  allocated_writes (d ∷ ds) result a = allocated_writes ds (λ i. result (suc i)) (write_cell (location_of d.reg) (result 0) a)

  -- "`P` replaces the value of every reference-typed name in the original, and of every listed slot in the allocated program"
  unfoldable pub original_collects : (Name → Bool) → ℕ → Original → Original
  original_collects ref place o n = cond (ref n) (W.collect place (o n)) (o n)

  unfoldable pub allocated_collects : List ℕ → ℕ → Allocated → Allocated
  allocated_collects slots place a (at zero i) = a (register i)
  allocated_collects slots place a (at (suc zero) i) = cond (listed slots i) (W.collect place (a (slot i))) (a (slot i))
  allocated_collects slots place a (at (suc (suc row)) i) = a (at (suc (suc row)) i)
  allocated_collects slots place a nowhere = a nowhere

  -- "`S`, `L`, `M` copy a cell's value in the allocated program and do nothing in the original. `C`: the original copies the
  -- value of from to to, the allocated program does nothing."
  unfoldable pub original_step : (Name → Bool) → ℕ → Step → Original → Original
  original_step ref place (spill k r) o = o
  original_step ref place (reload r k) o = o
  original_step ref place (move into from) o = o
  original_step ref place (change inst k from to) o = write_name to (o from) o
  original_step ref place (operation inst uses defs) o = original_writes defs (W.results place (original_reads uses o)) o
  original_step ref place (safepoint inst slots) o = original_collects ref place o

  unfoldable pub allocated_step : ℕ → Step → Allocated → Allocated
  allocated_step place (spill k r) a = write_cell (slot k) (a (register r)) a
  allocated_step place (reload r k) a = write_cell (register r) (a (slot k)) a
  allocated_step place (move into from) a = write_cell (register into) (a (register from)) a
  allocated_step place (change inst k from to) a = a
  allocated_step place (operation inst uses defs) a = allocated_writes defs (W.results place (allocated_reads uses a)) a
  allocated_step place (safepoint inst slots) a = allocated_collects slots place a

  -- what the steps from a place on read, a list of values a step
  unfoldable pub original_run : (Name → Bool) → ℕ → List Step → Original → List (List W.Value)
  original_run ref place [] o = []
  original_run ref place (x ∷ xs) o = original_reads (uses_of x) o ∷ original_run ref (suc place) xs (original_step ref place x o)

  unfoldable pub allocated_run : ℕ → List Step → Allocated → List (List W.Value)
  allocated_run place [] a = []
  allocated_run place (x ∷ xs) a = allocated_reads (uses_of x) a ∷ allocated_run (suc place) xs (allocated_step place x a)

-- on every walk, its last block's own steps included, the two programs read equal values at every use: "At the start name ri
-- and register i are equal; all other values are arbitrary."
abbrev pub EqualReads : Sheet → Type 1
EqualReads S = (W : World) (o : Original W) (a : Allocated W) → ((i : ℕ) → i < S.regs → o (real i) ≡ a (register i)) → (b : ℕ) (w : HouseWalk S b)
    → original_run W (reference_typed S) 0 (trail S w ++ steps_of S b) o ≡ allocated_run W 0 (trail S w ++ steps_of S b) a
