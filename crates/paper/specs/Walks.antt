-- Document 01: "A walk starts at the entry block's start and follows successors. For the meet it ends at the start of the
-- block it comes to; for checks and for uses that block's own steps are walked too." The meet over all walks, defined
-- without the queue, and the sentence on house acceptance.
use Rattle.std.specs.Prelude.{◌≡◌, Bool, List, [], ◌∷◌, ◌++◌, ℕ}
use Rattle.std.proofs.Math.Option.{none}
use Rattle.paper.specs.Text.{Name}
use Rattle.paper.specs.Sheet.{Step, spill, reload, move, change, operation, safepoint, Sheet, steps_of, reference_typed}
use Rattle.paper.specs.Cells.{named}
use Rattle.paper.specs.Steps.{State, slot, get, check, effect, entry_state}
use Rattle.paper.specs.Runs.{Flow, flow}
use Rattle.paper.specs.Report.{missing_allocations}
use Rattle.paper.specs.declared.Rule.TheVariants.{House}

-- a stands in the list
pub data In {A : Type 0} (a : A) : List A → Type 0 where
  here : {x : A} {l : List A} → a ≡ x → In a (x ∷ l)
  there : {x : A} {l : List A} → In a l → In a (x ∷ l)

module _ {A : Type 0} (F : Flow A) where
  -- a walk to the start of a block
  pub data Walk : ℕ → Type 0 where
    start : Walk F.entry
    then : {b s : ℕ} → Walk b → In s (F.succs b) → Walk s

  -- the state that a walk comes with
  unfoldable pub along : {b : ℕ} → Walk b → A
  along start = F.first
  along (then {b} w follows) = F.result b (along w)

  -- x is at or below y
  abbrev pub Below : A → A → Type 0
  Below x y = F.meet x y ≡ x

  -- the meet over all walks to b: the greatest state that is at or below every walk's
  pub record MeetOverWalks (b : ℕ) (a : A) : Type 0 where
    pub lower : (w : Walk b) → Below a (along w)
    pub greatest : (x : A) → ((w : Walk b) → Below x (along w)) → Below x a

-- a walk of the house rule on a sheet, and the steps on it, up to the start of the block it comes to
abbrev pub HouseWalk : Sheet → ℕ → Type 0
HouseWalk S b = Walk (flow House S) b

unfoldable pub trail : (S : Sheet) {b : ℕ} → Walk (flow House S) b → List Step
trail S start = []
trail S (then {b} w follows) = trail S w ++ steps_of S b

-- every check of the steps passes from the state s, each step taking effect in turn
unfoldable pub Passes : (Name → Bool) → List Step → State → Type 0
Passes ref [] s = Unit {0}
Passes ref (x ∷ xs) s = (check x s ≡ none) × Passes ref xs (effect House ref x s)

-- at a `P`, no slot that it lists has different names in the two states
unfoldable pub SameNames : Step → State → State → Type 0
SameNames (spill k r) s t = Unit {0}
SameNames (reload r k) s t = Unit {0}
SameNames (move into from) s t = Unit {0}
SameNames (change inst k from to) s t = Unit {0}
SameNames (operation inst uses defs) s t = Unit {0}
SameNames (safepoint inst slots) s t = (k : ℕ) → In k slots → (n j : Name) (m l : Bool) → get s (slot k) ≡ named n m → get t (slot k) ≡ named j l → n ≡ j

-- the same at each `P` of the steps, the two states taking each effect in turn
unfoldable pub Alike : (Name → Bool) → List Step → State → State → Type 0
Alike ref [] s t = Unit {0}
Alike ref (x ∷ xs) s t = SameNames x s t × Alike ref xs (effect House ref x s) (effect House ref x t)

-- "House acceptance holds exactly when no allocation is missing, every check passes on every walk .. and no two walks come to the same
-- `P` with different names in a slot it lists (that is kind 7)." Document 02, A5: "it then speaks of missing allocations and walks only"
pub record Acceptance (S : Sheet) : Type 0 where
  pub allocated : missing_allocations S ≡ []
  pub passes : (b : ℕ) (w : HouseWalk S b) → Passes (reference_typed S) (trail S w ++ steps_of S b) (entry_state House S)
  pub alike : (b : ℕ) (w v : HouseWalk S b) → Alike (reference_typed S) (steps_of S b) (along (flow House S) w) (along (flow House S) v)
