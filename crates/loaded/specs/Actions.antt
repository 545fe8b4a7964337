-- A step as the code holds it: an action by value, with its operands in the lent words. What it means as a step of the paper,
-- how it is packed in four words, and when its numbers are in range.
-- An operand is register * 1024 + mark * 512 + name, the register 63 where there is none.
-- The four words: tag + 8 * a + 512 * b, inst, and two more: `C` has the names from and to there, `P` its mask, low half first.
use Rattle.std.specs.Prelude.{◌≡◌, Bool, cond, ◌⊎◌, List, [], ◌∷◌, map, ℕ, zero, suc, ◌+◌, ◌*◌, ◌/◌, ◌%◌, ◌^◌, ◌≤◌, ◌<◌, eqb, length, get_or}
use Rattle.std.proofs.Math.Option.{Option, none, some}
use Rattle.lists.specs.Region.{region}
use Rattle.lists.specs.Bits.{set_bits}
use Rattle.paper.specs.Text.{Name}
use Rattle.paper.specs.Sheet.{Operand, Step, spill, reload, move, change, operation, safepoint}
use Rattle.paper.specs.Limits.{max_operands, max_steps}
use Rattle.layout.specs.Layout.{step_base, step_words, operand_base, defs_from, operand_words, all_words}
use Rattle.cells.specs.Packed.{name_of_word, marked}
use Rattle.cells.specs.States.{RowsFit}
use Rattle.loaded.specs.declared.CopyKind.{CopyKind}
use Rattle.loaded.specs.declared.CopyKind.TheVariants.{Spill, Reload, Move}
use Rattle.loaded.specs.declared.CopyRows.{CopyRows}
use Rattle.loaded.specs.declared.Action.{Action}
use Rattle.loaded.specs.declared.Action.TheVariants.{Copy, Change, Operation, Safepoint}

abbrev pub no_register : ℕ
no_register = 63

unfoldable pub register_of : ℕ → Option ℕ
register_of r = cond (eqb r no_register) none (some r)

unfoldable pub operand_of : ℕ → Operand
operand_of w = record { name = name_of_word w; reg = register_of (w / 1024) }

unfoldable pub operands : ℕ → ℕ → List ℕ → List Operand
operands at n words = map operand_of (region at n words)

-- a copy: its rows, registers first and then slots, and its step
unfoldable pub rows_of : CopyKind → CopyRows
rows_of Spill = record { into = 1; from = 0 }
rows_of Reload = record { into = 0; from = 1 }
rows_of Move = record { into = 0; from = 0 }

unfoldable pub copy_step : CopyKind → ℕ → ℕ → Step
copy_step Spill k r = spill k r
copy_step Reload r k = reload r k
copy_step Move into from = move into from

unfoldable pub step_of : List ℕ → Action → Step
step_of words (Copy kind into from) = copy_step kind into from
step_of words (Change inst k from to) = change inst k (name_of_word from) (name_of_word to)
step_of words (Operation inst at n m) = operation inst (operands at n words) (operands (at + defs_from) m words)
step_of words (Safepoint inst mask) = safepoint inst (set_bits mask)

-- the action that a step's place, tag, two numbers and three words give; no sheet has another tag than the six, and none this move
unfoldable pub action_of : ℕ → ℕ → ℕ → ℕ → ℕ → ℕ → ℕ → Action
action_of k zero a b inst x y = Copy Spill a b
action_of k (suc zero) a b inst x y = Copy Reload a b
action_of k (suc (suc zero)) a b inst x y = Copy Move a b
action_of k (suc (suc (suc zero))) a b inst x y = Change inst a x y
action_of k (suc (suc (suc (suc zero)))) a b inst x y = Operation inst (operand_base + k * operand_words) a b
action_of k (suc (suc (suc (suc (suc zero))))) a b inst x y = Safepoint inst (x + y * 65536)
action_of k (suc (suc (suc (suc (suc (suc t)))))) a b inst x y = Copy Move no_register no_register

-- the k-th step of the sheet
unfoldable pub action_at : List ℕ → ℕ → Action
action_at words k =
    let at = step_base + k * step_words in
    let w = get_or words at 0 in
    action_of k (w % 8) (w / 8 % 64) (w / 512 % 64) (get_or words (at + 1) 0) (get_or words (at + 2) 0) (get_or words (at + 3) 0)

unfoldable pub tag_of : CopyKind → ℕ
tag_of Spill = 0
tag_of Reload = 1
tag_of Move = 2

-- the four words of an action
unfoldable pub packed : Action → List ℕ
packed (Copy kind into from) = (tag_of kind + into * 8 + from * 512) ∷ 0 ∷ 0 ∷ 0 ∷ []
packed (Change inst k from to) = (3 + k * 8 + 0 * 512) ∷ inst ∷ from ∷ to ∷ []
packed (Operation inst at n m) = (4 + n * 8 + m * 512) ∷ inst ∷ 0 ∷ 0 ∷ []
packed (Safepoint inst mask) = (5 + 0 * 8 + 0 * 512) ∷ inst ∷ (mask % 65536) ∷ (mask / 65536) ∷ []

-- the n steps from the k-th on
unfoldable pub steps_at : List ℕ → ℕ → ℕ → List Step
steps_at words k zero = []
steps_at words k (suc n) = step_of words (action_at words k) ∷ steps_at words (k + 1) n

-- the numbers of an action are below the counts, and its operands' registers as `Register` says
abbrev pub ActionWithin : List ℕ → (ℕ → Type 0) → List ℕ → Action → Type 0
ActionWithin counts Register words (Copy kind into from) = (into < get_or counts (rows_of kind).into 0) × (from < get_or counts (rows_of kind).from 0)
ActionWithin counts Register words (Change inst k from to) = k < get_or counts 1 0
ActionWithin counts Register words (Operation inst at n m) =
    (n ≤ max_operands) × (m ≤ max_operands) × (at + operand_words ≤ length words)
    × ((i : ℕ) → i < n → Register (get_or words (at + i) 0 / 1024))
    × ((i : ℕ) → i < m → Register (get_or words (at + defs_from + i) 0 / 1024))
ActionWithin counts Register words (Safepoint inst mask) = mask < 2 ^ get_or counts 1 0

-- as a sheet is read: a register below the count, or none
abbrev pub Ranged : List ℕ → List ℕ → Action → Type 0
Ranged counts words a = ActionWithin counts (λ r. (r < get_or counts 0 0) ⊎ (r ≡ no_register)) words a

-- as an analysis runs: no allocation is missing
abbrev pub InRange : List ℕ → List ℕ → Action → Type 0
InRange counts words a = ActionWithin counts (λ r. r < get_or counts 0 0) words a

-- the marks of an operation's defs are those of `T`
abbrev pub DefsMarked : (Name → Bool) → List ℕ → Action → Type 0
DefsMarked ref words (Copy kind into from) = Unit {0}
DefsMarked ref words (Change inst k from to) = Unit {0}
DefsMarked ref words (Operation inst at n m) = (i : ℕ) → i < m → ref (name_of_word (get_or words (at + defs_from + i) 0)) ≡ marked (get_or words (at + defs_from + i) 0)
DefsMarked ref words (Safepoint inst mask) = Unit {0}

-- what fits the four words of the k-th step
abbrev pub Packs : ℕ → Action → Type 0
Packs k (Copy kind into from) = (into < 64) × (from < 64)
Packs k (Change inst slot from to) = slot < 64
Packs k (Operation inst at n m) = (at ≡ operand_base + k * operand_words) × (n < 64) × (m < 64)
Packs k (Safepoint inst mask) = Unit {0}

-- an operation's operands lie in the words
abbrev pub RoomFor : Action → List ℕ → Type 0
RoomFor (Copy kind into from) words = Unit {0}
RoomFor (Change inst k from to) words = Unit {0}
RoomFor (Operation inst at n m) words = (n ≤ max_operands) × (m ≤ max_operands) × (at + operand_words ≤ length words)
RoomFor (Safepoint inst mask) words = Unit {0}

-- the steps of a block can be run
pub record Runnable (counts words : List ℕ) (first count : ℕ) : Type 0 where
  pub rows_fit : RowsFit counts
  pub steps_fit : first + count ≤ max_steps
  pub words_fit : all_words ≤ length words
  pub in_range : (k : ℕ) → first ≤ k → k < first + count → InRange counts words (action_at words k)

abbrev pub StepsMarked : (Name → Bool) → List ℕ → ℕ → ℕ → Type 0
StepsMarked ref words first count = (k : ℕ) → first ≤ k → k < first + count → DefsMarked ref words (action_at words k)
