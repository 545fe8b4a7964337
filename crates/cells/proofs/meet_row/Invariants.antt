-- `meet_row` meets its contract. A row that stays in all its cells stays in the first n (`row_still`). Otherwise the mask lists the
-- cells that may change; before each turn the words are met up to some cell `done`, the mask lists none below it, and each cell
-- from there on that it does not list stays (`Met`); the mask falls.
use mathlib.Core.Path.{◌≡◌}
use Prim.Native.Nat.{ℕ, ◌<◌, ◌^◌}
use lib.ListN.{length}
use Rattle.cells.specs.States.{meet_at}
use Rattle.cells.proofs.Masks.{Met}
use Rattle.cells.proofs.meet_row.Given as goal

abbrev pub invariant-loop-left : goal.invariant-loop-left
invariant-loop-left l =
    (length l.words ≡ length l.initial.words) × (l.left < 2 ^ 32) × ((done : ℕ) × Met l.at l.n (meet_at l.rule l.row) l.initial.words l.left done l.words l.changed)

abbrev pub decreases-loop-left : goal.decreases-loop-left
decreases-loop-left l = l.left
