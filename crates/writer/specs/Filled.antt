-- A text that is written as far as a sheet's size goes: either all of it stands, or it has become longer than any sheet.
use Rattle.std.specs.Prelude.{◌≡◌, List, ◌++◌, ℕ, ◌+◌, ◌<◌, length}
use Rattle.std.proofs.Common.{◌∙◌, arith, length-append}
use Rattle.lists.specs.Sets.{Wrote, then, length_wrote}
use Rattle.paper.specs.Limits.{max_sheet}

-- a line has at most so many bytes: that of an operation, with the 63 uses and 63 defs that a step's words can count
abbrev pub line_room : ℕ
line_room = 1536

-- `xs` was written to `l` at i, up to j; or j is beyond every sheet, and so is the end of xs
pub data Filled (l : List ℕ) (i : ℕ) (xs l' : List ℕ) (j : ℕ) : Type 0 where
  whole : Wrote l i xs l' j → Filled l i xs l' j
  beyond : length l' ≡ length l → max_sheet < j → max_sheet < i + length xs → Filled l i xs l' j

module _ {l l₁ xs : List ℕ} {i j : ℕ} where
  pub length_filled : Filled l i xs l₁ j → length l₁ ≡ length l
  length_filled (whole w) = length_wrote w
  length_filled (beyond e p q) = e

  -- behind every sheet's end nothing more is written
  pub passed : (ys : List ℕ) → Filled l i xs l₁ j → max_sheet < j → Filled l i (xs ++ ys) l₁ j
  passed ys (whole w) h = beyond (length_wrote w) h (rw length-append (omega (arith, w.next)))
  passed ys (beyond e p q) h = beyond e h (rw length-append (omega arith))

  -- one after the other
  pub filled_then : {l₂ ys : List ℕ} {k : ℕ} → Filled l i xs l₁ j → Filled l₁ j ys l₂ k → Filled l i (xs ++ ys) l₂ k
  filled_then (whole w) (whole v) = whole (then w v)
  filled_then (whole w) (beyond e p q) = beyond (e ∙ length_wrote w) p (rw length-append (omega (arith, w.next)))
  filled_then (beyond e p q) (whole v) = beyond (length_wrote v ∙ e) (omega (arith, v.next)) (rw length-append (omega arith))
  filled_then (beyond e p q) (beyond f r s) = beyond (f ∙ e) r (rw length-append (omega arith))
