-- The table as it begins: every block filled.
use mathlib.Core.Path.{◌≡◌, refl, sym, subst, ◌∙◌}
use mathlib.Core.List.{List}
use Prim.Native.Nat.{ℕ, ◌+◌, ◌≤◌, ◌<◌}
use native.Mathlib.Omega.{arith}
use lib.ListN.{get_or, set}
use Rattle.lists.specs.Kept.{kept_same, kept_then}
use Rattle.paper.specs.Sheet.{Sheet}
use Rattle.paper.specs.Steps.{unfilled_rows, unreached_state, counts_of}
use Rattle.paper.specs.Runs.{before, entered}
use Rattle.paper.specs.declared.Rule.{Rule}
use Rattle.paper.specs.declared.Rule.TheVariants.{Old, House}
use Rattle.paper.specs.Limits.{max_blocks}
use Rattle.layout.specs.Layout.{regs_word, slots_word, blocks_word, state_at, mark_at}
use Rattle.cells.specs.States.{state_of, RowsFit, Stored}
use Rattle.loaded.specs.Loaded.{sheet_of, counts_in}
use Rattle.tables.specs.Held.{RunKept}
use Rattle.tables.specs.Table.{Ready, Holds, mark_of, Tabled, Tables}
use Rattle.tables.specs.Laws.{sheet_here, Alone, alone_both, blocks_are, rows_fit, holds_stays, tabled_alone, state_marked, mark_set}

-- what a block that nothing came to is checked from
entered_before : (rule : Rule) (S : Sheet) (b : ℕ) → entered rule S (before rule S b) ≡ unfilled_rows rule (counts_of S)
unfolding entered before unreached_state
entered_before Old S b = refl
entered_before House S b = refl

-- the first b blocks are filled
pub record Filled (rule : Rule) (words₀ words : List ℕ) (b : ℕ) : Type 0 where
  pub past : b ≤ get_or words₀ blocks_word 0
  pub kept : RunKept words₀ words
  pub tabled : Tabled rule (sheet_of words₀) b words (before rule (sheet_of words₀))

pub filled_none : {rule : Rule} {words : List ℕ} → Filled rule words words 0
filled_none = record { past = omega arith; kept = kept_same _ _ _; tabled = record { states = λ b h. absurd (omega arith); marks = λ b h. absurd (omega arith) } }

module _ {rule : Rule} {words₀ words : List ℕ} {b : ℕ} (ready : Ready words₀) (f : Filled rule words₀ words b) where
  filled_holds : Holds (sheet_of words₀) words
  filled_holds = holds_stays f.kept (sheet_here ready)

  pub filled_more : {words₁ counts : List ℕ} {s : List (List ℕ)} (v : ℕ) → b < get_or words₀ blocks_word 0 → counts ≡ counts_in words₀
      → Stored counts (state_at b) s words words₁
      → ((counts : List ℕ) → RowsFit counts → state_of counts s ≡ unfilled_rows rule counts)
      → ((S : Sheet) (k : ℕ) → v ≡ mark_of (before rule S k))
      → Filled rule words₀ (set words₁ (mark_at b) v) (b + 1)
  filled_more {words₁} {s = s} v h e stored unreached mark = record {
    past = omega arith;
    kept = kept_then _ _ f.kept alone.kept (omega arith) (omega arith) (omega arith) (omega arith);
    tabled =
        tabled_alone filled_holds alone (omega (arith, ready.loaded.bounds.blocks))
        (state_marked filled_holds b v small stored' ∙ unreached (counts_of (sheet_of words₀)) (rows_fit filled_holds) ∙ sym (entered_before rule (sheet_of words₀) b))
        (mark_set filled_holds b v small stored' ∙ mark (sheet_of words₀) b)
        (λ k l d. (omega arith, refl))
        f.tabled;
  }
    where
      small : b < max_blocks
      small = omega (arith, ready.loaded.bounds.blocks)

      alone : Alone b words (set words₁ (mark_at b) v)
      alone = alone_both b small stored.kept v

      stored' : Stored (counts_in words) (state_at b) s words words₁
      stored' = rw (f.kept.below regs_word (omega arith), f.kept.below slots_word (omega arith), ← e) stored

  -- all are
  pub filled_all : get_or words₀ blocks_word 0 ≤ b → Tables rule (sheet_of words₀) words (before rule (sheet_of words₀))
  filled_all h = record {
    sheet = filled_holds;
    tabled =
        let e : b ≡ (sheet_of words₀).blocks = omega (arith, f.past, blocks_are (sheet_here ready)) in
        subst (λ (n : ℕ). Tabled rule (sheet_of words₀) n words (before rule (sheet_of words₀))) e f.tabled;
  }
