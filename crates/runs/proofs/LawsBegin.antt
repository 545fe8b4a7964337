-- The run as it begins: the table, then the entry with its state and waiting.
use mathlib.Core.Path.{◌≡◌, sym, ap}
use mathlib.Core.List.{List, [], ◌∷◌, ◌++◌}
use Prim.Native.Nat.{ℕ}
use native.Mathlib.Omega.{arith}
use lib.ListN.{get_or}
use Rattle.lists.specs.Kept.{kept_then}
use Rattle.paper.specs.Steps.{entry_rows, entry_state, counts_of}
use Rattle.paper.specs.Runs.{before, begin, entered}
use Rattle.paper.specs.declared.Rule.{Rule}
use Rattle.layout.specs.Layout.{regs_word, entry_word}
use Rattle.cells.specs.States.{row_counts, state_of, RowsFit}
use Rattle.cells.specs.declared.RowCounts.{RowCounts}
use Rattle.loaded.specs.Loaded.{sheet_of, counts_in}
use Rattle.tables.specs.Held.{RunKept}
use Rattle.tables.specs.Table.{Ready, Tables, Entered}
use Rattle.runs.specs.Stands.{Begins}
use Rattle.tables.specs.Laws.{sheet_here, rows_fit}

pub regs_are : (words : List ℕ) (k : RowCounts) → row_counts k ≡ counts_in words → k.regs ≡ get_or words regs_word 0
regs_are words k e = ap (λ (counts : List ℕ). get_or counts 0 0) e

-- the entry has its state and waits
pub begun : {rule : Rule} {words₀ words words' queue queue' : List ℕ} {s : List (List ℕ)} {regs entry : ℕ} → Ready words₀
    → regs ≡ get_or words₀ regs_word 0 → entry ≡ get_or words₀ entry_word 0 → RunKept words₀ words
    → Tables rule (sheet_of words₀) words (before rule (sheet_of words₀))
    → Entered entry s words words'
    → ((counts : List ℕ) → RowsFit counts → get_or counts 0 0 ≡ regs → state_of counts s ≡ entry_rows rule counts)
    → queue ≡ [] → queue' ≡ queue ++ (entry ∷ [])
    → Begins rule words₀ words' queue'
unfolding begin sheet_of entry_state counts_of
begun {rule} {words₀} ready r e kept tables entered first none app = record {
  kept = kept_then _ _ kept entered.kept (omega arith) (omega arith) (omega arith) (omega arith);
  stands = record {
    tables = rw (first (counts_of (sheet_of words₀)) (rows_fit (sheet_here ready)) (sym r), e) at (entered.tables rule (sheet_of words₀) _ tables);
    waiting = rw (none, e) at app;
  };
}
