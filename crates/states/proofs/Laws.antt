-- The text of a block's line as it is written, part by part: a cell, a row, the head, the line; and how long each can get.
use mathlib.Core.Path.{◌≡◌, refl, ap, ◌∙◌}
use mathlib.Core.List.{List, [], ◌∷◌, ◌++◌, map, map-append, append-nil, append_assoc}
use mathlib.Core.Option.{Option, none, some}
use Prim.Native.Nat.{ℕ, ◌+◌, ◌/◌, ◌%◌, ◌≤◌, ◌<◌}
use Prim.Native.Char.{code}
use native.Mathlib.Omega.{arith}
use borrow.Author.Tests.{eq-eqb, ne_eqb}
use lib.ListN.{length, get_or}
use Rattle.lists.specs.Sets.{Wrote, then}
use Rattle.lists.specs.Region.{region}
use Rattle.lists.specs.Grown.{region_more}
use Rattle.paper.specs.Text.{Bytes, tab, line_feed, digit_from, digits, name_text}
use Rattle.paper.specs.Limits.{max_regs, max_slots, max_blocks}
use Rattle.paper.specs.Sheet.{Sheet}
use Rattle.paper.specs.Cells.{named}
use Rattle.paper.specs.Steps.{State}
use Rattle.paper.specs.Report.{by_block, behind_tabs}
use Rattle.paper.specs.declared.Rule.{Rule}
use Rattle.paper.specs.declared.Rule.TheVariants.{Old, House}
use Rattle.layout.specs.Layout.{regs_word, slots_word, blocks_word, state_at, mark_at, run_words}
use Rattle.cells.specs.Packed.{name_of_word, marked, of_kind, cell_of}
use Rattle.cells.specs.States.{row_counts, cells_of, state_of, rows_at, stored_state}
use Rattle.cells.specs.declared.RowCounts.{RowCounts}
use Rattle.report.specs.Lengths.{name_short}
use Rattle.faults.specs.Blocks.{by_block_more}
use Rattle.loaded.specs.Loaded.{sheet_of, counts_in}
use Rattle.tables.specs.Table.{mark_of}
use Rattle.states.specs.EntryStates.{mark_text, cell_text, cell_texts, visited_text, letter_D, block_text}
use Rattle.states.specs.Stated.{HoldsStates, tabbed, row_text, head_text, longest_cell}

-- fields behind tabs

tabbed_append : (xs ys : List Bytes) → tabbed (xs ++ ys) ≡ tabbed xs ++ tabbed ys
unfolding tabbed
tabbed_append [] ys = refl
tabbed_append (x ∷ xs) ys = rw (append_assoc, ← tabbed_append xs ys)

behind_tabbed : (fs : List Bytes) → behind_tabs fs ≡ tabbed fs ++ (line_feed ∷ [])
unfolding tabbed behind_tabs
behind_tabbed [] = refl
behind_tabbed (f ∷ fs) = rw (append_assoc, ← behind_tabbed fs)

-- a cell

-- a name, and its mark or none
module _ (w : ℕ) {l l₁ : List ℕ} {at j : ℕ} (p : Wrote l at (name_text (name_of_word w)) l₁ j) where
  pub wrote_marked : {l₂ : List ℕ} {k : ℕ} → w / 512 % 2 ≡ 1 → Wrote l₁ j (code "*" ∷ []) l₂ k
      → Wrote l at (cell_text (named (name_of_word w) (marked w))) l₂ k × (k ≤ at + longest_cell)
  unfolding cell_text mark_text marked
  wrote_marked e q = rw (eq-eqb _ _ e) (then p q, omega (arith, p.next, q.next, name_short w))

  pub wrote_unmarked : (w / 512 % 2 ≡ 1 → ⊥) → Wrote l at (cell_text (named (name_of_word w) (marked w))) l₁ j × (j ≤ at + longest_cell)
  unfolding cell_text mark_text marked
  wrote_unmarked e = rw (ne_eqb _ _ e, append-nil) (p, omega (arith, p.next, name_short w))

-- the kind of a word says what is written of it
module _ (w : ℕ) {l l₁ l₂ : List ℕ} {at j k : ℕ} (p : Wrote l at (tab ∷ []) l₁ j) where
  pub wrote_absent : w / 1024 % 4 ≡ 0 → Wrote l₁ j (code "." ∷ []) l₂ k → Wrote l at (tab ∷ cell_text (cell_of w)) l₂ k
  unfolding cell_text cell_of of_kind
  wrote_absent e q = rw e (then p q)

  pub wrote_unknown : w / 1024 % 4 ≡ 1 → Wrote l₁ j (code "?" ∷ []) l₂ k → Wrote l at (tab ∷ cell_text (cell_of w)) l₂ k
  unfolding cell_text cell_of of_kind
  wrote_unknown e q = rw e (then p q)

  pub wrote_conflicted : w / 1024 % 4 ≡ 2 → Wrote l₁ j (code "!" ∷ []) l₂ k → Wrote l at (tab ∷ cell_text (cell_of w)) l₂ k
  unfolding cell_text cell_of of_kind
  wrote_conflicted e q = rw e (then p q)

  pub wrote_name : w / 1024 % 4 ≡ 3 → Wrote l₁ j (cell_text (named (name_of_word w) (marked w))) l₂ k → Wrote l at (tab ∷ cell_text (cell_of w)) l₂ k
  unfolding cell_of of_kind
  wrote_name e q = rw e (then p q)

-- a row

pub row_none : (from : ℕ) (words l : List ℕ) (at : ℕ) → Wrote l at (row_text from 0 words) l at
unfolding row_text region tabbed
row_none from words l at = record { list = refl; next = omega arith }

one_field : (f : Bytes) → tabbed (f ∷ []) ≡ tab ∷ f
unfolding tabbed
one_field f = rw append-nil

row_more : (from i : ℕ) (words : List ℕ) → from + i < length words
    → row_text from (i + 1) words ≡ row_text from i words ++ (tab ∷ cell_text (cell_of (get_or words (from + i) 0)))
unfolding row_text
row_more from i words h =
    rw (region_more from i words h, map-append, map-append, tabbed_append, one_field)

pub row_then : {l l₁ l₂ : List ℕ} {at j k : ℕ} (from i : ℕ) (words : List ℕ) → from + i < length words → Wrote l at (row_text from i words) l₁ j
    → Wrote l₁ j (tab ∷ cell_text (cell_of (get_or words (from + i) 0))) l₂ k → Wrote l at (row_text from (i + 1) words) l₂ k
row_then from i words h p q = rw (row_more from i words h) (then p q)

-- the head

pub old_visited : (o : Option State) → (code "-" ∷ []) ≡ visited_text Old o
unfolding visited_text
old_visited o = refl

pub not_visited : (mark : ℕ) (o : Option State) → mark ≡ 0 → mark ≡ mark_of o → (code "0" ∷ []) ≡ visited_text House o
unfolding visited_text mark_of digits digit_from
not_visited mark none z e = refl
not_visited mark (some s) z e = absurd (omega arith)

pub is_visited : (mark : ℕ) (o : Option State) → (mark ≡ 0 → ⊥) → mark ≡ mark_of o → (code "1" ∷ []) ≡ visited_text House o
unfolding visited_text mark_of digits digit_from
is_visited mark none z e = absurd (z e)
is_visited mark (some s) z e = refl

pub head_spelled : (b visited : ℕ) → head_text b visited ≡ ((letter_D ∷ []) ++ (tab ∷ digits b)) ++ ((tab ∷ []) ++ (visited ∷ []))
unfolding head_text tabbed
head_spelled b visited = refl

-- the line

-- the fields of a state are those of its two rows
state_spelled : (regs slots at : ℕ) (words : List ℕ) → tabbed (cell_texts (stored_state (regs ∷ slots ∷ []) at words)) ≡ row_text at regs words ++ row_text (at + 32) slots words
unfolding cell_texts stored_state state_of rows_at cells_of region row_text
state_spelled regs slots at words = rw append-nil (tabbed_append (map cell_text (map cell_of (unfold region in region at regs words))) (map cell_text (map cell_of (unfold region in region (at + 32) slots words))))

line_spelled : (b visited : ℕ) (fs : List Bytes) → letter_D ∷ behind_tabs (digits b ∷ (visited ∷ []) ∷ fs) ≡ (head_text b visited ++ tabbed fs) ++ (line_feed ∷ [])
unfolding head_text
line_spelled b visited fs =
    ap (λ (t : Bytes). letter_D ∷ t)
    (behind_tabbed (digits b ∷ (visited ∷ []) ∷ fs) ∙ ap (λ (t : Bytes). t ++ (line_feed ∷ [])) (tabbed_append (digits b ∷ (visited ∷ []) ∷ []) fs))

module _ {rule : Rule} {words : List ℕ} {b : ℕ} (E : HoldsStates rule words) (h : b < get_or words blocks_word 0) where
  -- the block's words lie in the lent words
  pub block_room : (b < max_blocks) × (run_words ≤ length words)
  block_room = (omega (arith, E.loaded.bounds.blocks), E.room)

  module _ (counts : RowCounts) (e : row_counts counts ≡ counts_in words) where
    -- as many cells as the words say
    pub rows_room : (counts.regs ≤ max_regs) × (counts.slots ≤ max_slots)
    rows_room =
        let regs : counts.regs ≡ get_or words regs_word 0 = ap (λ (l : List ℕ). get_or l 0 0) e in
        let slots : counts.slots ≡ get_or words slots_word 0 = ap (λ (l : List ℕ). get_or l 1 0) e in
        (omega (arith, E.loaded.bounds.regs), omega (arith, E.loaded.bounds.slots))

    -- its parts, one behind the other
    pub wrote_block : {l l₁ l₂ l₃ l₄ : List ℕ} {at j k m n : ℕ} (visited : ℕ)
        → ((o : Option State) → get_or words (mark_at b) 0 ≡ mark_of o → (visited ∷ []) ≡ visited_text rule o)
        → Wrote l at (head_text b visited) l₁ j → Wrote l₁ j (row_text (state_at b) counts.regs words) l₂ k
        → Wrote l₂ k (row_text (state_at b + 32) counts.slots words) l₃ m → Wrote l₃ m (line_feed ∷ []) l₄ n
        → Wrote l at (block_text rule (sheet_of words) b) l₄ n
    unfolding block_text
    wrote_block visited v p q r s =
        rw (← v _ (E.marks b h), ← E.states b h, ← e, line_spelled, state_spelled)
        (then (then p (then q r)) s)

-- the lines

pub blocks_none : (rule : Rule) (S : Sheet) (l : List ℕ) → Wrote l 0 (by_block (block_text rule S) 0 0) l 0
unfolding by_block
blocks_none rule S l = record { list = refl; next = omega arith }

pub blocks_then : {l l₁ l₂ : List ℕ} {j k : ℕ} (rule : Rule) (S : Sheet) (n : ℕ) → Wrote l 0 (by_block (block_text rule S) 0 n) l₁ j → Wrote l₁ j (block_text rule S n) l₂ k
    → Wrote l 0 (by_block (block_text rule S) 0 (n + 1)) l₂ k
blocks_then rule S n p q = rw (by_block_more (block_text rule S) n) (then p q)
