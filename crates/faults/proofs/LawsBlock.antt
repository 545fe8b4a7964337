-- A block that is being checked: the state before a place, and what a pass leaves of the faults up to there; a block that is not; all
-- blocks, one after the other.
use mathlib.Core.Path.{◌≡◌, refl, sym, ap, ◌∙◌}
use mathlib.Core.List.{List, [], ◌∷◌, map, map-append, append-nil, append-eq-nil_iff}
use mathlib.Core.Option.{Option, none, some}
use Prim.Native.Nat.{ℕ, zero, suc, ◌+◌, ◌*◌, ◌≤◌, ◌<◌}
use native.Mathlib.Numerals.{add-one}
use native.Mathlib.Omega.{arith}
use lib.ListN.{length, get_or}
use Rattle.lists.specs.Sets.{Wrote, then}
use Rattle.paper.specs.Sheet.{Step, steps_of, reference_typed}
use Rattle.paper.specs.Steps.{State, Fault, check, effect, effects}
use Rattle.paper.specs.Runs.{analysis, checked_from}
use Rattle.paper.specs.Limits.{max_blocks, max_steps, longest_fault_line, longest_unreached_line}
use Rattle.paper.specs.Report.{Line, Entry, fault_entry, unreached_entry, inst_of, faults_from, block_faults, entries_at, block_entries, by_block, find_errors, faults_in, unreached_text, lines_text}
use Rattle.paper.specs.declared.Rule.{Rule}
use Rattle.layout.specs.Layout.{blocks_word, opened_word, steps_word, state_base, state_words, all_words, mark_at}
use Rattle.walks.specs.Entries.{faults_append, reached_entries, reached_faults, unreached_entries}
use Rattle.cells.specs.States.{state_of, stored_state, RowsFit}
use Rattle.loaded.specs.Actions.{step_of, action_at, steps_at, RoomFor}
use Rattle.loaded.specs.Laws.{MayStand, room_within}
use Rattle.loaded.specs.Same.{length_steps, steps_more}
use Rattle.loaded.specs.declared.Action.{Action}
use Rattle.loaded.specs.Loaded.{first_step, step_total, sheet_of, Loaded, counts_in}
use Rattle.loaded.specs.Blocks.{steps_in_words}
use Rattle.tables.specs.Table.{mark_of, unmarked}
use Rattle.faults.specs.Errors.{line_at}
use Rattle.faults.specs.Blocks.{by_block_more}
use Rattle.faults.specs.Passes.{PassLaws, AfterPass, lines_append}
use Rattle.faults.specs.Reported.{Checkable, unmarked_at, unmarked_lines}
use Rattle.faults.proofs.LawsPasses.{pass_none, pass_then, pass_within, unreached_wrote}
use Rattle.faults.proofs.LawsFaults.{effects_more, faults_more, count_from, count_more, count_below}

-- the first `place` steps of the block, the state behind them, and their faults
abbrev steps_to : List ℕ → ℕ → ℕ → List Step
steps_to words block place = steps_at words (first_step words block) place

abbrev state_behind : Rule → List ℕ → ℕ → ℕ → State
state_behind rule words block place =
    effects rule (reference_typed (sheet_of words)) (steps_to words block place) (checked_from rule (sheet_of words) block)

abbrev faults_to : Rule → List ℕ → ℕ → ℕ → List Line
faults_to rule words block place =
    faults_from rule (sheet_of words) block 0 (steps_to words block place) (checked_from rule (sheet_of words) block)

-- they are checked: t is that state, and the pass was told those faults
pub record SoFar {S : Type 0} (told : List Entry → S → S → Type 0) (taken size : S → ℕ) (rule : Rule) (words : List ℕ)
    (block place : ℕ) (t : List (List ℕ)) (s s' : S) : Type 0 where
  pub state : state_of (counts_in words) t ≡ state_behind rule words block place
  pub passed : AfterPass told taken size (map fault_entry (faults_to rule words block place)) (longest_fault_line * place) s s'

-- the bounds of a block of a loaded sheet
pub record BlockWithin (words : List ℕ) (block : ℕ) : Type 0 where
  pub few : block < max_blocks
  pub opened : block < get_or words opened_word 0
  pub steps : first_step words block + step_total words block ≤ get_or words steps_word 0
  pub most : get_or words steps_word 0 ≤ max_steps
  pub size : all_words ≤ length words
  pub rows : RowsFit (counts_in words)

pub block_within : {words : List ℕ} {block : ℕ} → Loaded words → block < get_or words blocks_word 0 → BlockWithin words block
block_within {words} {block} l h =
    let b = l.bounds in
    let o : block < get_or words opened_word 0 = omega (arith, l.whole) in
    record {
      few = omega (arith, b.blocks);
      opened = o;
      steps = (b.each_block block o).steps;
      most = b.steps;
      size = b.size;
      rows = (b.regs, (b.slots, tt));
    }

-- the operands of a step lie in the words
pub room_at : {words : List ℕ} → Loaded words → (k : ℕ) → k < get_or words steps_word 0 → RoomFor (action_at words k) words
room_at {words} l k h = room_within (counts_in words) (MayStand (counts_in words)) words (action_at words k) (l.bounds.each_step k h).ranged

module _ {S : Type 0} {told : List Entry → S → S → Type 0} {taken size : S → ℕ} where
  module _ {rule : Rule} {words : List ℕ} {block : ℕ} (C : Checkable rule words) (h : block < get_or words blocks_word 0) where
    -- nothing is checked yet
    pub so_far_none : PassLaws told → (t : List (List ℕ)) (s : S)
        → state_of (counts_in words) t ≡ stored_state (counts_in words) (state_base + block * state_words) words
        → SoFar told taken size rule words block 0 t s s
    unfolding effects faults_from steps_at
    so_far_none laws t s e = record { state = e ∙ C.states block h; passed = pass_none laws _ s }

    -- all is checked
    pub so_far_all : {t : List (List ℕ)} {s s' : S} → SoFar told taken size rule words block (step_total words block) t s s'
        → AfterPass told taken size (map fault_entry (block_faults rule (sheet_of words) block)) (longest_fault_line * step_total words block) s s'
    unfolding block_faults
    so_far_all f = rw (steps_in_words words block (block_within C.loaded h).opened) f.passed

  -- one step more
  pub so_far_more : {rule : Rule} {words : List ℕ} {block place : ℕ} {t u : List (List ℕ)} {s s' s'' : S} → PassLaws told
      → (a : Action) (o : Option Fault) (inst : ℕ) → a ≡ action_at words (first_step words block + place)
      → o ≡ check (step_of words a) (state_of (counts_in words) t) → inst ≡ inst_of (step_of words a)
      → state_of (counts_in words) u ≡ effect rule (reference_typed (sheet_of words)) (step_of words a) (state_of (counts_in words) t)
      → SoFar told taken size rule words block place t s s'
      → AfterPass told taken size (line_at (record { block = block; place = place; inst = inst }) o) longest_fault_line s' s''
      → SoFar told taken size rule words block (place + 1) u s s''
  unfolding line_at
  so_far_more {rule} {words} {block} {place} laws a o inst ea eo ei eu f n =
      let first = first_step words block in
      let X = sheet_of words in
      let x = step_of words (action_at words (first + place)) in
      let xs = steps_at words first place in
      let z : 0 + length xs ≡ place = omega (arith, length_steps words first place) in
      record {
        state = rw (steps_more words first place, effects_more rule (reference_typed X) x xs, ← f.state, ← ea) eu;
        passed =
            rw (steps_more words first place, faults_more rule X block x 0 xs, z, ← f.state, ← ea, ← ei, ← eo, map-append)
            (pass_within (omega arith) (pass_then laws f.passed n));
      }

-- block after block

pub count_next : (words : List ℕ) (block : ℕ) → count_from words 0 (block + 1) ≡ count_from words 0 block + step_total words block
count_next words block = let z : 0 + block ≡ block = omega arith in rw add-one (rw z at (count_more words 0 block))

-- no more steps than a sheet has
pub count_within : {rule : Rule} {words : List ℕ} (block : ℕ) → Checkable rule words → block ≤ get_or words blocks_word 0
    → count_from words 0 block ≤ max_steps
unfolding sheet_of
count_within {rule} {words} block C h =
    let o : block ≤ get_or words opened_word 0 = omega (arith, C.loaded.whole) in
    omega (arith, count_below words 0 block (get_or words opened_word 0) o, C.few)

-- a block's lines, by its mark
module _ {rule : Rule} {words : List ℕ} {block : ℕ} (C : Checkable rule words) (h : block < get_or words blocks_word 0) where
  abbrev state_of_block : Option State
  state_of_block = (analysis rule (sheet_of words)).table block

  pub unmarked_entries : get_or words (mark_at block) 0 ≡ 0 → block_entries rule (sheet_of words) block ≡ unreached_entry block ∷ []
  unmarked_entries e = unreached_entries rule (sheet_of words) block (unmarked state_of_block (sym (C.marks block h) ∙ e))

  pub marked_entries : (get_or words (mark_at block) 0 ≡ 0 → ⊥)
      → block_entries rule (sheet_of words) block ≡ map fault_entry (block_faults rule (sheet_of words) block)
  unfolding block_entries entries_at mark_of
  marked_entries e = at state_of_block refl
    where
      at : (o : Option State) → state_of_block ≡ o
          → entries_at rule (sheet_of words) block state_of_block ≡ map fault_entry (block_faults rule (sheet_of words) block)
      at none t = absurd (e (C.marks block h ∙ ap mark_of t))
      at (some s) t = ap (entries_at rule (sheet_of words) block) t

  -- without a fault they are the line of its mark
  pub faultless : faults_in (block_entries rule (sheet_of words) block) ≡ []
      → unmarked_at block (get_or words (mark_at block) 0) ≡ block_entries rule (sheet_of words) block
  unfolding unmarked_at mark_of
  faultless e = at state_of_block refl
    where
      at : (o : Option State) → state_of_block ≡ o → unmarked_at block (get_or words (mark_at block) 0) ≡ block_entries rule (sheet_of words) block
      at none t = rw (C.marks block h, t) (sym (unreached_entries rule (sheet_of words) block t))
      at (some s) t =
          let S = sheet_of words in
          let none : faults_from rule S block 0 (steps_of S block) s ≡ [] = sym (reached_faults rule S block s t) ∙ e in
          rw (C.marks block h, t) (sym (reached_entries rule S block s t ∙ ap (map fault_entry) none))

-- the lines of a sheet without a fault
module _ {rule : Rule} {words : List ℕ} (C : Checkable rule words) where
  faultless_blocks : (n b : ℕ) → b + n ≤ get_or words blocks_word 0 → faults_in (by_block (block_entries rule (sheet_of words)) b n) ≡ []
      → by_block (λ c. unmarked_at c (get_or words (mark_at c) 0)) b n ≡ by_block (block_entries rule (sheet_of words)) b n
  unfolding by_block
  faultless_blocks zero b l e = refl
  faultless_blocks (suc n) b l e =
      let f = block_entries rule (sheet_of words) in
      let p : (faults_in (f b) ≡ []) × (faults_in (by_block f (suc b) n) ≡ []) =
      append-eq-nil_iff.0 (sym (faults_append (f b) (by_block f (suc b) n)) ∙ e) in
      rw (faultless C (omega arith) p.0, faultless_blocks n (suc b) (omega arith) p.1) refl

  pub faultless_lines : faults_in (find_errors rule (sheet_of words)) ≡ [] → unmarked_lines words ≡ find_errors rule (sheet_of words)
  unfolding unmarked_lines find_errors sheet_of
  faultless_lines e = faultless_blocks (get_or words blocks_word 0) 0 (omega arith) e

-- what a pass was told of the first n blocks
abbrev blocks_room : List ℕ → ℕ → ℕ
blocks_room words n = longest_fault_line * count_from words 0 n + longest_unreached_line * n

abbrev pub AfterBlocks : {S : Type 0} → (List Entry → S → S → Type 0) → (S → ℕ) → (S → ℕ) → Rule → List ℕ → ℕ → S → S → Type 0
AfterBlocks told taken size rule words n s s' =
    AfterPass told taken size (by_block (block_entries rule (sheet_of words)) 0 n) (blocks_room words n) s s'

module _ {S : Type 0} {told : List Entry → S → S → Type 0} {taken size : S → ℕ} where
  pub blocks_none : PassLaws told → (rule : Rule) (words : List ℕ) (s : S) → AfterBlocks told taken size rule words 0 s s
  unfolding by_block
  blocks_none laws rule words s = pass_none laws _ s

  pub blocks_more : {s s' s'' : S} → PassLaws told → (rule : Rule) (words : List ℕ) (block : ℕ)
      → AfterBlocks told taken size rule words block s s'
      → AfterPass told taken size (block_entries rule (sheet_of words) block) (longest_fault_line * step_total words block + longest_unreached_line) s' s''
      → AfterBlocks told taken size rule words (block + 1) s s''
  blocks_more laws rule words block p q =
      rw (by_block_more (block_entries rule (sheet_of words)) block)
      (pass_within (omega (arith, count_next words block)) (pass_then laws p q))

  pub blocks_all : {s s' : S} (rule : Rule) (words : List ℕ) (most : ℕ) → blocks_room words (get_or words blocks_word 0) ≤ most
      → AfterBlocks told taken size rule words (get_or words blocks_word 0) s s'
      → AfterPass told taken size (find_errors rule (sheet_of words)) most s s'
  unfolding find_errors sheet_of
  blocks_all rule words most h p = pass_within h p

-- the lines of the blocks without a mark, one block after the other
abbrev pub unmarked_to : List ℕ → ℕ → List Entry
unmarked_to words n = by_block (λ b. unmarked_at b (get_or words (mark_at b) 0)) 0 n

pub unmarked_none : (words l : List ℕ) (at : ℕ) → Wrote l at (lines_text (unmarked_to words 0)) l at
unfolding by_block lines_text
unmarked_none words l at = record { list = refl; next = omega arith }

module _ (words : List ℕ) (block : ℕ) {l l₁ : List ℕ} {at j : ℕ} (w : Wrote l at (lines_text (unmarked_to words block)) l₁ j) where
  pub unmarked_skipped : (get_or words (mark_at block) 0 ≡ 0 → ⊥) → Wrote l at (lines_text (unmarked_to words (block + 1))) l₁ j
  unmarked_skipped e =
      rw (by_block_more (λ b. unmarked_at b (get_or words (mark_at b) 0)) block, other (get_or words (mark_at block) 0) e, append-nil) w
    where
      other : (mark : ℕ) → (mark ≡ 0 → ⊥) → unmarked_at block mark ≡ []
      other zero d = absurd (d refl)
      other (suc mark) d = unfold unmarked_at in refl

  pub unmarked_more : {l₂ : List ℕ} {k : ℕ} → get_or words (mark_at block) 0 ≡ 0 → Wrote l₁ j (unreached_text block) l₂ k
      → Wrote l at (lines_text (unmarked_to words (block + 1))) l₂ k
  unfolding unmarked_at
  unmarked_more e q =
      rw (by_block_more (λ b. unmarked_at b (get_or words (mark_at b) 0)) block, e, lines_append) (then w (unreached_wrote block q))
