-- One block's state and mark change: what becomes of the table that stands in the words.
use Rattle.std.specs.Prelude.{◌≡◌, refl, Bool, List, get_or, set}
use Rattle.std.proofs.Common.{sym, subst, ◌∙◌, arith, length-set, get_or-set_same, get_or-set_other}
use Rattle.std.proofs.Math.Path.{ap}
use Rattle.std.proofs.Math.Bool.{true, false}
use Rattle.std.proofs.Math.Option.{Option, none, some}
use Prim.Native.Nat.{ℕ, ◌+◌, ◌≤◌, ◌<◌}
use Rattle.std.proofs.Math.Decide.{ℕ_discrete}
use Rattle.lists.specs.Kept.{Kept, kept_wider, kept_set, kept_then}
use Rattle.lists.specs.Split.{by_order}
use Rattle.paper.specs.Sheet.{Sheet}
use Rattle.paper.specs.Steps.{State, counts_of}
use Rattle.paper.specs.Runs.{update, meet_states, state_same, entered}
use Rattle.paper.specs.declared.Rule.{Rule}
use Rattle.paper.specs.Limits.{max_blocks}
use Rattle.layout.specs.Layout.{blocks_word, state_words, state_at, mark_at}
use Rattle.walks.specs.Choices.{pick_yes, pick_no, update_same, update_other}
use Rattle.cells.specs.States.{state_of, stored_state, RowsFit, MetWith, Stored}
use Rattle.cells.specs.Laws.{stored_stays}
use Rattle.loaded.specs.Loaded.{sheet_of, counts_in}
use Rattle.tables.specs.Held.{RunKept, held_state}
use Rattle.loaded.specs.Sheets.{sheet_stays, loaded_stays}
use Rattle.tables.specs.Table.{Ready, Holds, mark_of, unmarked, Tabled, Tables, joined, arrives, Came, Entered}

-- only block b's words change
pub record Alone (b : ℕ) (words words' : List ℕ) : Type 0 where
  pub kept : RunKept words words'
  pub states : (k : ℕ) → k < max_blocks → (k ≡ b → ⊥) → (i : ℕ) → state_at k ≤ i → i < state_at k + state_words → get_or words' i 0 ≡ get_or words i 0
  pub marks : (k : ℕ) → k < max_blocks → (k ≡ b → ⊥) → get_or words' (mark_at k) 0 ≡ get_or words (mark_at k) 0

module _ {words words₁ : List ℕ} (b : ℕ) (h : b < max_blocks) (kept : Kept (state_at b) state_words words words₁) where
  -- its state changes
  alone_state : Alone b words words₁
  alone_state = record {
    kept = kept_wider _ _ kept (omega arith) (omega arith);
    states = λ k l d i lo hi. by_order k b (λ less. kept.below i (omega arith)) (λ more. kept.above i (omega arith));
    marks = λ k l d. kept.above (mark_at k) (omega arith);
  }

  -- and its mark
  pub alone_both : (v : ℕ) → Alone b words (set words₁ (mark_at b) v)
  alone_both v = record {
    kept = kept_then _ _ kept (kept_set (mark_at b) 1 words₁ (mark_at b) v (omega arith) (omega arith)) (omega arith) (omega arith) (omega arith) (omega arith);
    states = λ k l d i lo hi. get_or-set_other words₁ (mark_at b) i v 0 (λ e. omega arith) ∙ alone_state.states k l d i lo hi;
    marks = λ k l d. get_or-set_other words₁ (mark_at b) (mark_at k) v 0 (λ e. d (omega arith)) ∙ alone_state.marks k l d;
  }

-- the counts that the words have fit a state
pub counts_fit : {words : List ℕ} (counts : List ℕ) → Ready words → counts ≡ counts_in words → RowsFit counts
counts_fit counts ready e = subst (λ (counts : List ℕ). RowsFit counts) (sym e) (ready.loaded.bounds.regs, (ready.loaded.bounds.slots, tt))

-- the counts of a sheet, as its words have them
module _ {S : Sheet} {words : List ℕ} (sheet : Holds S words) where
  pub blocks_are : S.blocks ≡ get_or words blocks_word 0
  unfolding sheet_of
  blocks_are = ap (λ (s : Sheet). s.blocks) (sym sheet.is)

  counts_are : counts_of S ≡ counts_in words
  unfolding sheet_of counts_of
  counts_are = ap counts_of (sym sheet.is)

  pub few_blocks : S.blocks ≤ max_blocks
  few_blocks = rw blocks_are sheet.ready.loaded.bounds.blocks

  pub rows_fit : RowsFit (counts_of S)
  rows_fit = counts_fit (counts_of S) sheet.ready counts_are

-- a loaded sheet is the one that its words hold
pub sheet_here : {words : List ℕ} → Ready words → Holds (sheet_of words) words
sheet_here r = record { ready = r; is = refl }

pub ready_stays : {words words' : List ℕ} → RunKept words words' → Ready words → Ready words'
ready_stays kept r = record { loaded = loaded_stays kept r.loaded; room = rw kept.same_length r.room }

pub holds_stays : {S : Sheet} {words words' : List ℕ} → RunKept words words' → Holds S words → Holds S words'
holds_stays kept h = record { ready = ready_stays kept h.ready; is = sheet_stays kept h.ready.loaded.bounds ∙ h.is }

module _ {rule : Rule} {S : Sheet} {words words' : List ℕ} {b : ℕ} (sheet : Holds S words) (alone : Alone b words words') where
  -- a table of n blocks before the change, and one of m after it
  pub tabled_alone : {n m : ℕ} {table table' : ℕ → Option State} → m ≤ max_blocks
      → held_state S words' b ≡ entered rule S (table' b) → get_or words' (mark_at b) 0 ≡ mark_of (table' b)
      → ((k : ℕ) → k < m → (k ≡ b → ⊥) → (k < n) × (table' k ≡ table k)) → Tabled rule S n words table → Tabled rule S m words' table'
  tabled_alone {n} {m} {table} {table'} le state mark other t = record { states = λ k h. states k h (ℕ_discrete k b); marks = λ k h. marks k h (ℕ_discrete k b) }
    where
      states : (k : ℕ) → k < m → Dec (k ≡ b) → held_state S words' k ≡ entered rule S (table' k)
      states k h (yes e) = rw e state
      states k h (no d) =
          stored_stays (counts_of S) (state_at k) words words' alone.kept.same_length (rows_fit sheet) (omega (arith, sheet.ready.room)) (alone.states k (omega arith) d)
          ∙ t.states k (other k h d).0
          ∙ ap (entered rule S) (sym (other k h d).1)

      marks : (k : ℕ) → k < m → Dec (k ≡ b) → get_or words' (mark_at k) 0 ≡ mark_of (table' k)
      marks k h (yes e) = rw e mark
      marks k h (no d) = alone.marks k (omega arith) d ∙ t.marks k (other k h d).0 ∙ ap mark_of (sym (other k h d).1)

-- a state that is stored in block b's words, and then a mark
module _ {S : Sheet} {words words₁ : List ℕ} {s : List (List ℕ)} (sheet : Holds S words) (b v : ℕ) (h : b < max_blocks)
    (stored : Stored (counts_in words) (state_at b) s words words₁) where
  pub state_marked : held_state S (set words₁ (mark_at b) v) b ≡ state_of (counts_of S) s
  state_marked =
      stored_stays (counts_of S) (state_at b) words₁ (set words₁ (mark_at b) v) (length-set words₁ (mark_at b) v) (rows_fit sheet) (omega (arith, stored.kept.same_length, sheet.ready.room))
      (λ i lo hi. get_or-set_other words₁ (mark_at b) i v 0 (λ e. omega arith))
      ∙ rw (counts_are sheet) stored.meaning

  pub mark_set : get_or (set words₁ (mark_at b) v) (mark_at b) 0 ≡ v
  mark_set = get_or-set_same words₁ (mark_at b) v 0 (omega (arith, stored.kept.same_length, sheet.ready.room))

-- block b gets the state x and is visited
tables_update : {rule : Rule} {S : Sheet} {words words' : List ℕ} {table : ℕ → Option State} (b : ℕ) (x : State) → Alone b words words'
    → held_state S words' b ≡ x → get_or words' (mark_at b) 0 ≡ 1 → Tables rule S words table → Tables rule S words' (update table b x)
unfolding mark_of entered
tables_update {rule} {S} {words} {words'} {table} b x alone state mark t = record {
  sheet = holds_stays alone.kept t.sheet;
  tabled =
      tabled_alone t.sheet alone (few_blocks t.sheet)
      (rw (update_same table b x) state)
      (rw (update_same table b x) mark)
      (λ k h d. (h, update_other table b x k d))
      t.tabled;
}

-- a block whose mark is not 0 has a state
pub marked : (rule : Rule) (S : Sheet) (o : Option State) → (mark_of o ≡ 0 → ⊥) → o ≡ some (entered rule S o)
unfolding mark_of entered
marked rule S none d = absurd (d refl)
marked rule S (some s) d = refl

-- a state that comes to a visited block is new where the meet is
module _ (rule : Rule) (a x : State) where
  arrives_new : (meet_states rule a x ≡ a → ⊥) → arrives rule (some a) x ≡ true
  unfolding arrives
  arrives_new = pick_no (state_same (meet_states rule a x) a) false true

  arrives_known : meet_states rule a x ≡ a → arrives rule (some a) x ≡ false
  unfolding arrives
  arrives_known = pick_yes (state_same (meet_states rule a x) a) false true

module _ {words : List ℕ} (b : ℕ) (s : List (List ℕ)) (h : b < get_or words blocks_word 0) where
  -- a state is stored in block b's words, and its mark set
  pub entered_is : {words₁ : List ℕ} → Ready words → Stored (counts_in words) (state_at b) s words words₁ → Entered b s words (set words₁ (mark_at b) 1)
  entered_is {words₁} ready stored = record { kept = alone.kept; tables = tables }
    where
      small : b < max_blocks
      small = omega (arith, ready.loaded.bounds.blocks)

      alone : Alone b words (set words₁ (mark_at b) 1)
      alone = alone_both b small stored.kept 1

      tables : (rule : Rule) (S : Sheet) (table : ℕ → Option State) → Tables rule S words table → Tables rule S (set words₁ (mark_at b) 1) (update table b (state_of (counts_of S) s))
      tables rule S table t = tables_update b _ alone (state_marked t.sheet b 1 small stored) (mark_set t.sheet b 1 small stored) t

  -- block b is unvisited, and takes the state
  pub came_first : {rule : Rule} {words' : List ℕ} → get_or words (mark_at b) 0 ≡ 0 → Entered b s words words' → Came rule b s words words' true
  unfolding joined arrives
  came_first {rule} {words'} mark e = record {
    kept = e.kept;
    tables = λ S table t. rw (none_there S table t) (e.tables rule S table t);
    is_new = λ S table t. rw (none_there S table t);
  }
    where
      none_there : (S : Sheet) (table : ℕ → Option State) → Tables rule S words table → table b ≡ none
      none_there S table t = unmarked (table b) (sym (t.tabled.marks b (omega (arith, blocks_are t.sheet))) ∙ mark)

  -- block b is visited, and the state is met into the one that it has
  module _ {rule : Rule} (ready : Ready words) (mark : get_or words (mark_at b) 0 ≡ 0 → ⊥) where
    module _ (S : Sheet) (table : ℕ → Option State) (t : Tables rule S words table) where
      some_there : table b ≡ some (held_state S words b)
      some_there =
          let l : b < S.blocks = omega (arith, blocks_are t.sheet) in
          marked rule S (table b) (λ e. mark (t.tabled.marks b l ∙ e)) ∙ ap some (sym (t.tabled.states b l))

      set_there : get_or words (mark_at b) 0 ≡ 1
      unfolding mark_of
      set_there = t.tabled.marks b (omega (arith, blocks_are t.sheet)) ∙ ap mark_of some_there

    pub came_again : {words' : List ℕ} (new : Bool) → MetWith rule (counts_in words) (state_at b) s words words' new → Came rule b s words words' new
    unfolding joined
    came_again {words'} true met = record {
      kept = alone.kept;
      tables = λ S table t. rw (some_there S table t) (tables_update b _ alone (rw (counts_are t.sheet) met.meaning) (met.kept.above (mark_at b) (omega (arith, ready.loaded.bounds.blocks)) ∙ set_there S table t) t);
      is_new = λ S table t. rw (some_there S table t, counts_are t.sheet) (sym (arrives_new rule _ _ (met.moved refl)));
    }
      where
        alone : Alone b words words'
        alone = alone_state b (omega (arith, ready.loaded.bounds.blocks)) met.kept
    came_again {words'} false met = record {
      kept = (alone_state b (omega (arith, ready.loaded.bounds.blocks)) met.kept).kept;
      tables = λ S table t. rw (met.still refl) t;
      is_new = λ S table t. rw (some_there S table t, counts_are t.sheet) (sym (arrives_known rule _ _ (sym met.meaning ∙ ap (stored_state _ (state_at b)) (met.still refl))));
    }
