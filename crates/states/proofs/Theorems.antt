-- What `entry_states` leaves under the house rule means: the line of a block that walks come to has `1` and the cells of the meet over
-- all walks; that of any other block has `0` and all cells Unknown. No queue stands in these statements.
use mathlib.Core.Path.{◌≡◌, refl, sym, ◌∙◌}
use mathlib.Core.Bool.{false}
use mathlib.Core.List.{[]}
use mathlib.Core.Option.{Option, none, some}
use Prim.Native.Nat.{ℕ, zero, suc, ◌+◌, ◌<◌}
use native.Mathlib.Omega.{arith}
use lib.ListN.{take}
use Rattle.paper.specs.Text.{Bytes, digits}
use Rattle.paper.specs.Sheet.{Sheet}
use Rattle.paper.specs.Steps.{State, unreached_state}
use Rattle.paper.specs.Runs.{flow, analysis, checked_from}
use Rattle.paper.specs.Refusals.{loaded, read}
use Rattle.paper.specs.Report.{by_block, missing_allocations}
use Rattle.paper.specs.Answer.{Lent, too_short}
use Rattle.paper.specs.Walks.{HouseWalk, MeetOverWalks}
use Rattle.paper.specs.declared.Rule.TheVariants.{House}
use Rattle.walks.specs.Choices.{some_not_none}
use Rattle.walks.proofs.Theorems.{read_sheet, meet_unique}
use Rattle.checker.specs.Checked.{Stated}
use Rattle.checker.proofs.Texts.{text_left_by}
use Rattle.states.specs.Stated.{states_size}
use Rattle.states.specs.EntryStates.{visited_text, state_line, block_text, unless_missing, states_after, entry_states}

-- blocks with the same lines have the same text
same_blocks : (f g : ℕ → Bytes) (b n : ℕ) → ((k : ℕ) → k < b + n → f k ≡ g k) → by_block f b n ≡ by_block g b n
unfolding by_block
same_blocks f g b zero e = refl
same_blocks f g b (suc n) e = rw (e b (omega arith), same_blocks f g (suc b) n (λ k l. e k (omega arith)))

-- lines that say of each block what the walks to it say
pub record LinesOfMeets (S : Sheet) (line : ℕ → Bytes) : Type 0 where
  pub reached : (b : ℕ) → b < S.blocks → HouseWalk S b → (s : State) × (MeetOverWalks (flow House S) b s × (line b ≡ state_line b (digits 1) s))
  pub unreached : (b : ℕ) → b < S.blocks → ¬ HouseWalk S b → line b ≡ state_line b (digits 0) (unreached_state House S)

-- a block's line, by the walks that come to it
module _ (bytes : Bytes) (S : Sheet) (h : read bytes ≡ loaded S) where
  pub visited_line : (b : ℕ) → HouseWalk S b → (s : State) → MeetOverWalks (flow House S) b s → block_text House S b ≡ state_line b (digits 1) s
  unfolding block_text visited_text
  visited_line b w s m =
      let k = read_sheet bytes S h in
      let v = (k.visited b).1 w in
      rw (v.1, meet_unique S b _ _ (k.meets b w) m)

  pub unreached_line : (b : ℕ) → ¬ HouseWalk S b → block_text House S b ≡ state_line b (digits 0) (unreached_state House S)
  unfolding block_text visited_text
  unreached_line b far = at ((analysis House S).table b) refl
    where
      at : (t : Option State) → (analysis House S).table b ≡ t → state_line b (visited_text House ((analysis House S).table b)) (checked_from House S b) ≡ state_line b (digits 0) (unreached_state House S)
      at none e = rw (e, (read_sheet bytes S h).alone b far)
      at (some s) e = absurd (far (((read_sheet bytes S h).visited b).0 (s, e)))

  -- there are such lines
  pub lines_of_meets : LinesOfMeets S (block_text House S)
  lines_of_meets =
      let k = read_sheet bytes S h in
      record { reached = λ b l w. (checked_from House S b, (k.meets b w, visited_line b w (checked_from House S b) (k.meets b w))); unreached = λ b l. unreached_line b }

  -- and no others
  same_lines : (line : ℕ → Bytes) → LinesOfMeets S line → (b : ℕ) → b < S.blocks → block_text House S b ≡ line b
  same_lines line L b l = at ((analysis House S).table b) refl
    where
      at : (t : Option State) → (analysis House S).table b ≡ t → block_text House S b ≡ line b
      at none e =
          let k = read_sheet bytes S h in
          let far : ¬ HouseWalk S b = λ w. some_not_none e ((k.visited b).1 w).1 in
          unreached_line b far ∙ sym (L.unreached b l far)
      at (some s) e =
          let w = ((read_sheet bytes S h).visited b).0 (s, e) in
          let r = L.reached b l w in
          visited_line b w r.0 r.1.0 ∙ sym r.1.1

  -- the text of all blocks
  pub states_are_meets : missing_allocations S ≡ [] → (line : ℕ → Bytes) → LinesOfMeets S line → entry_states House bytes ≡ by_block line 0 S.blocks
  unfolding entry_states states_after unless_missing
  states_are_meets m line L = rw (h, m) (same_blocks (block_text House S) line 0 S.blocks λ b l. same_lines line L b (omega arith))

-- the call
pub entry_states_meets : (bytes : Bytes) {before after : Lent} {n : ℕ} (S : Sheet) (h : read bytes ≡ loaded S)
    → Stated states_size (entry_states House bytes) before after n → too_short states_size before ≡ false
    → missing_allocations S ≡ [] → (line : ℕ → Bytes) → LinesOfMeets S line → take n after.report ≡ by_block line 0 S.blocks
entry_states_meets bytes S h c long m line L = text_left_by c long ∙ states_are_meets bytes S h m line L
