-- The theorems of demand 3 and the visit bounds, in document 01's order, over the definitions of `paper`. They hold for any number
-- of blocks, registers, slots and steps; no limit of document 01 is used but by `read_few` and `read_reported`. `Closed S` says that the
-- entry and all successors are blocks, `Typed S` that no `C` stands between names that differ in being reference-typed (refusal 8):
-- section 6 has both of every sheet that is read. That real names are never reference-typed stands in the definition of
-- `reference_typed`.
use Rattle.std.specs.Prelude.{◌≡◌, ◌↔◌, Bool, List, [], ◌∷◌, ◌++◌, map, ℕ, suc, ◌+◌, ◌*◌, ◌≤◌, ◌<◌, length}
use Rattle.std.proofs.Math.Path.{refl, subst}
use Rattle.std.proofs.Common.{sym, ◌∙◌}
use Rattle.std.proofs.Math.Option.{Option, none, some}
use Rattle.paper.specs.Text.{Bytes, Name}
use Rattle.paper.specs.Sheet.{Step, Sheet, succs_of, steps_of, reference_typed}
use Rattle.paper.specs.Cells.{Cell, meet}
use Rattle.paper.specs.Steps.{State, counts_of, unreached_state, effect, effects}
use Rattle.paper.specs.Runs.{Run, meet_states, flow, begin, spread, step, run, visit_bound, EndsAfter, analysis, entered, checked_from}
use Rattle.paper.specs.Report.{Line, fault_entry, unreached_entry, find_errors, entries, faults, report_text}
use Rattle.paper.specs.Limits.{max_steps}
use Rattle.paper.specs.Refusals.{step_count, loaded, read}
use Rattle.paper.specs.Answer.{accepted, answer}
use Rattle.paper.specs.Walks.{In, MeetOverWalks, HouseWalk, Acceptance}
use Rattle.paper.specs.Programs.{EqualReads}
use Rattle.paper.specs.declared.Rule.{Rule}
use Rattle.paper.specs.declared.Rule.TheVariants.{Old, House}
use Rattle.walks.specs.Order.{Served, in_order}
use Rattle.walks.specs.Bounds.{Closed, cells_counted}
use Rattle.walks.specs.Honest.{Typed}
use Rattle.walks.proofs.Loop.{Standing}
use Rattle.walks.proofs.Faults.{Explained}
use Rattle.walks.proofs.Unreached.{Unwalked}
use Rattle.walks.specs.Former.{former_answer}
use Rattle.walks.specs.Meet
use Rattle.walks.specs.Effects
use Rattle.walks.specs.Flow
use Rattle.walks.specs.Fits
use Rattle.walks.proofs.Loop
use Rattle.walks.proofs.Ended
use Rattle.walks.proofs.House as Ends
use Rattle.walks.specs.Honest
use Rattle.walks.proofs.Acceptance as Accepting
use Rattle.walks.proofs.Faults
use Rattle.walks.proofs.Unreached
use Rattle.walks.specs.Former
use Rattle.walks.specs.OldRule
use Rattle.walks.proofs.OldRule as Orders
use Rattle.walks.specs.Reading
use Rattle.walks.specs.Small.{SmallReport}
use Rattle.walks.specs.Written

-- 1. The house meet is associative, commutative and idempotent, of cells and of states.
pub house_assoc : (x y z : Cell) → meet House (meet House x y) z ≡ meet House x (meet House y z)
house_assoc = Meet.house_assoc

pub house_comm : (x y : Cell) → meet House x y ≡ meet House y x
house_comm = Meet.house_comm

pub house_idem : (x : Cell) → meet House x x ≡ x
house_idem = Meet.house_idem

pub states_assoc : (s t u : State) → meet_states House (meet_states House s t) u ≡ meet_states House s (meet_states House t u)
states_assoc = Effects.states_assoc House

pub states_comm : (s t : State) → meet_states House s t ≡ meet_states House t s
states_comm = Effects.states_comm House

pub states_idem : (s : State) → meet_states House s s ≡ s
states_idem = Effects.states_idem House

-- So is the old meet: a result that a block has met once changes nothing when it comes again.
pub old_assoc : (x y z : Cell) → meet Old (meet Old x y) z ≡ meet Old x (meet Old y z)
old_assoc = Meet.cell_assoc Old

pub old_comm : (x y : Cell) → meet Old x y ≡ meet Old y x
old_comm = Meet.cell_comm Old

pub old_idem : (x : Cell) → meet Old x x ≡ x
old_idem = Meet.cell_idem Old

-- Every house effect distributes over the house meet, and so does every block.
pub effect_distributes : (ref : Name → Bool) (x : Step) (s t : State) → effect House ref x (meet_states House s t) ≡ meet_states House (effect House ref x s) (effect House ref x t)
effect_distributes = Effects.effect_distributes

pub effects_distribute : (ref : Name → Bool) (xs : List Step) (s t : State) → effects House ref xs (meet_states House s t) ≡ meet_states House (effects House ref xs s) (effects House ref xs t)
effects_distribute = Effects.effects_distribute

-- Under the old rule an effect need not distribute, and a finished run that serves the blocks in another order may end in other
-- states (OldRule.antt has the sheet and both runs, computed; the report differs too).
pub old_does_not_distribute : ¬ ((ref : Name → Bool) (x : Step) (s t : State) → effect Old ref x (meet_states Old s t) ≡ meet_states Old (effect Old ref x s) (effect Old ref x t))
old_does_not_distribute = OldRule.old_does_not_distribute

pub old_order_shows : ¬ ((S : Sheet) → Closed S → (order : List ℕ) → (in_order (flow Old S) order (begin Old S)).queue ≡ []
    → (b : ℕ) → (in_order (flow Old S) order (begin Old S)).table b ≡ (analysis Old S).table b)
old_order_shows = Orders.old_order_shows

-- 2. "The visit bounds are of the defined run: its queue is empty after at most that many visits."
pub house_run_ends : (S : Sheet) → Closed S → (run (flow House S) (S.blocks * (1 + 3 * (S.regs + S.slots))) (begin House S)).queue ≡ []
unfolding analysis visit_bound
house_run_ends S C = rw (cells_counted S) at (Loop.analysis_ends House S C)

pub old_run_ends : (S : Sheet) → Closed S → (run (flow Old S) (1 + S.blocks * (4 * (S.regs + S.slots))) (begin Old S)).queue ≡ []
unfolding analysis visit_bound
old_run_ends S C = rw (cells_counted S) at (Loop.analysis_ends Old S C)

-- Each run has one number of visits after which, and not before, its queue is empty, and that number stays within the bound.
pub run_visits : (rule : Rule) (S : Sheet) → Closed S → (k : ℕ) × (EndsAfter rule S k × (k ≤ visit_bound rule S))
run_visits rule S C = let e = Ended.ends_after rule S C in (e.0, (e.1, Ended.ends_within rule S C e.1))

pub visits_once : (rule : Rule) (S : Sheet) (j k : ℕ) → EndsAfter rule S j → EndsAfter rule S k → j ≡ k
visits_once rule S j k = Ended.ends_once rule S

-- For code, under either rule. `Standing rule S C k r` is an invariant of the run r, with k the visits begun so far: it holds at the
-- start, after each visit, and inside a visit after each push.
module _ (rule : Rule) (S : Sheet) (C : Closed S) where
  pub standing_begin : Standing rule S C 0 (begin rule S)
  standing_begin = Loop.standing_begin rule S C

  pub standing_step : {k : ℕ} {r : Run State} → Standing rule S C k r → (b : ℕ) (queue : List ℕ) → r.queue ≡ b ∷ queue → Standing rule S C (suc k) (step (flow rule S) r)
  standing_step h = Loop.standing_step rule S C h

  pub standing_inside : {k : ℕ} {r : Run State} → Standing rule S C k r → (b : ℕ) (queue : List ℕ) (s : State) (pushed rest : List ℕ)
      → r.queue ≡ b ∷ queue → r.table b ≡ some s → succs_of S b ≡ pushed ++ rest
      → Standing rule S C (suc k) (spread (flow rule S) pushed (effects rule (reference_typed S) (steps_of S b) s) (record { table = r.table; queue = queue }))
  standing_inside h = Loop.standing_inside rule S C h

  -- visits so far and blocks waiting never pass the bound; a waiting block is a block and has a state; states have as many cells
  -- as `F` counts
  pub standing_room : {k : ℕ} {r : Run State} → Standing rule S C k r → k + length r.queue ≤ visit_bound rule S
  standing_room h = Loop.standing_room rule S C h

  pub standing_below : {k : ℕ} {r : Run State} → Standing rule S C k r → (b : ℕ) → In b r.queue → b < S.blocks
  standing_below h = Loop.standing_below rule S C h

  pub standing_visited : {k : ℕ} {r : Run State} → Standing rule S C k r → (b : ℕ) → In b r.queue → (s : State) × (r.table b ≡ some s)
  standing_visited h = Loop.standing_visited rule S C h

  pub standing_lengths : {k : ℕ} {r : Run State} → Standing rule S C k r → (b : ℕ) (s : State) → r.table b ≡ some s → map length s ≡ S.regs ∷ S.slots ∷ []
  unfolding counts_of
  standing_lengths h = Loop.standing_lengths rule S C h

  pub checked_lengths : (b : ℕ) → map length (checked_from rule S b) ≡ S.regs ∷ S.slots ∷ []
  unfolding counts_of
  checked_lengths = Loop.checked_lengths rule S C

  -- a run that stops because its queue is empty is the whole analysis
  pub stopped_early : (k : ℕ) → (run (flow rule S) k (begin rule S)).queue ≡ [] → run (flow rule S) k (begin rule S) ≡ analysis rule S
  stopped_early = Loop.stopped_early rule S C

-- an effect keeps the rows' lengths
pub effect_lengths : (rule : Rule) (ref : Name → Bool) (x : Step) (s : State) → map length (effect rule ref x s) ≡ map length s
effect_lengths = Fits.effect_lengths

-- 3. There is but one meet over all walks.
pub meet_unique : (S : Sheet) (b : ℕ) (s t : State) → MeetOverWalks (flow House S) b s → MeetOverWalks (flow House S) b t → s ≡ t
meet_unique S = Flow.meet_unique (flow House S) (Effects.house_laws S)

module _ (S : Sheet) (C : Closed S) where
  -- The state that each reached block is checked from is the meet over all walks from the entry. Nothing here asks that no
  -- allocation is missing: an operand without one is nowhere, and its effect distributes too.
  pub meet_over_all_walks : (b : ℕ) → HouseWalk S b → MeetOverWalks (flow House S) b (checked_from House S b)
  unfolding checked_from entered
  meet_over_all_walks b w = at ((analysis House S).table b) refl
    where
      at : (t : Option State) → (analysis House S).table b ≡ t → MeetOverWalks (flow House S) b (entered House S ((analysis House S).table b))
      at none e = absurd (Ends.house_unreached S C b e w)
      at (some s) e = subst (λ (t : Option State). MeetOverWalks (flow House S) b (entered House S t)) (sym e) (Ends.house_meet_over_walks S C b s e)

  -- Visited blocks are exactly the reached ones.
  pub visited_are_reached : (b : ℕ) → ((s : State) × ((analysis House S).table b ≡ some s)) ↔ HouseWalk S b
  visited_are_reached b = (λ v. Ends.house_reached S C b v.0 v.1, λ w. at w ((analysis House S).table b) refl)
    where
      at : HouseWalk S b → (t : Option State) → (analysis House S).table b ≡ t → (s : State) × ((analysis House S).table b ≡ some s)
      at w none e = absurd (Ends.house_unreached S C b e w)
      at w (some s) e = (s, e)

  -- Any finished run that serves the blocks in another order ends in the same states. `Served` (Order.antt) lets the next block, the
  -- order of its successors and that of the waiting blocks be chosen anew at each visit.
  pub house_any_order : (r : Run State) → Served (flow House S) (begin House S) r → r.queue ≡ [] → (b : ℕ) → r.table b ≡ (analysis House S).table b
  house_any_order = Ends.house_any_order S C

  -- so too for the runs of section 1 that serve a list of blocks
  pub house_in_order : (order : List ℕ) → (in_order (flow House S) order (begin House S)).queue ≡ []
      → (b : ℕ) → (in_order (flow House S) order (begin House S)).table b ≡ (analysis House S).table b
  house_in_order = Ends.house_in_order S C

  -- 4. "House acceptance holds exactly when no allocation is missing, every check passes on every walk .. and no two walks come to the
  -- same `P` with different names in a slot it lists (that is kind 7).", as document 02, A5, has it: of walks only.
  pub acceptance : Typed S → (faults House S ≡ []) ↔ Acceptance S
  acceptance T = (Accepting.accepted_sentence S C T, Accepting.acceptance_suffices S C)

  -- 5. Along every walk, its last block's own steps included, the two programs read equal values at every use, for any type of values,
  -- any results, any collector.
  pub accepted_reads_equal : Typed S → faults House S ≡ [] → EqualReads S
  accepted_reads_equal T e = Accepting.equal_reads S C T ((acceptance T).0 e)

-- 6. The same from bytes. Refusals 4 and 5 give `Closed`, 4 and 8 `Typed`; no other is used. Needed.antt computes sheets
-- on which acceptance and equal reads fail without refusal 8, and with a reference-typed real name.
pub read_closed : (bytes : Bytes) (S : Sheet) → read bytes ≡ loaded S → Closed S
read_closed = Reading.read_closed

pub read_typed : (bytes : Bytes) (S : Sheet) → read bytes ≡ loaded S → Typed S
read_typed = Reading.read_typed

-- The buffers' sizes rest on refusal 9: a sheet that is read has at most 1,024 steps.
pub read_few : (bytes : Bytes) (S : Sheet) → read bytes ≡ loaded S → step_count S.body ≤ max_steps
read_few = Reading.read_few

-- What is known of every sheet that is read, accepted or not: the state that a reached block is checked from is the meet over all
-- walks, any other block keeps the all Unknown state and has a line `N` in place of faults, visited blocks are the reached ones, and each
-- run ends within document 01's count of visits. Where an allocation is missing "no analysis runs": there this is a fact of the
-- definitions only.
pub record ReadSheet (S : Sheet) : Type 0 where
  pub meets : (b : ℕ) → HouseWalk S b → MeetOverWalks (flow House S) b (checked_from House S b)
  pub alone : (b : ℕ) → ¬ HouseWalk S b → checked_from House S b ≡ unreached_state House S
  pub visited : (b : ℕ) → ((s : State) × ((analysis House S).table b ≡ some s)) ↔ HouseWalk S b
  pub house_ends : (run (flow House S) (S.blocks * (1 + 3 * (S.regs + S.slots))) (begin House S)).queue ≡ []
  pub old_ends : (run (flow Old S) (1 + S.blocks * (4 * (S.regs + S.slots))) (begin Old S)).queue ≡ []
  pub typed_ends : (run (flow House S) (S.blocks * (1 + 2 * (S.regs + S.slots))) (begin House S)).queue ≡ []
  pub visits : (rule : Rule) → (k : ℕ) × (EndsAfter rule S k × (k ≤ visit_bound rule S))
  pub shown : (l : Line) → In (fault_entry l) (find_errors House S) → Explained S l
  pub unreached : (b : ℕ) → In (unreached_entry b) (entries House S) ↔ Unwalked S b

pub read_sheet : (bytes : Bytes) (S : Sheet) → read bytes ≡ loaded S → ReadSheet S
read_sheet bytes S h =
    let C = read_closed bytes S h in
    record {
      meets = meet_over_all_walks S C;
      alone = λ b. Ends.house_alone S C b;
      visited = visited_are_reached S C;
      house_ends = house_run_ends S C;
      old_ends = old_run_ends S C;
      typed_ends = rw (cells_counted S) at (Honest.typed_run_ends S C (read_typed bytes S h));
      visits = λ rule. run_visits rule S C;
      shown = Faults.explained S C;
      unreached = Unreached.unreached_exactly S C;
    }

-- bytes that are read, and whose sheet the acceptance sentence holds of
pub record Acceptable (bytes : Bytes) : Type 0 where
  pub sheet : Sheet
  pub is_read : read bytes ≡ loaded sheet
  pub sentence : Acceptance sheet

-- what is known of bytes that are accepted under the house rule
pub record AcceptedBytes (bytes : Bytes) : Type 1 where
  pub sheet : Sheet
  pub is_read : read bytes ≡ loaded sheet
  pub meets : (b : ℕ) → HouseWalk sheet b → MeetOverWalks (flow House sheet) b (checked_from House sheet b)
  pub sentence : Acceptance sheet
  pub reads : EqualReads sheet

pub accepted_bytes : (bytes text : Bytes) → answer House bytes ≡ accepted text → AcceptedBytes bytes
accepted_bytes bytes text e =
    let a = Reading.accepted_sheet House bytes text e in
    let C = read_closed bytes a.0 a.1.0 in
    let T = read_typed bytes a.0 a.1.0 in
    record {
      sheet = a.0;
      is_read = a.1.0;
      meets = meet_over_all_walks a.0 C;
      sentence = (acceptance a.0 C T).0 a.1.1;
      reads = accepted_reads_equal a.0 C T a.1.1;
    }

-- and bytes that are read are accepted exactly when the sentence holds of their sheet
pub bytes_acceptance : (bytes : Bytes) (S : Sheet) → read bytes ≡ loaded S
    → (answer House bytes ≡ accepted (report_text House (entries House S))) ↔ Acceptance S
bytes_acceptance bytes S h = (said, λ E. Reading.sheet_accepted House bytes S h (exactly.1 E))
  where
    exactly : (faults House S ≡ []) ↔ Acceptance S
    exactly = acceptance S (read_closed bytes S h) (read_typed bytes S h)

    said : answer House bytes ≡ accepted (report_text House (entries House S)) → Acceptance S
    said e =
        let a = Reading.accepted_sheet House bytes (report_text House (entries House S)) e in
        exactly.0 (subst (λ (R : Sheet). faults House R ≡ []) (Reading.loaded_inj (sym a.1.0 ∙ h)) a.1.1)

pub acceptable : {bytes : Bytes} → AcceptedBytes bytes → Acceptable bytes
acceptable a = record { sheet = a.sheet; is_read = a.is_read; sentence = a.sentence }

pub accepted_exactly : (bytes : Bytes) → ((text : Bytes) × (answer House bytes ≡ accepted text)) ↔ Acceptable bytes
accepted_exactly bytes = (
  λ e. acceptable (accepted_bytes bytes e.0 e.1),
  λ a. (_, (bytes_acceptance bytes a.sheet a.is_read).1 a.sentence),
)

-- 7. Further. Where marks are the names' own, as they are in every sheet that is read, 2 does in place of 3.
pub typed_run_ends : (S : Sheet) → Closed S → Typed S → (run (flow House S) (S.blocks * (1 + 2 * (S.regs + S.slots))) (begin House S)).queue ≡ []
typed_run_ends S C T = rw (cells_counted S) at (Honest.typed_run_ends S C T)

-- Every fault that the house rule finds is shown by a walk on which that step's check fails, or, kind 7 alone, by two walks. `Explained`
-- and `Shown` stand in Faults.antt.
pub explained : (S : Sheet) → Closed S → (l : Line) → In (fault_entry l) (find_errors House S) → Explained S l
explained = Faults.explained

-- Document 02, A5: the line `N b` stands in the report exactly when no allocation is missing, b is a block and no walk comes to it
-- (`Unwalked`, Unreached.antt).
pub unreached_exactly : (S : Sheet) → Closed S → (b : ℕ) → In (unreached_entry b) (entries House S) ↔ Unwalked S b
unreached_exactly = Unreached.unreached_exactly

-- "The old rule is unchanged": what is answered under it is what document 01 says (`former_answer`, Former.antt, which has no line `N`).
pub old_unchanged : (bytes : Bytes) → answer Old bytes ≡ former_answer Old bytes
old_unchanged = Former.old_unchanged

-- Every number in the report of a sheet that is read, under either rule, has at most five digits, and a register is given wherever
-- a line names one; the faults are as many as five digits can count (`SmallReport`, Small.antt).
pub read_reported : (rule : Rule) (bytes : Bytes) (S : Sheet) → read bytes ≡ loaded S → SmallReport (entries rule S)
read_reported = Written.read_reported
