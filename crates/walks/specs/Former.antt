-- "The old rule is unchanged": what document 01 says of every sheet, before document 02's A5, and that the old rule still says it.
-- Under the old rule every block begins with a state, and no visit takes one away, so no block is unreached.
use Rattle.std.specs.Prelude.{◌≡◌, length}
use Rattle.std.proofs.Math.Path.{refl, ap}
use Rattle.std.proofs.Common.{◌∙◌}
use mathlib.Core.List.{List, [], ◌∷◌, ◌++◌, map}
use Rattle.std.proofs.Math.Option.{Option, none, some}
use Prim.Native.Nat.{ℕ, suc, zero}
use Rattle.std.proofs.Math.Decide.{ℕ_discrete}
use Rattle.paper.specs.Text.{Bytes}
use Rattle.paper.specs.Sheet.{Sheet}
use Rattle.paper.specs.Cells.{pick}
use Rattle.paper.specs.Steps.{State}
use Rattle.paper.specs.Runs.{Flow, Run, update, store, push_at, push, spread, visit_at, step_at, step, run, flow, before, begin, visit_bound, analysis}
use Rattle.paper.specs.Refusals.{Reading, loaded, refused, read}
use Rattle.paper.specs.Report.{Line, block_faults, Entry, fault_entry, entries_at, block_entries, by_block, find_errors, first_list, missing_allocations, entries, line_text, entry_text, lines_text, header_text, report_text}
use Rattle.paper.specs.Answer.{Said, accepted, faulty, turned_away, said_by, said_of, said_after, answer}
use Rattle.paper.specs.declared.Rule.{Rule}
use Rattle.paper.specs.declared.Rule.TheVariants.{Old}
use Rattle.walks.specs.Choices.{some_not_none}
use Rattle.walks.specs.Entries.{faults_of_faults}

-- document 01: every block's faults, each checked from the state that it begins with, and a line for each
unfoldable pub former_faults : Rule → Sheet → List Line
former_faults rule S = first_list (missing_allocations S) (by_block (block_faults rule S) 0 S.blocks)

unfoldable pub former_lines : List Line → Bytes
former_lines [] = []
former_lines (l ∷ ls) = line_text l ++ former_lines ls

unfoldable pub former_report : Rule → List Line → Bytes
former_report rule ls = header_text rule (length ls) ++ former_lines ls

unfoldable pub former_said : Rule → List Line → Said
former_said rule [] = accepted (former_report rule [])
former_said rule (l ∷ ls) = faulty (former_report rule (l ∷ ls))

unfoldable pub former_after : Rule → Reading → Said
former_after rule (refused refusal) = turned_away refusal
former_after rule (loaded S) = former_said rule (former_faults rule S)

unfoldable pub former_answer : Rule → Bytes → Said
former_answer rule sheet = former_after rule (read sheet)

-- of any dataflow problem: where every block has a state, every block keeps one
module _ {A : Type 0} (F : Flow A) where
  abbrev Filled : (ℕ → Option A) → Type 0
  Filled table = (b : ℕ) → ¬ (table b ≡ none)

  filled_update : (table : ℕ → Option A) (s : ℕ) (x : A) → Filled table → Filled (update table s x)
  unfolding update
  filled_update table s x h b e = go (ℕ_discrete b s) e
    where
      go : (d : Dec (b ≡ s)) → pick d (some x) (table b) ≡ none → ⊥
      go (yes q) f = some_not_none f refl
      go (no q) f = h b f

  filled_push : (s : ℕ) (x : A) (r : Run A) → Filled r.table → Filled (push F s x r).table
  unfolding push push_at store
  filled_push s x r h = at (r.table s)
    where
      met : (a : A) (d : Dec (F.meet a x ≡ a)) → Filled (pick d r (store F s (F.meet a x) r)).table
      met a (yes e) = h
      met a (no e) = filled_update r.table s (F.meet a x) h

      at : (o : Option A) → Filled (push_at F o s x r).table
      at none = filled_update r.table s x h
      at (some a) = met a (F.same (F.meet a x) a)

  filled_spread : (ss : List ℕ) (x : A) (r : Run A) → Filled r.table → Filled (spread F ss x r).table
  unfolding spread
  filled_spread [] x r h = h
  filled_spread (s ∷ ss) x r h = filled_spread ss x (push F s x r) (filled_push s x r h)

  filled_step : (r : Run A) → Filled r.table → Filled (step F r).table
  unfolding step step_at visit_at
  filled_step r h = at r.queue
    where
      visited : (b : ℕ) (q : List ℕ) (o : Option A) → Filled (visit_at F o b (record { table = r.table; queue = q })).table
      visited b q none = h
      visited b q (some a) = filled_spread (F.succs b) (F.result b a) (record { table = r.table; queue = q }) h

      at : (q : List ℕ) → Filled (step_at F q r).table
      at [] = h
      at (b ∷ q) = visited b q (r.table b)

  filled_run : (visits : ℕ) (r : Run A) → Filled r.table → Filled (run F visits r).table
  unfolding run
  filled_run zero r h = h
  filled_run (suc visits) r h = filled_run visits (step F r) (filled_step r h)

module _ (S : Sheet) where
  old_filled : Filled (flow Old S) (analysis Old S).table
  unfolding analysis begin before
  old_filled =
      filled_run (flow Old S) (visit_bound Old S) (begin Old S)
      (filled_update (flow Old S) (before Old S) S.entry _ (λ b e. some_not_none e refl))

  -- a block's lines are its faults'
  old_block : (b : ℕ) → block_entries Old S b ≡ map fault_entry (block_faults Old S b)
  unfolding block_entries entries_at
  old_block b = at ((analysis Old S).table b) refl
    where
      at : (t : Option State) → (analysis Old S).table b ≡ t → block_entries Old S b ≡ map fault_entry (block_faults Old S b)
      at none e = absurd (old_filled b e)
      at (some s) e = rw e

  old_blocks : (n b : ℕ) → by_block (block_entries Old S) b n ≡ map fault_entry (by_block (block_faults Old S) b n)
  unfolding by_block
  old_blocks zero b = refl
  old_blocks (suc n) b = rw (old_block b, old_blocks n (suc b)) (appended (block_faults Old S b) (by_block (block_faults Old S) (suc b) n))
    where
      appended : (k l : List Line) → map fault_entry k ++ map fault_entry l ≡ map fault_entry (k ++ l)
      appended [] l = refl
      appended (x ∷ k) l = ap (λ (t : List Entry). fault_entry x ∷ t) (appended k l)

  pub old_entries : entries Old S ≡ map fault_entry (former_faults Old S)
  unfolding entries find_errors former_faults first_list
  old_entries = ap (first_list (map fault_entry (missing_allocations S))) (old_blocks S.blocks 0) ∙ first (missing_allocations S) _
    where
      first : (k l : List Line) → first_list (map fault_entry k) (map fault_entry l) ≡ map fault_entry (first_list k l)
      first [] l = refl
      first (x ∷ k) l = refl

-- what is written of faults alone is what it was
former_text : (rule : Rule) (ls : List Line) → report_text rule (map fault_entry ls) ≡ former_report rule ls
unfolding report_text former_report lines_text entry_text former_lines
former_text rule ls = rw (faults_of_faults ls) (ap (λ (t : Bytes). header_text rule (length ls) ++ t) (each ls))
  where
    each : (ls : List Line) → lines_text (map fault_entry ls) ≡ former_lines ls
    each [] = refl
    each (l ∷ ls) = ap (λ (t : Bytes). line_text l ++ t) (each ls)

former_of : (rule : Rule) (ls : List Line) → said_of rule (map fault_entry ls) ≡ former_said rule ls
unfolding said_of said_by former_said
former_of rule ls = rw (faults_of_faults ls, former_text rule ls) (at ls)
  where
    at : (ls : List Line) → said_by ls (former_report rule ls) ≡ former_said rule ls
    at [] = refl
    at (l ∷ ls) = refl

pub old_unchanged : (sheet : Bytes) → answer Old sheet ≡ former_answer Old sheet
unfolding answer said_after former_answer former_after
old_unchanged sheet = at (read sheet)
  where
    at : (o : Reading) → said_after Old o ≡ former_after Old o
    at (loaded S) = ap (said_of Old) (old_entries S) ∙ former_of Old (former_faults Old S)
    at (refused refusal) = refl
