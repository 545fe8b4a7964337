-- The loop over the queue, from the beginning to the whole analysis.
use mathlib.Core.Path.{◌≡◌, refl, sym, ap, subst, ◌∙◌}
use mathlib.Core.Bool.{Bool, true, false}
use mathlib.Core.List.{List, [], ◌∷◌}
use Prim.Native.Nat.{ℕ, suc, ◌+◌, ◌≤◌, ◌<◌}
use native.Mathlib.Numerals.{add-one}
use native.Mathlib.Omega.{arith}
use lib.ListN.{length, get_or, replicate}
use Rattle.lists.specs.Kept.{kept_same, kept_then}
use Rattle.lists.specs.Split.{by_order}
use Rattle.paper.specs.Sheet.{Sheet}
use Rattle.paper.specs.Steps.{State}
use Rattle.paper.specs.Runs.{Run, step, run, flow, begin, visit_bound, EndsAfter, analysis, entered, checked_from}
use Rattle.paper.specs.Report.{missing_allocations}
use Rattle.paper.specs.Limits.{max_blocks, queue_size}
use Rattle.paper.specs.declared.Rule.{Rule}
use Rattle.layout.specs.Layout.{blocks_word}
use Rattle.walks.specs.Running.{run_suc}
use Rattle.walks.specs.Passing.{PassedOn}
use Rattle.walks.proofs.Loop.{Standing, standing_room, standing_step, standing_begin, stopped_early}
use Rattle.loaded.specs.Loaded.{sheet_of, Loaded}
use Rattle.tables.specs.Held.{RunKept, held_state}
use Rattle.tables.specs.Table.{mark_of, Tabled}
use Rattle.tables.specs.Allowed.{loaded_closed}
use Rattle.runs.specs.Stands.{Begins, Running, Continues, Analysed}
use Rattle.runs.specs.Settled.{Settled, Visited}
use Rattle.runs.proofs.LawsSettled.{none_settled}
use Rattle.runs.proofs.LawsVisit.{bound_fits}

-- the queue is not told empty: a block waits
pub some_left : {b : Bool} (queue : List ℕ) → (b ≡ true → length queue ≡ 0) × (length queue ≡ 0 → b ≡ true) → b ≡ false → 0 < length queue
some_left {b} [] h e = let t : b ≡ true = h.1 refl in cc
some_left {b} (x ∷ queue) h e = omega arith

-- the loop over the queue, after so many visits
pub record Going (rule : Rule) (words₀ words queue : List ℕ) (settled : List Bool) (visits : ℕ) : Type 0 where
  pub kept : RunKept words₀ words
  pub running : Running rule (sheet_of words₀) words queue visits (run (flow rule (sheet_of words₀)) visits (begin rule (sheet_of words₀)))
  pub passed : PassedOn (flow rule (sheet_of words₀)) (Settled settled) (run (flow rule (sheet_of words₀)) visits (begin rule (sheet_of words₀))).table
  pub no_sooner : (k : ℕ) → k < visits → ¬ ((run (flow rule (sheet_of words₀)) k (begin rule (sheet_of words₀))).queue ≡ [])

pub going_begins : {rule : Rule} {words words' queue' : List ℕ} → Loaded words → missing_allocations (sheet_of words) ≡ [] → Begins rule words words' queue'
    → Going rule words' words' queue' (replicate max_blocks false) 0
unfolding run
going_begins {rule} {words} {words' = words'} {queue' = queue'} loaded all b = record {
  kept = kept_same _ _ _;
  running = subst (λ (S : Sheet). Running rule S words' queue' 0 (begin rule S)) (sym b.stands.tables.sheet.is) (record {
    closed = loaded_closed loaded;
    allocated = all;
    standing = standing_begin rule (sheet_of words) (loaded_closed loaded);
    stands = b.stands;
  });
  passed = none_settled max_blocks _ _;
  no_sooner = λ k h e. absurd (omega arith);
}

module _ {rule : Rule} {words₀ words queue : List ℕ} {settled : List Bool} {visits : ℕ} (g : Going rule words₀ words queue settled visits) where
  pub going_continues : Continues rule words queue
  going_continues = record { sheet = _; visits = visits; at = _; running = g.running }

  -- as many visits as the bound are never made while a block waits
  pub going_left : 0 < length queue → visits < visit_bound rule (sheet_of words₀)
  going_left h =
      let e : length queue ≡ _ = ap length g.running.stands.waiting in
      omega (arith, standing_room rule (sheet_of words₀) _ g.running.standing, e)

  pub going_small : 0 < length queue → visits < queue_size
  going_small h = omega (arith, going_left h, bound_fits rule g.running.stands.tables.sheet)

  -- a block waits
  some_wait : 0 < length queue → ¬ ((run (flow rule (sheet_of words₀)) visits (begin rule (sheet_of words₀))).queue ≡ [])
  some_wait h e =
      let n : length queue ≡ 0 = ap length (g.running.stands.waiting ∙ e) in
      omega (arith, n)

  pub going_more : {words' queue' : List ℕ} {settled' : List Bool} → 0 < length queue → Visited rule words queue settled words' queue' settled' → Going rule words₀ words' queue' settled' (visits + 1)
  going_more {words'} {queue'} h m = record {
    kept = kept_then _ _ g.kept m.kept (omega arith) (omega arith) (omega arith) (omega arith);
    running = record {
      closed = g.running.closed;
      allocated = g.running.allocated;
      standing = rw (add-one, run_suc (flow rule (sheet_of words₀)) visits (begin rule (sheet_of words₀))) (waits queue h g.running.stands.waiting);
      stands = rw (add-one, run_suc (flow rule (sheet_of words₀)) visits (begin rule (sheet_of words₀))) (m.stands _ _ g.running.stands g.passed);
    };
    passed = rw (add-one, run_suc (flow rule (sheet_of words₀)) visits (begin rule (sheet_of words₀))) (m.passed _ _ g.running.stands g.passed);
    no_sooner = λ k l. by_order k visits (g.no_sooner k) (λ n. let same : visits ≡ k = omega arith in rw same at (some_wait h));
  }
    where
      waits : (l : List ℕ) → 0 < length l → l ≡ (run (flow rule (sheet_of words₀)) visits (begin rule (sheet_of words₀))).queue
          → Standing rule (sheet_of words₀) g.running.closed (suc visits) (step (flow rule (sheet_of words₀)) (run (flow rule (sheet_of words₀)) visits (begin rule (sheet_of words₀))))
      waits [] n e = absurd (omega arith)
      waits (b ∷ l) n e = standing_step rule _ _ g.running.standing b l (sym e)

  -- nothing waits: the analysis is done
  module _ (h : length queue ≡ 0) where
    none_wait : (run (flow rule (sheet_of words₀)) visits (begin rule (sheet_of words₀))).queue ≡ []
    none_wait = sym g.running.stands.waiting ∙ empty queue h
      where
        empty : (l : List ℕ) → length l ≡ 0 → l ≡ []
        empty [] e = refl
        empty (b ∷ l) e = absurd (omega arith)

    pub going_ends : {bytes bytes' : List ℕ} → length bytes' ≡ length bytes → Analysed rule words₀ bytes words bytes'
    unfolding checked_from
    going_ends same = record {
      kept = g.kept;
      states = λ b l. t.states b (rw (blocks_there) l) ∙ ap (λ (r : Run State). entered rule (sheet_of words₀) (r.table b)) done;
      marks = λ b l. t.marks b (rw (blocks_there) l) ∙ ap (λ (r : Run State). mark_of (r.table b)) done;
      same_length = same;
    }
      where
        t : Tabled rule (sheet_of words₀) (sheet_of words₀).blocks words (run (flow rule (sheet_of words₀)) visits (begin rule (sheet_of words₀))).table
        t = g.running.stands.tables.tabled

        blocks_there : (sheet_of words₀).blocks ≡ get_or words₀ blocks_word 0
        blocks_there = unfold sheet_of in refl

        done : run (flow rule (sheet_of words₀)) visits (begin rule (sheet_of words₀)) ≡ analysis rule (sheet_of words₀)
        done = stopped_early rule (sheet_of words₀) g.running.closed visits none_wait

    -- after so many visits, and no fewer
    pub going_ended : EndsAfter rule (sheet_of words₀) visits × (visits ≤ visit_bound rule (sheet_of words₀))
    going_ended = (record { ended = none_wait; no_sooner = g.no_sooner }, omega (arith, standing_room rule (sheet_of words₀) _ g.running.standing))

-- seen from before the beginning
pub analysed_from : {rule : Rule} {words words₀ queue₀ words' bytes bytes' : List ℕ} → Begins rule words words₀ queue₀ → Analysed rule words₀ bytes words' bytes' → Analysed rule words bytes words' bytes'
analysed_from {rule} {words} {words' = words'} b a =
    let e = b.stands.tables.sheet.is in
    let n = b.kept.below blocks_word (omega arith) in
    record {
      kept = kept_then _ _ b.kept a.kept (omega arith) (omega arith) (omega arith) (omega arith);
      states = λ k h. subst (λ (S : Sheet). held_state S words' k ≡ checked_from rule S k) e (a.states k (omega arith));
      marks = λ k h. rw (← e) (a.marks k (omega arith));
      same_length = a.same_length;
    }

pub ended_from : {rule : Rule} {words words₀ queue₀ : List ℕ} {visits : ℕ} → Begins rule words words₀ queue₀
    → EndsAfter rule (sheet_of words₀) visits × (visits ≤ visit_bound rule (sheet_of words₀)) → EndsAfter rule (sheet_of words) visits × (visits ≤ visit_bound rule (sheet_of words))
ended_from {rule} {visits = visits} b e = subst (λ (S : Sheet). EndsAfter rule S visits × (visits ≤ visit_bound rule S)) b.stands.tables.sheet.is e
