-- Document 01's sentence on house acceptance, both ways, and equal reads. A block that passes from the meet over its walks passes
-- on each walk, since a walk's state is above the meet; and where every walk passes, alike, so does the meet, which is made of
-- finitely many walks.
use Rattle.std.specs.Prelude.{◌≡◌, ◌⊎◌, Bool, false, List, [], ◌∷◌, ◌++◌, ℕ, suc, zero, ◌<◌, get_or, replicate}
use Rattle.std.proofs.Math.Path.{refl}
use Rattle.std.proofs.Common.{sym, ◌∙◌, ap, subst, inl, inr, arith}
use Rattle.std.proofs.Math.Option.{Option, none, some}
use Rattle.paper.specs.Text.{Name, real}
use Rattle.paper.specs.Sheet.{Step, change, Sheet, steps_of, reference_typed}
use Rattle.paper.specs.Cells.{Cell, absent, unknown, named}
use Rattle.paper.specs.Steps.{State, counts_of, at, nowhere, register, cell_at, get, row_of, unfilled, unfilled_rows, entry_rows, entry_state, effect, effects}
use Rattle.paper.specs.Runs.{flow, analysis}
use Rattle.paper.specs.Report.{missing_allocations, faults}
use Rattle.paper.specs.Walks.{In, start, then, along, HouseWalk, trail, Passes, Alike, Acceptance}
use Rattle.paper.specs.Programs.{World, Original, Allocated, EqualReads}
use Rattle.paper.specs.declared.Rule.TheVariants.{House}
use Rattle.walks.specs.Choices.{some_inj, in_append, in_nil}
use Rattle.walks.specs.Flow.{Meets, one, two}
use Rattle.walks.specs.Bounds.{Closed}
use Rattle.walks.proofs.House.{house_good, house_meet_over_walks, house_unreached}
use Rattle.walks.specs.Holding.{absent_named, unknown_named}
use Rattle.walks.specs.Fits.{shape}
use Rattle.walks.specs.Honest.{Typed, SameType, walk_proper, meets_proper}
use Rattle.walks.specs.Above.{Under, passes_above, alike_above}
use Rattle.walks.specs.Witness.{MeetOf, single, joined, passes_meet}
use Rattle.walks.specs.Lines.{BlocksPass, no_faults}
use Rattle.walks.specs.Simulation.{Agrees, same_reads}

-- steps one after the other
effects_append : (ref : Name → Bool) (xs ys : List Step) (s : State) → effects House ref (xs ++ ys) s ≡ effects House ref ys (effects House ref xs s)
unfolding effects
effects_append ref [] ys s = refl
effects_append ref (x ∷ xs) ys s = effects_append ref xs ys (effect House ref x s)

passes_append : (ref : Name → Bool) (xs ys : List Step) (s : State) → Passes ref xs s → Passes ref ys (effects House ref xs s) → Passes ref (xs ++ ys) s
unfolding effects Passes
passes_append ref [] ys s p q = q
passes_append ref (x ∷ xs) ys s p q = (p.0, passes_append ref xs ys (effect House ref x s) p.1 q)

passes_after : (ref : Name → Bool) (xs ys : List Step) (s : State) → Passes ref (xs ++ ys) s → Passes ref ys (effects House ref xs s)
unfolding effects Passes
passes_after ref [] ys s p = p
passes_after ref (x ∷ xs) ys s p = passes_after ref xs ys (effect House ref x s) p.1

-- a walk's state is what its steps make of the entry state
along_trail : (S : Sheet) {b : ℕ} (w : HouseWalk S b) → along (flow House S) w ≡ effects House (reference_typed S) (trail S w) (entry_state House S)
unfolding along trail effects flow
along_trail S start = refl
along_trail S (then {b} w m) =
    ap (effects House (reference_typed S) (steps_of S b)) (along_trail S w) ∙ sym (effects_append (reference_typed S) (trail S w) (steps_of S b) (entry_state House S))

-- at the start a register that holds a name holds its own, and no slot holds one
row_named : (n : ℕ) (f : ℕ → Cell) (i : ℕ) (x : Name) (m : Bool) → get_or (row_of n f) i absent ≡ named x m → (i < n) × (f i ≡ named x m)
unfolding row_of
row_named zero f i x m e = absent_named e
row_named (suc n) f zero x m e = (omega arith, e)
row_named (suc n) f (suc i) x m e = let r = row_named n (λ j. f (suc j)) i x m e in (omega (arith, r.0), r.1)

unknown_row : {Q : Type 0} (n i : ℕ) (x : Name) (m : Bool) → get_or (replicate n unknown) i absent ≡ named x m → Q
unknown_row zero i x m e = absent_named e
unknown_row (suc n) zero x m e = unknown_named e
unknown_row (suc n) (suc i) x m e = unknown_row n i x m e

unfilled_named : {Q : Type 0} (counts : List ℕ) (row i : ℕ) (x : Name) (m : Bool) → cell_at (unfilled_rows House counts) row i ≡ named x m → Q
unfolding unfilled_rows unfilled
unfilled_named [] row i x m e = absent_named e
unfilled_named (n ∷ counts) zero i x m e = unknown_row n i x m e
unfilled_named (n ∷ counts) (suc row) i x m e = unfilled_named counts row i x m e

entry_agrees : (S : Sheet) (W : World) (o : Original W) (a : Allocated W) → ((i : ℕ) → i < S.regs → o (real i) ≡ a (register i)) → Agrees W (entry_state House S) o a
unfolding entry_state entry_rows counts_of get
entry_agrees S W o a equal (at zero i) n m e =
    let r = row_named S.regs (λ j. named (real j) false) i n m e in
    let f = r.1 in
    let g : real i ≡ n = cc in
    sym (equal i r.0) ∙ ap o g
entry_agrees S W o a equal (at (suc row) i) n m e = unfilled_named _ row i n m e
entry_agrees S W o a equal nowhere n m e = absent_named e

module _ (S : Sheet) (C : Closed S) where
  walk_in : {b : ℕ} → HouseWalk S b → b < S.blocks
  unfolding flow
  walk_in start = C.entry_in
  walk_in (then {b} {s} w m) = C.succs_in b s m

  pub meets_of : {b : ℕ} {s : State} → Meets (flow House S) b s → MeetOf (λ (w : HouseWalk S b). along (flow House S) w) s
  unfolding flow
  meets_of (one w e) = single w e
  meets_of (two p q e) = joined (meets_of p) (meets_of q) e

  walks_pass : Acceptance S → BlocksPass S
  walks_pass E b l s e =
      passes_meet (reference_typed S) (steps_of S b) (λ (w : HouseWalk S b). along (flow House S) w) (meets_of ((house_good S).met b s e))
      (λ w.
      subst (Passes (reference_typed S) (steps_of S b)) (sym (along_trail S w))
      (passes_after (reference_typed S) (trail S w) (steps_of S b) (entry_state House S) (E.passes b w)))
      (E.alike b)

  module _ (T : Typed S) (ok : BlocksPass S) where
    -- the state in the table is below the walk's, and the block passes from it
    record Checked {b : ℕ} (w : HouseWalk S b) : Type 0 where
      state : State
      holds : (analysis House S).table b ≡ some state
      under : Under state (along (flow House S) w)
      pass : Passes (reference_typed S) (steps_of S b) state

    checked : {b : ℕ} (w : HouseWalk S b) → Checked w
    unfolding flow
    checked {b} w = at ((analysis House S).table b) refl
      where
        at : (t : Option State) → (analysis House S).table b ≡ t → Checked w
        at none e = absurd (house_unreached S C b e w)
        at (some s) e = record { state = s; holds = e; under = (house_meet_over_walks S C b s e).lower w; pass = ok b (walk_in w) s e }

    block_passes : {b : ℕ} (w : HouseWalk S b) → Passes (reference_typed S) (steps_of S b) (effects House (reference_typed S) (trail S w) (entry_state House S))
    block_passes {b} w =
        let c = checked w in
        subst (Passes (reference_typed S) (steps_of S b)) (along_trail S w)
        (passes_above (reference_typed S) (shape S) (steps_of S b) c.state (along (flow House S) w) (T.changes b) c.under
        (meets_proper S C T ((house_good S).met b c.state c.holds)) (walk_proper S C T w) c.pass)

    trail_passes : {b : ℕ} (w : HouseWalk S b) → Passes (reference_typed S) (trail S w) (entry_state House S)
    unfolding trail Passes
    trail_passes start = tt
    trail_passes (then {b} w m) = passes_append (reference_typed S) (trail S w) (steps_of S b) (entry_state House S) (trail_passes w) (block_passes w)

    pass_walks : missing_allocations S ≡ [] → Acceptance S
    pass_walks none_missing = record {
      allocated = none_missing;
      passes = λ b w. passes_append (reference_typed S) (trail S w) (steps_of S b) (entry_state House S) (trail_passes w) (block_passes w);
      alike = alike;
    }
      where
        alike : (b : ℕ) (w v : HouseWalk S b) → Alike (reference_typed S) (steps_of S b) (along (flow House S) w) (along (flow House S) v)
        alike b w v =
            let c = checked w in
            let d = checked v in
            alike_above (reference_typed S) (shape S) (steps_of S b) c.state (along (flow House S) w) (along (flow House S) v) c.under
            (subst (λ (s : State). Under s (along (flow House S) v)) (some_inj d.holds c.holds) d.under) c.pass

  -- the sentence, from right to left for any such sheet, from left to right where refusal 8 has been made
  pub acceptance_suffices : Acceptance S → faults House S ≡ []
  acceptance_suffices E = (no_faults S).1 (E.allocated, walks_pass E)

  pub accepted_sentence : Typed S → faults House S ≡ [] → Acceptance S
  accepted_sentence T e = let p = (no_faults S).0 e in pass_walks T p.1 p.0

  trail_typed : Typed S → {b : ℕ} (w : HouseWalk S b) (inst k : ℕ) (from to : Name) → In (change inst k from to) (trail S w) → SameType (reference_typed S) from to
  unfolding trail
  trail_typed T start inst k from to i = absurd (in_nil i)
  trail_typed T (then {b} w m) inst k from to i = go (in_append (trail S w) (steps_of S b) i) (λ j. trail_typed T w inst k from to j)
    where
      go : In (change inst k from to) (trail S w) ⊎ In (change inst k from to) (steps_of S b) → (In (change inst k from to) (trail S w) → SameType (reference_typed S) from to)
          → SameType (reference_typed S) from to
      go (inl j) rec = rec j
      go (inr j) rec = T.changes b inst k from to j

  pub equal_reads : Typed S → Acceptance S → EqualReads S
  unfolding flow along
  equal_reads T E W o a equal b w =
      same_reads W (reference_typed S) (shape S) (trail S w ++ steps_of S b) typed 0 (entry_state House S) o a (walk_proper S C T start) (E.passes b w) (entry_agrees S W o a equal)
    where
      typed : (inst k : ℕ) (from to : Name) → In (change inst k from to) (trail S w ++ steps_of S b) → SameType (reference_typed S) from to
      typed inst k from to i = go (in_append (trail S w) (steps_of S b) i)
        where
          go : In (change inst k from to) (trail S w) ⊎ In (change inst k from to) (steps_of S b) → SameType (reference_typed S) from to
          go (inl j) = trail_typed T w inst k from to j
          go (inr j) = T.changes b inst k from to j
