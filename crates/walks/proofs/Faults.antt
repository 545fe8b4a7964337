-- Every house fault is shown by a walk: a fault of kinds 2 to 6 by one walk on which that step's check fails, a fault of kind 7 by one
-- walk or by two that bring different names to a slot that the safepoint lists.
use Rattle.std.proofs.Math.Path.{◌≡◌, refl}
use Rattle.std.proofs.Common.{sym, ◌∙◌, ap, subst, inl, inr, arith}
use Rattle.std.specs.Prelude.{◌⊎◌, Bool, true, ◌||◌, List, [], ◌∷◌, ◌++◌, ℕ, suc, ◌+◌, length}
use Rattle.std.proofs.Math.Logic.{⊎_map}
use Rattle.std.proofs.Math.Bool.{false}
use Rattle.std.proofs.Math.Option.{Option, none, some}
use Rattle.paper.specs.Text.{Name}
use Rattle.paper.specs.Sheet.{Step, spill, reload, move, change, operation, safepoint, Sheet, steps_of, reference_typed}
use Rattle.paper.specs.Cells.{Cell, absent, unknown, conflicted, named}
use Rattle.paper.specs.Steps.{State, Location, slot, get, Fault, first_of, check_slot, check_slots, check, effect, effects}
use Rattle.paper.specs.Runs.{meet_states, flow, analysis}
use Rattle.paper.specs.Report.{Line, inst_of, line_of, faults_from, fault_entry, block_entries, find_errors, kind_of}
use Rattle.paper.specs.Walks.{In, here, there, along, HouseWalk, SameNames}
use Rattle.paper.specs.declared.Rule.TheVariants.{House}
use Rattle.lists.specs.Split.{or_left}
use Rattle.walks.specs.Choices.{some_not_none, in_nil, in_append}
use Rattle.walks.specs.Meet.{same_names}
use Rattle.walks.specs.Effects.{get_meet}
use Rattle.walks.specs.Checks.{slots_marked}
use Rattle.walks.specs.Above.{meet_left, meet_right}
use Rattle.walks.specs.Witness.{MeetOf, single, joined, Witness, one_fails, two_differ, witness, meet_of_effect}
use Rattle.walks.specs.Bounds.{Closed}
use Rattle.walks.proofs.House.{house_good}
use Rattle.walks.specs.Entries.{reached_faults, unreached_faults, in_faults, in_block}
use Rattle.walks.proofs.Acceptance.{meets_of}

-- a listed slot that holds an unmarked name
record Unmarked (slots : List ℕ) (s : State) : Type 0 where
  place : ℕ
  listed : In place slots
  name : Name
  holds : get s (slot place) ≡ named name false

-- a safepoint's fault is an unmarked name, or of kind 7
slots_fault : (slots : List ℕ) (s : State) (f : Fault) → check_slots slots s ≡ some f → Unmarked slots s ⊎ (kind_of f ≡ 7)
unfolding check_slots first_of check_slot kind_of
slots_fault [] s f e = absurd (some_not_none refl e)
slots_fault (k ∷ ks) s f e = go (get s (slot k)) refl e (slots_fault ks s f)
  where
    go : (c : Cell) → get s (slot k) ≡ c → first_of (check_slot k c) (check_slots ks s) ≡ some f → (check_slots ks s ≡ some f → Unmarked ks s ⊎ (kind_of f ≡ 7)) → Unmarked (k ∷ ks) s ⊎ (kind_of f ≡ 7)
    go absent q e rec = inr (cc)
    go unknown q e rec = inr (cc)
    go conflicted q e rec = inr (cc)
    go (named n true) q e rec = ⊎_map (λ u. record { place = u.place; listed = there u.listed; name = u.name; holds = u.holds }) (λ p. p) (rec e)
    go (named n false) q e rec = inl (record { place = k; listed = here refl; name = n; holds = q })

-- a name that is unmarked in a meet is unmarked on both sides
unmarked_left : (s t : State) (l : Location) (n : Name) → get (meet_states House s t) l ≡ named n false → get s l ≡ named n false
unmarked_left s t l n e =
    let h = meet_left s t l n (record { mark = false; is = e }) in
    let g = meet_right s t l n (record { mark = false; is = e }) in
    let m : named n (h.mark || g.mark) ≡ named n false = cc (get_meet s t l, h.is, g.is, same_names House n h.mark g.mark) in
    h.is ∙ ap (named n) (or_left h.mark g.mark (named_mark n m))
  where
    named_mark : (n : Name) {a b : Bool} → named n a ≡ named n b → a ≡ b
    named_mark n p = cc

-- how a fault of the step x is shown by a family of states
pub data Shown {I : Type 0} (x : Step) (σ : I → State) (f : Fault) : Type 0 where
  on_one : (i : I) (g : Fault) → check x (σ i) ≡ some g → Shown x σ f
  on_two : kind_of f ≡ 7 → (i j : I) → ¬ SameNames x (σ i) (σ j) → Shown x σ f

module _ {I : Type 0} (σ : I → State) where
  some_unmarked : {a : State} (l : Location) (n : Name) → MeetOf σ a → get a l ≡ named n false → (i : I) × (get (σ i) l ≡ named n false)
  some_unmarked l n (single i e) h = (i, ap (λ (s : State). get s l) e ∙ h)
  some_unmarked l n (joined {x = u} {y = v} p q e) h = some_unmarked l n p (unmarked_left u v l n (ap (λ (s : State). get s l) e ∙ h))

  -- a fault in a meet: the check fails in one state of the family, or the fault is of kind 7 and two states differ
  shown : (x : Step) {a : State} → MeetOf σ a → (f : Fault) → check x a ≡ some f → Shown x σ f
  unfolding check SameNames
  shown (spill k r) m f e = absurd (some_not_none refl e)
  shown (reload r k) m f e = absurd (some_not_none refl e)
  shown (move into from) m f e = absurd (some_not_none refl e)
  shown (change inst k from to) m f e = go (witness σ (change inst k from to) m f e)
    where
      go : Witness (change inst k from to) σ → Shown (change inst k from to) σ f
      go (one_fails i g h) = on_one i g h
      go (two_differ i j d) = absurd (d tt)
  shown (operation inst uses defs) m f e = go (witness σ (operation inst uses defs) m f e)
    where
      go : Witness (operation inst uses defs) σ → Shown (operation inst uses defs) σ f
      go (one_fails i g h) = on_one i g h
      go (two_differ i j d) = absurd (d tt)
  shown (safepoint inst slots) {a} m f e = sort (slots_fault slots a f e)
    where
      fails : (k : ℕ) (n : Name) → In k slots → (i : I) → get (σ i) (slot k) ≡ named n false → (o : Option Fault) → check_slots slots (σ i) ≡ o → Shown (safepoint inst slots) σ f
      fails k n l i h none q = let m = (slots_marked slots (σ i) q k l).is in let z : ◌≡◌ {A = ℕ} 0 1 = cc in absurd (omega arith)
      fails k n l i h (some g) q = on_one i g q

      seven : kind_of f ≡ 7 → Witness (safepoint inst slots) σ → Shown (safepoint inst slots) σ f
      seven k (one_fails i g h) = on_one i g h
      seven k (two_differ i j d) = on_two k i j d

      sort : Unmarked slots a ⊎ (kind_of f ≡ 7) → Shown (safepoint inst slots) σ f
      sort (inl u) =
          let i = some_unmarked (slot u.place) u.name m u.holds in
          fails u.place u.name u.listed i.0 i.1 (check_slots slots (σ i.0)) refl
      sort (inr k) = seven k (witness σ (safepoint inst slots) m f e)

-- a line of a block's steps from a place on, checked from the state s: its step, and those before it
record Reported (S : Sheet) (b place : ℕ) (xs : List Step) (s : State) (l : Line) : Type 0 where
  block_is : l.block ≡ b
  earlier : List Step
  step : Step
  later : List Step
  splits : xs ≡ earlier ++ (step ∷ later)
  at_place : place + length earlier ≡ l.place
  found : check step (effects House (reference_typed S) earlier s) ≡ some l.fault

reported : (S : Sheet) (b place : ℕ) (xs : List Step) (s : State) (l : Line) → In l (faults_from House S b place xs s) → Reported S b place xs s l
unfolding faults_from line_of effects
reported S b place [] s l i = absurd (in_nil i)
reported S b place (x ∷ xs) s l i = go (check x s) refl (in_append (line_of b place (inst_of x) (check x s)) _ i) (reported S b (suc place) xs s' l)
  where
    s' : State
    s' = effect House (reference_typed S) x s

    first : (o : Option Fault) → check x s ≡ o → In l (line_of b place (inst_of x) o) → Reported S b place (x ∷ xs) s l
    first none e i = absurd (in_nil i)
    first (some f) e (here p) = record { block_is = ap (λ (k : Line). k.block) p; earlier = []; step = x; later = xs; splits = refl; at_place = omega (arith, ap (λ (k : Line). k.place) p); found = e ∙ ap (λ (k : Line). some k.fault) (sym p) }
    first (some f) e (there i) = absurd (in_nil i)

    go : (o : Option Fault) → check x s ≡ o → In l (line_of b place (inst_of x) (check x s)) ⊎ In l (faults_from House S b (suc place) xs s')
        → (In l (faults_from House S b (suc place) xs s') → Reported S b (suc place) xs s' l) → Reported S b place (x ∷ xs) s l
    go o e (inl i) rec = first (check x s) refl i
    go o e (inr i) rec =
        let r = rec i in
        record { block_is = r.block_is; earlier = x ∷ r.earlier; step = r.step; later = r.later; splits = ap (λ (l : List Step). x ∷ l) r.splits; at_place = omega (arith, r.at_place); found = r.found }

meet_of_effects : {I : Type 0} (ref : Name → Bool) (xs : List Step) (σ : I → State) {a : State} → MeetOf σ a → MeetOf (λ i. effects House ref xs (σ i)) (effects House ref xs a)
unfolding effects
meet_of_effects ref [] σ m = m
meet_of_effects ref (x ∷ xs) σ m = meet_of_effects ref xs (λ i. effect House ref x (σ i)) (meet_of_effect ref x σ m)

-- A reported fault: the step that stands at the line's place, with the block's steps before it; and the walks to the block that
-- show the fault there.
pub record Explained (S : Sheet) (l : Line) : Type 0 where
  pub earlier : List Step
  pub step : Step
  pub later : List Step
  pub splits : steps_of S l.block ≡ earlier ++ (step ∷ later)
  pub at_place : length earlier ≡ l.place
  pub by_walks : Shown step (λ (w : HouseWalk S l.block). effects House (reference_typed S) earlier (along (flow House S) w)) l.fault

module _ (S : Sheet) (C : Closed S) (l : Line) where
  -- block b has a state, and the line is of its steps from there
  record From (b : ℕ) : Type 0 where
    state : State
    holds : (analysis House S).table b ≡ some state
    line : Reported S b 0 (steps_of S b) state l

  explain : From l.block → Explained S l
  explain f =
      let r = f.line in
      let b = l.block in
      record {
        earlier = r.earlier;
        step = r.step;
        later = r.later;
        splits = r.splits;
        at_place = omega (arith, r.at_place);
        by_walks =
            shown (λ (w : HouseWalk S b). effects House (reference_typed S) r.earlier (along (flow House S) w)) r.step
            (meet_of_effects (reference_typed S) r.earlier (λ (w : HouseWalk S b). along (flow House S) w)
            (meets_of S C ((house_good S).met b f.state f.holds)))
            l.fault r.found;
      }

  -- an unreached block has no fault
  from : (b : ℕ) → In (fault_entry l) (block_entries House S b) → From b
  from b i = at ((analysis House S).table b) refl
    where
      at : (t : Option State) → (analysis House S).table b ≡ t → From b
      at none e = absurd (in_nil (subst (In l) (unreached_faults House S b e) (in_faults l (block_entries House S b) i)))
      at (some s) e = record {
        state = s;
        holds = e;
        line = reported S b 0 (steps_of S b) s l (subst (In l) (reached_faults House S b s e) (in_faults l (block_entries House S b) i));
      }

  pub explained : In (fault_entry l) (find_errors House S) → Explained S l
  unfolding find_errors
  explained i =
      let c = in_block (block_entries House S) (fault_entry l) S.blocks 0 i in
      let f = from c.block c.holds in
      explain (subst From (sym f.line.block_is) f)
