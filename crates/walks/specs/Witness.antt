-- A check that fails in a meet of states fails in one of them, or two of them hold different names in a slot that a safepoint
-- lists. So steps that pass in all of them, alike, pass in the meet.
use Rattle.std.specs.Prelude.{◌≡◌, ◌⊎◌, Bool, true, List, [], ◌∷◌, ℕ}
use Rattle.std.proofs.Math.Path.{refl}
use Rattle.std.proofs.Common.{sym, ◌∙◌, ap, subst}
use Rattle.std.proofs.Math.Logic.{inl, inr}
use Rattle.std.proofs.Math.Option.{Option, none, some}
use Rattle.paper.specs.Text.{Name, name_same}
use Rattle.paper.specs.Sheet.{Step, spill, reload, move, change, operation, safepoint}
use Rattle.paper.specs.Steps.{State, Location, slot, get, location_of, Fault, check, effect}
use Rattle.paper.specs.Runs.{meet_states}
use Rattle.paper.specs.Walks.{In, here, there, Passes, SameNames, Alike}
use Rattle.paper.specs.declared.Rule.TheVariants.{House}
use Rattle.walks.specs.Choices.{some_not_none, in_nil}
use Rattle.walks.specs.Meet.{same_names}
use Rattle.walks.specs.Effects.{get_meet, effect_distributes}
use Rattle.walks.specs.Checks.{Holds, Marked, uses_hold, hold_uses, slots_marked, marked_slots, change_holds, holds_change}
use Rattle.walks.specs.Above.{meet_left, meet_both}

-- a state made by finitely many meets from the states of a family
pub data MeetOf {I : Type 0} (σ : I → State) : State → Type 0 where
  single : {a : State} (i : I) → σ i ≡ a → MeetOf σ a
  joined : {x y a : State} → MeetOf σ x → MeetOf σ y → meet_states House x y ≡ a → MeetOf σ a

-- the step's check fails in a state of the family, or two of its states bring different names to a slot that it lists
pub data Witness {I : Type 0} (x : Step) (σ : I → State) : Type 0 where
  one_fails : (i : I) (f : Fault) → check x (σ i) ≡ some f → Witness x σ
  two_differ : (i j : I) → ¬ SameNames x (σ i) (σ j) → Witness x σ

-- in a listed slot the two states hold different names
record Differ (slots : List ℕ) (s t : State) : Type 0 where
  place : ℕ
  listed : In place slots
  left : Name
  right : Name
  left_holds : Holds left (get s (slot place))
  right_holds : Holds right (get t (slot place))
  apart : ¬ (left ≡ right)

-- two states whose listed slots are marked: so are those of their meet, or the two differ
compare_slots : (slots : List ℕ) (s t : State) → ((k : ℕ) → In k slots → Marked (get s (slot k))) → ((k : ℕ) → In k slots → Marked (get t (slot k)))
    → ((k : ℕ) → In k slots → Marked (get (meet_states House s t) (slot k))) ⊎ Differ slots s t
compare_slots [] s t f g = inl (λ k i. absurd (in_nil i))
compare_slots (j ∷ slots) s t f g =
    go (name_same (f j (here refl)).name (g j (here refl)).name) (compare_slots slots s t (λ k i. f k (there i)) (λ k i. g k (there i)))
  where
    n : Name
    n = (f j (here refl)).name

    k : Name
    k = (g j (here refl)).name

    go : Dec (n ≡ k) → ((k : ℕ) → In k slots → Marked (get (meet_states House s t) (slot k))) ⊎ Differ slots s t
        → ((k : ℕ) → In k (j ∷ slots) → Marked (get (meet_states House s t) (slot k))) ⊎ Differ (j ∷ slots) s t
    go (no p) rest =
        inr (record {
          place = j;
          listed = here refl;
          left = n;
          right = k;
          left_holds = record { mark = true; is = (f j (here refl)).is };
          right_holds = record { mark = true; is = (g j (here refl)).is };
          apart = p;
        })
    go (yes p) (inr d) =
        inr (record {
          place = d.place;
          listed = there d.listed;
          left = d.left;
          right = d.right;
          left_holds = d.left_holds;
          right_holds = d.right_holds;
          apart = d.apart;
        })
    go (yes p) (inl h) = inl all
      where
        first : Marked (get (meet_states House s t) (slot j))
        first = record { name = n; is = cc (get_meet s t (slot j), (f j (here refl)).is, (g j (here refl)).is, same_names House n true true) }

        all : (k : ℕ) → In k (j ∷ slots) → Marked (get (meet_states House s t) (slot k))
        all k (here e) = subst (λ (i : ℕ). Marked (get (meet_states House s t) (slot i))) (sym e) first
        all k (there i) = h k i

module _ {I : Type 0} (σ : I → State) where
  -- a name in the meet is a name in one of the states
  some_holds : {a : State} (l : Location) (n : Name) → MeetOf σ a → Holds n (get a l) → (i : I) × Holds n (get (σ i) l)
  some_holds l n (single i e) h = (i, subst (λ (s : State). Holds n (get s l)) (sym e) h)
  some_holds l n (joined {x = u} {y = v} p q e) h = some_holds l n p (meet_left u v l n (subst (λ (s : State). Holds n (get s l)) (sym e) h))

  check_joined : (x : Step) {u v : State} → MeetOf σ u → MeetOf σ v → check x u ≡ none → check x v ≡ none → (check x (meet_states House u v) ≡ none) ⊎ Witness x σ
  unfolding check SameNames
  check_joined (spill k r) p q d e = inl refl
  check_joined (reload r k) p q d e = inl refl
  check_joined (move into from) p q d e = inl refl
  check_joined (change inst k from to) {u} {v} p q d e =
      inl (holds_change k from (get (meet_states House u v) (slot k)) (meet_both u v (slot k) from (change_holds k from (get u (slot k)) d) (change_holds k from (get v (slot k)) e)))
  check_joined (operation inst uses defs) {u} {v} p q d e =
      inl (hold_uses uses (meet_states House u v) (λ o i. meet_both u v (location_of o.reg) o.name (uses_hold uses u d o i) (uses_hold uses v e o i)))
  check_joined (safepoint inst slots) {u} {v} p q d e = go (compare_slots slots u v (slots_marked slots u d) (slots_marked slots v e))
    where
      go : ((k : ℕ) → In k slots → Marked (get (meet_states House u v) (slot k))) ⊎ Differ slots u v
          → (check (safepoint inst slots) (meet_states House u v) ≡ none) ⊎ Witness (safepoint inst slots) σ
      go (inl h) = inl (marked_slots slots (meet_states House u v) h)
      go (inr w) =
          let i = some_holds (slot w.place) w.left p w.left_holds in
          let j = some_holds (slot w.place) w.right q w.right_holds in
          inr (two_differ i.0 j.0 (λ same. w.apart (same w.place w.listed w.left w.right i.1.mark j.1.mark i.1.is j.1.is)))

  pub witness : (x : Step) {a : State} → MeetOf σ a → (f : Fault) → check x a ≡ some f → Witness x σ
  witness x (single i e) f h = one_fails i f (ap (check x) e ∙ h)
  witness x {a} (joined {x = u} {y = v} p q e) f h = left (check x u) refl (λ g. witness x p g) (λ g. witness x q g)
    where
      met : (check x (meet_states House u v) ≡ none) ⊎ Witness x σ → Witness x σ
      met (inl d) = absurd (some_not_none d (ap (check x) e ∙ h))
      met (inr w) = w

      right : check x u ≡ none → (o : Option Fault) → check x v ≡ o → ((g : Fault) → check x v ≡ some g → Witness x σ) → Witness x σ
      right d (some g) k rec = rec g k
      right d none k rec = met (check_joined x p q d k)

      left : (o : Option Fault) → check x u ≡ o → ((g : Fault) → check x u ≡ some g → Witness x σ) → ((g : Fault) → check x v ≡ some g → Witness x σ) → Witness x σ
      left (some g) d rec rec' = rec g d
      left none d rec rec' = right d (check x v) refl rec'

pub meet_of_effect : {I : Type 0} (ref : Name → Bool) (x : Step) (σ : I → State) {a : State} → MeetOf σ a → MeetOf (λ i. effect House ref x (σ i)) (effect House ref x a)
meet_of_effect ref x σ (single i e) = single i (ap (effect House ref x) e)
meet_of_effect ref x σ (joined {x = u} {y = v} p q e) =
    joined (meet_of_effect ref x σ p) (meet_of_effect ref x σ q) (sym (effect_distributes ref x u v) ∙ ap (effect House ref x) e)

-- steps that pass in every state of the family, and find the same names in listed slots, pass in the meet
pub passes_meet : {I : Type 0} (ref : Name → Bool) (xs : List Step) (σ : I → State) {a : State} → MeetOf σ a
    → ((i : I) → Passes ref xs (σ i)) → ((i j : I) → Alike ref xs (σ i) (σ j)) → Passes ref xs a
unfolding Passes Alike
passes_meet ref [] σ m p s = tt
passes_meet ref (x ∷ xs) σ {a} m p s =
    (go (check x a) refl, passes_meet ref xs (λ i. effect House ref x (σ i)) (meet_of_effect ref x σ m) (λ i. (p i).1) (λ i j. (s i j).1))
  where
    never : Witness x σ → ⊥
    never (one_fails i f e) = some_not_none (p i).0 e
    never (two_differ i j d) = d (s i j).0

    go : (o : Option Fault) → check x a ≡ o → check x a ≡ none
    go none e = e
    go (some f) e = absurd (never (witness σ x m f e))
