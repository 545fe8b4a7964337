-- What a passed check says of the state: each use's register and the changed slot hold their names, each listed slot holds a marked
-- name. Both ways, so that acceptance can be taken apart and put together.
use Rattle.std.specs.Prelude.{◌≡◌, refl, Bool, true, false, ◌||◌, List, [], ◌∷◌, ℕ, eqb}
use Rattle.std.proofs.Common.{sym, subst, arith, eqb-true}
use Rattle.std.proofs.Math.Option.{Option, none, some}
use Rattle.paper.specs.Text.{Name, name_same}
use Rattle.paper.specs.Sheet.{Operand, listed}
use Rattle.paper.specs.Cells.{Cell, absent, unknown, conflicted, named, pick}
use Rattle.paper.specs.Steps.{State, slot, get, location_of, Fault, first_of, check_use, check_uses, check_change, check_slot, check_slots}
use Rattle.paper.specs.Walks.{In, here, there}
use Rattle.walks.specs.Choices.{pick_yes, some_not_none}

-- the cell holds the name
pub record Holds (n : Name) (c : Cell) : Type 0 where
  pub mark : Bool
  pub is : c ≡ named n mark

-- the cell holds a marked name
pub record Marked (c : Cell) : Type 0 where
  pub name : Name
  pub is : c ≡ named name true

never : {f : Fault} {Q : Type 0} → ◌≡◌ {A = Option Fault} (some f) none → Q
never e = absurd (some_not_none e refl)

first_none : (f g : Option Fault) → first_of f g ≡ none → (f ≡ none) × (g ≡ none)
unfolding first_of
first_none none g e = (refl, e)
first_none (some f) g e = never e

named_holds : (n k : Name) (m : Bool) (f : Fault) → pick (name_same k n) none (some f) ≡ none → Holds n (named k m)
named_holds n k m f = go (name_same k n)
  where
    go : (d : Dec (k ≡ n)) → pick d none (some f) ≡ none → Holds n (named k m)
    go (yes p) e = record { mark = m; is = cc }
    go (no p) e = never e

use_holds : (u : Operand) (c : Cell) → check_use u c ≡ none → Holds u.name c
unfolding check_use
use_holds u absent e = never e
use_holds u unknown e = never e
use_holds u conflicted e = never e
use_holds u (named k m) e = named_holds u.name k m _ e

holds_use : (u : Operand) (c : Cell) → Holds u.name c → check_use u c ≡ none
unfolding check_use
holds_use u c h = rw h.is (pick_yes (name_same u.name u.name) none _ refl)

pub change_holds : (k : ℕ) (n : Name) (c : Cell) → check_change k n c ≡ none → Holds n c
unfolding check_change
change_holds k n absent e = never e
change_holds k n unknown e = never e
change_holds k n conflicted e = never e
change_holds k n (named j m) e = named_holds n j m _ e

pub holds_change : (k : ℕ) (n : Name) (c : Cell) → Holds n c → check_change k n c ≡ none
unfolding check_change
holds_change k n c h = rw h.is (pick_yes (name_same n n) none _ refl)

slot_marked : (k : ℕ) (c : Cell) → check_slot k c ≡ none → Marked c
unfolding check_slot
slot_marked k absent e = never e
slot_marked k unknown e = never e
slot_marked k conflicted e = never e
slot_marked k (named n true) e = record { name = n; is = refl }
slot_marked k (named n false) e = never e

marked_slot : (k : ℕ) (c : Cell) → Marked c → check_slot k c ≡ none
unfolding check_slot
marked_slot k c h = rw h.is

-- the checks of a list pass exactly when each of them does
pub uses_hold : (us : List Operand) (s : State) → check_uses us s ≡ none → (u : Operand) → In u us → Holds u.name (get s (location_of u.reg))
unfolding check_uses
uses_hold [] s e u i = elim i [ ]
uses_hold (v ∷ us) s e u (here p) =
    subst (λ (w : Operand). Holds w.name (get s (location_of w.reg))) (sym p)
    (use_holds v (get s (location_of v.reg)) (first_none (check_use v (get s (location_of v.reg))) (check_uses us s) e).0)
uses_hold (v ∷ us) s e u (there i) = uses_hold us s (first_none (check_use v (get s (location_of v.reg))) (check_uses us s) e).1 u i

pub hold_uses : (us : List Operand) (s : State) → ((u : Operand) → In u us → Holds u.name (get s (location_of u.reg))) → check_uses us s ≡ none
unfolding check_uses first_of
hold_uses [] s h = refl
hold_uses (v ∷ us) s h = rw (holds_use v (get s (location_of v.reg)) (h v (here refl))) (hold_uses us s (λ u i. h u (there i)))

pub slots_marked : (ks : List ℕ) (s : State) → check_slots ks s ≡ none → (k : ℕ) → In k ks → Marked (get s (slot k))
unfolding check_slots
slots_marked [] s e k i = elim i [ ]
slots_marked (j ∷ ks) s e k (here p) =
    subst (λ (w : ℕ). Marked (get s (slot w))) (sym p)
    (slot_marked j (get s (slot j)) (first_none (check_slot j (get s (slot j))) (check_slots ks s) e).0)
slots_marked (j ∷ ks) s e k (there i) = slots_marked ks s (first_none (check_slot j (get s (slot j))) (check_slots ks s) e).1 k i

pub marked_slots : (ks : List ℕ) (s : State) → ((k : ℕ) → In k ks → Marked (get s (slot k))) → check_slots ks s ≡ none
unfolding check_slots first_of
marked_slots [] s h = refl
marked_slots (j ∷ ks) s h = rw (marked_slot j (get s (slot j)) (h j (here refl))) (marked_slots ks s (λ k i. h k (there i)))

pub listed_in : (ks : List ℕ) (i : ℕ) → listed ks i ≡ true → In i ks
unfolding listed
listed_in [] i e = let z : ◌≡◌ {A = ℕ} 0 1 = cc in absurd (omega arith)
listed_in (k ∷ ks) i e = go (eqb k i) refl e (listed_in ks i)
  where
    go : (b : Bool) → eqb k i ≡ b → (b || listed ks i) ≡ true → (listed ks i ≡ true → In i ks) → In i (k ∷ ks)
    go true p f rec = here (sym (eqb-true k i p))
    go false p f rec = there (rec f)
