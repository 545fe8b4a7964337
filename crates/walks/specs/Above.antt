-- A check that passes in a state passes in every state above it, and two states above it hold the same names in listed slots: what
-- is checked once, from a block's state, holds on every walk to the block.
use Rattle.std.specs.Prelude.{◌≡◌, Bool, true, ◌||◌, ℕ}
use Rattle.std.proofs.Math.Path.{refl}
use Rattle.std.proofs.Common.{sym, ◌∙◌, ap, subst}
use mathlib.Core.List.{List, [], ◌∷◌}
use Rattle.std.proofs.Math.Option.{none}
use Rattle.paper.specs.Text.{Name}
use Rattle.paper.specs.Sheet.{Step, spill, reload, move, change, operation, safepoint}
use Rattle.paper.specs.Cells.{Cell, absent, unknown, conflicted, named, house_meet, meet}
use Rattle.paper.specs.Steps.{State, Location, slot, get, location_of, check, effect}
use Rattle.paper.specs.Runs.{meet_states}
use Rattle.paper.specs.Walks.{In, here, there, Passes, SameNames, Alike}
use Rattle.paper.specs.declared.Rule.TheVariants.{House}
use Rattle.walks.specs.Meet.{same_names, names_meet, absent_left}
use Rattle.walks.specs.Effects.{states_comm, get_meet, effect_distributes}
use Rattle.walks.specs.Checks.{Holds, Marked, uses_hold, hold_uses, slots_marked, marked_slots, change_holds, holds_change}
use Rattle.walks.specs.Holding.{absent_named, unknown_named, conflicted_named}
use Rattle.walks.specs.Fits.{Shape, Fits, house_fits}
use Rattle.walks.specs.Honest.{Proper, SameType, proper_keeps, own_mark}

-- a name in a meet stands on both sides
right_named : (x y : Cell) (n : Name) (m : Bool) → meet House x y ≡ named n m → Holds n y
unfolding meet house_meet
right_named absent y n m e = absent_named (sym (absent_left y) ∙ e)
right_named unknown absent n m e = absent_named e
right_named unknown unknown n m e = unknown_named e
right_named unknown conflicted n m e = unknown_named e
right_named unknown (named k l) n m e = unknown_named e
right_named conflicted absent n m e = absent_named e
right_named conflicted unknown n m e = unknown_named e
right_named conflicted conflicted n m e = conflicted_named e
right_named conflicted (named k l) n m e = conflicted_named e
right_named (named j i) absent n m e = absent_named e
right_named (named j i) unknown n m e = unknown_named e
right_named (named j i) conflicted n m e = conflicted_named e
right_named (named j i) (named k l) n m e =
    names_meet House j k i l (λ c. c ≡ named n m → Holds n (named k l)) (λ p f. record { mark = l; is = cc }) (λ p f. conflicted_named f) e

pub meet_right : (s t : State) (l : Location) (n : Name) → Holds n (get (meet_states House s t) l) → Holds n (get t l)
meet_right s t l n h = right_named (get s l) (get t l) n h.mark (sym (get_meet s t l) ∙ h.is)

pub meet_left : (s t : State) (l : Location) (n : Name) → Holds n (get (meet_states House s t) l) → Holds n (get s l)
meet_left s t l n h = meet_right t s l n (subst (λ (u : State). Holds n (get u l)) (states_comm House s t) h)

-- and a name that stands on both sides stands in the meet
pub meet_both : (s t : State) (l : Location) (n : Name) → Holds n (get s l) → Holds n (get t l) → Holds n (get (meet_states House s t) l)
meet_both s t l n h g = record { mark = h.mark || g.mark; is = cc (get_meet s t l, h.is, g.is, same_names House n h.mark g.mark) }

-- s is at or below t
abbrev pub Under : State → State → Type 0
Under s t = meet_states House s t ≡ s

under_holds : (s t : State) → Under s t → (l : Location) (n : Name) → Holds n (get s l) → Holds n (get t l)
under_holds s t b l n h = meet_right s t l n (subst (λ (u : State). Holds n (get u l)) (sym b) h)

module _ (ref : Name → Bool) (sh : Shape) where
  -- where marks are the names' own, a name that is marked in one state is marked in the other
  same_mark : (s t : State) → Fits (Proper ref) sh s → Fits (Proper ref) sh t → (l : Location) (m : Marked (get s l)) → Holds m.name (get t l) → Marked (get t l)
  same_mark s t f g l m h =
      record { name = m.name; is = h.is ∙ ap (named m.name) (own_mark ref sh t g l m.name h.mark h.is ∙ sym (own_mark ref sh s f l m.name true m.is)) }

  check_above : (x : Step) (s t : State) → Under s t → Fits (Proper ref) sh s → Fits (Proper ref) sh t → check x s ≡ none → check x t ≡ none
  unfolding check
  check_above (spill k r) s t b f g e = refl
  check_above (reload r k) s t b f g e = refl
  check_above (move into from) s t b f g e = refl
  check_above (change inst k from to) s t b f g e = holds_change k from (get t (slot k)) (under_holds s t b (slot k) from (change_holds k from (get s (slot k)) e))
  check_above (operation inst uses defs) s t b f g e = hold_uses uses t (λ u i. under_holds s t b (location_of u.reg) u.name (uses_hold uses s e u i))
  check_above (safepoint inst slots) s t b f g e = marked_slots slots t (λ k i. above k (slots_marked slots s e k i))
    where
      above : (k : ℕ) → Marked (get s (slot k)) → Marked (get t (slot k))
      above k m = same_mark s t f g (slot k) m (under_holds s t b (slot k) m.name (record { mark = true; is = m.is }))

  effect_under : (x : Step) (s t : State) → Under s t → Under (effect House ref x s) (effect House ref x t)
  effect_under x s t b = sym (effect_distributes ref x s t) ∙ ap (effect House ref x) b

  pub passes_above : (xs : List Step) (s t : State) → ((inst k : ℕ) (from to : Name) → In (change inst k from to) xs → SameType ref from to)
      → Under s t → Fits (Proper ref) sh s → Fits (Proper ref) sh t → Passes ref xs s → Passes ref xs t
  unfolding Passes
  passes_above [] s t ty b f g p = tt
  passes_above (x ∷ xs) s t ty b f g p = (
    check_above x s t b f g p.0,
    passes_above xs (effect House ref x s) (effect House ref x t) (λ inst k from to i. ty inst k from to (there i)) (effect_under x s t b)
        (house_fits (proper_keeps ref) sh x (λ inst k from to e. ty inst k from to (here (sym e))) s f)
        (house_fits (proper_keeps ref) sh x (λ inst k from to e. ty inst k from to (here (sym e))) t g) p.1,
  )

  same_above : (x : Step) (s t u : State) → Under s t → Under s u → check x s ≡ none → SameNames x t u
  unfolding SameNames check
  same_above (spill k r) s t u b c e = tt
  same_above (reload r k) s t u b c e = tt
  same_above (move into from) s t u b c e = tt
  same_above (change inst k from to) s t u b c e = tt
  same_above (operation inst uses defs) s t u b c e = tt
  same_above (safepoint inst slots) s t u b c e = λ k i n j m l p q.
      let d = slots_marked slots s e k i in
      let f = under_holds s t b (slot k) d.name (record { mark = true; is = d.is }) in
      let g = under_holds s u c (slot k) d.name (record { mark = true; is = d.is }) in
      let f' = f.is in
      let g' = g.is in
      cc

  pub alike_above : (xs : List Step) (s t u : State) → Under s t → Under s u → Passes ref xs s → Alike ref xs t u
  unfolding Passes Alike
  alike_above [] s t u b c p = tt
  alike_above (x ∷ xs) s t u b c p =
      (same_above x s t u b c p.0, alike_above xs (effect House ref x s) (effect House ref x t) (effect House ref x u) (effect_under x s t b) (effect_under x s u c) p.1)
