-- Marks are the names' own: a cell that holds a name has the mark that `T` gives the name. It holds on every walk of a sheet whose
-- changes keep the type (refusal 8), and real names start unmarked, as `T` leaves them. Then a name cannot lose height by its
-- mark alone, and two visits a cell are enough where three were counted.
use Rattle.std.specs.Prelude.{◌≡◌, refl, ◌⊎◌, Bool, true, false, [], ℕ, ◌+◌, ◌*◌, ◌≤◌, ◌<◌}
use Rattle.std.proofs.Common.{sym, ◌∙◌, inl, inr, one-add}
use Rattle.std.proofs.Math.Path.{subst}
use Rattle.std.proofs.Math.Bool.{or_self}
use native.Mathlib.Omega.{arith}
use Rattle.paper.specs.Text.{Name, name_same}
use Rattle.paper.specs.Sheet.{change, Sheet, steps_of, reference_typed}
use Rattle.paper.specs.Cells.{Cell, absent, unknown, conflicted, named, cell_same, pick, house_meet, meet, copied, overwritten, house_changed, collected}
use Rattle.paper.specs.Steps.{State, Location, cell_count, get, unfilled}
use Rattle.paper.specs.Runs.{meet_states, flow, before, begin, run}
use Rattle.paper.specs.Walks.{In, HouseWalk, start, then, along}
use Rattle.paper.specs.declared.Rule.TheVariants.{House}
use Rattle.walks.specs.Heights.{sum, Graded, graded_list}
use Rattle.walks.specs.Meet.{names_meet, meet_keeps}
use Rattle.walks.specs.Flow.{Meets, one, two}
use Rattle.walks.specs.Visits.{Ranked, within_unvisited, within_ends}
use Rattle.walks.specs.Visits as Visits
use Rattle.walks.specs.Holding.{absent_named}
use Rattle.walks.specs.Fits.{Shape, shape, Fits, fits_get, fits_entry, HouseKeeps, house_fits_all}
use Rattle.walks.specs.Bounds.{Closed, sum_shape}

-- refusal 8: no `C` between names that differ in being reference-typed
pub record Typed (S : Sheet) : Type 0 where
  pub changes : (b inst k : ℕ) (from to : Name) → In (change inst k from to) (steps_of S b) → reference_typed S from ≡ reference_typed S to

abbrev pub Proper : (Name → Bool) → Cell → Type 0
Proper ref absent = ⊥
Proper ref unknown = Unit {0}
Proper ref conflicted = Unit {0}
Proper ref (named n m) = m ≡ ref n

abbrev pub SameType : (Name → Bool) → Name → Name → Type 0
SameType ref from to = ref from ≡ ref to

module _ (ref : Name → Bool) where
  pub proper_keeps : HouseKeeps (Proper ref) ref (SameType ref)
  unfolding copied overwritten house_changed collected
  proper_keeps = record {
    on_unknown = tt;
    on_copied = copies;
    on_overwritten = overwrites;
    on_changed = changes;
    on_collected = collects;
    on_defined = λ n. refl;
  }
    where
      copies : (c : Cell) → Proper ref c → Proper ref (copied c)
      copies absent p = elim p [ ]
      copies unknown p = tt
      copies conflicted p = tt
      copies (named k l) p = p

      overwrites : (n : Name) (c : Cell) → Proper ref c → Proper ref (overwritten n c)
      overwrites n absent p = elim p [ ]
      overwrites n unknown p = tt
      overwrites n conflicted p = tt
      overwrites n (named k l) p = elim (name_same k n) as (λ d. Proper ref (pick d conflicted (named k l))) [ yes e ↦ tt | no e ↦ p ]

      changes : (from to : Name) → SameType ref from to → (c : Cell) → Proper ref c → Proper ref (house_changed from to c)
      changes from to t absent p = elim p [ ]
      changes from to t unknown p = tt
      changes from to t conflicted p = tt
      changes from to t (named k l) p = elim (name_same k from) as (λ d. Proper ref (pick d (named to l) conflicted)) [ yes e ↦ cc | no e ↦ tt ]

      collects : (c : Cell) → Proper ref c → Proper ref (collected House c)
      collects absent p = elim p [ ]
      collects unknown p = tt
      collects conflicted p = tt
      collects (named k true) p = tt
      collects (named k false) p = p

  -- a name in a state has its own mark
  pub own_mark : (sh : Shape) (s : State) → Fits (Proper ref) sh s → (l : Location) (n : Name) (m : Bool) → get s l ≡ named n m → m ≡ ref n
  own_mark sh s f l n m e = go (fits_get sh l s f)
    where
      go : (get s l ≡ absent) ⊎ Proper ref (get s l) → m ≡ ref n
      go (inl p) = absent_named (sym p ∙ e)
      go (inr p) = subst (Proper ref) e p

  -- heights where marks are the names' own
  height : Cell → ℕ
  height absent = 0
  height unknown = 0
  height conflicted = 1
  height (named n m) = 2

  height_high : (x : Cell) → height x ≤ 2
  unfolding height
  height_high absent = omega arith
  height_high unknown = omega arith
  height_high conflicted = omega arith
  height_high (named n m) = omega arith

  proper_meet : (x y : Cell) → Proper ref x → Proper ref y → Proper ref (meet House x y)
  proper_meet = meet_keeps (Proper ref) (λ n k m l p q. names_meet House n k m l (Proper ref) (λ e. cc (or_self m)) (λ e. tt))

  proper_falls : (x y : Cell) → Proper ref x → Proper ref y → ¬ (meet House x y ≡ x) → height (meet House x y) < height x
  unfolding meet house_meet height
  proper_falls absent y p q h = elim p [ ]
  proper_falls unknown absent p q h = elim q [ ]
  proper_falls unknown unknown p q h = absurd (h refl)
  proper_falls unknown conflicted p q h = absurd (h refl)
  proper_falls unknown (named k l) p q h = absurd (h refl)
  proper_falls conflicted absent p q h = elim q [ ]
  proper_falls conflicted unknown p q h = omega arith
  proper_falls conflicted conflicted p q h = absurd (h refl)
  proper_falls conflicted (named k l) p q h = absurd (h refl)
  proper_falls (named n m) absent p q h = elim q [ ]
  proper_falls (named n m) unknown p q h = omega arith
  proper_falls (named n m) conflicted p q h = omega arith
  proper_falls (named n m) (named k l) p q h =
      names_meet House n k m l (λ c. ¬ (c ≡ named n m) → height c < height (named n m)) (λ e f. absurd (f (cc (or_self m)))) (λ e f. omega arith) h

  graded : Graded (meet House) (λ (u : Unit {0}). Proper ref) height (λ u. 2)
  graded = record {
    same = cell_same;
    high = λ u x p. height_high x;
    falls = λ u x y. proper_falls x y;
    kept = λ u x y. proper_meet x y;
  }

module _ (S : Sheet) (C : Closed S) (T : Typed S) where
  ranked : Ranked (flow House S) S.blocks (2 * cell_count S)
  unfolding flow meet_states unfilled
  ranked = record {
    Fit = Fits (Proper (reference_typed S)) (shape S);
    rank = sum (sum (height (reference_typed S)));
    high = λ a f. rw (← sum_shape S 2) ((graded_list (graded_list (graded (reference_typed S)))).high (shape S) a f);
    lower = (graded_list (graded_list (graded (reference_typed S)))).falls (shape S);
    fit_meet = (graded_list (graded_list (graded (reference_typed S)))).kept (shape S);
    fit_result = λ b. house_fits_all (proper_keeps (reference_typed S)) (shape S) (steps_of S b) (T.changes b);
    fit_first = fits_entry S House tt (λ i. unfold reference_typed in refl);
    entry_in = C.entry_in;
    succs_in = C.succs_in;
  }

  pub walk_proper : {b : ℕ} (w : HouseWalk S b) → Fits (Proper (reference_typed S)) (shape S) (along (flow House S) w)
  unfolding ranked along
  walk_proper start = ranked.fit_first
  walk_proper (then {b} w follows) = ranked.fit_result b (along (flow House S) w) (walk_proper w)

  pub meets_proper : {b : ℕ} {s : State} → Meets (flow House S) b s → Fits (Proper (reference_typed S)) (shape S) s
  unfolding ranked
  meets_proper (one w e) = subst (Fits (Proper (reference_typed S)) (shape S)) e (walk_proper w)
  meets_proper (two {x} {y} p q e) = subst (Fits (Proper (reference_typed S)) (shape S)) e (ranked.fit_meet x y (meets_proper p) (meets_proper q))

  -- the run of such a sheet ends within blocks x (1 + 2 x (regs + slots)) visits
  pub typed_run_ends : (run (flow House S) (S.blocks * (1 + 2 * cell_count S)) (begin House S)).queue ≡ []
  unfolding ranked begin before flow Visits.start
  typed_run_ends =
      let bound = S.blocks * (1 + 2 * cell_count S) in
      within_ends ranked {bound = bound} bound {k = 0} (begin House S) (rw (one-add (2 * cell_count S)) (within_unvisited ranked)) (omega arith)
