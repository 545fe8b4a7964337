-- The visit bounds of both rules: a cell falls at each meet that changes it, and with that both runs are instances of the generic bound.
use Rattle.std.specs.Prelude.{◌≡◌, refl, Bool, true, false, ◌||◌, map, ℕ, ◌*◌, ◌≤◌, ◌<◌, length}
use Rattle.std.proofs.Math.Option.{some}
use Rattle.std.proofs.Common.{one-add, arith}
use Rattle.paper.specs.Text.{Name, real, name_same}
use Rattle.paper.specs.Sheet.{Sheet, steps_of, reference_typed}
use Rattle.paper.specs.Cells.{Cell, absent, unknown, conflicted, named, cell_same, pick, meet_names, old_meet, house_meet, meet, copied, overwritten, house_changed, collected}
use Rattle.paper.specs.Steps.{State, counts_of, cell_count, unfilled, unreached_state, effects}
use Rattle.paper.specs.Runs.{Run, pointwise, meet_states, flow, before, begin, visit_bound}
use Rattle.paper.specs.declared.Rule.{Rule}
use Rattle.paper.specs.declared.Rule.TheVariants.{Old, House}
use Rattle.walks.specs.Heights.{Each, sum, Graded, graded_list}
use Rattle.walks.specs.Meet.{names_meet, meet_keeps}
use Rattle.walks.specs.Fits.{shape, Row, Fits, fits_lengths, fits_entry, fits_unreached, HouseKeeps, house_fits_all, old_fits_all}
use Rattle.walks.specs.Visits.{Ranked, VisitsWithin, start, within_unvisited, within_visited}
use Rattle.walks.specs.Bounds.{height, top, Present, Occurs, Closed, sum_shape}

height_high : (rule : Rule) (x : Cell) → height rule x ≤ top rule
unfolding height top
height_high Old absent = omega arith
height_high Old unknown = omega arith
height_high Old conflicted = omega arith
height_high Old (named n true) = omega arith
height_high Old (named n false) = omega arith
height_high House absent = omega arith
height_high House unknown = omega arith
height_high House conflicted = omega arith
height_high House (named n true) = omega arith
height_high House (named n false) = omega arith

-- the meet of two names is the same under both rules
names_fall : (rule : Rule) (n k : Name) (m l : Bool) → ¬ (meet_names n m k l ≡ named n m) → height rule (meet_names n m k l) < height rule (named n m)
unfolding meet_names height
names_fall rule n k m l = go (name_same n k) m l rule
  where
    go : (d : Dec (n ≡ k)) (m l : Bool) (rule : Rule) → ¬ (pick d (named n (m || l)) conflicted ≡ named n m) → height rule (pick d (named n (m || l)) conflicted) < height rule (named n m)
    go (yes e) true l rule f = absurd (f refl)
    go (yes e) false true Old f = omega arith
    go (yes e) false true House f = omega arith
    go (yes e) false false rule f = absurd (f refl)
    go (no e) true l Old f = omega arith
    go (no e) true l House f = omega arith
    go (no e) false l Old f = omega arith
    go (no e) false l House f = omega arith

house_falls : (x y : Cell) → Present x → Present y → ¬ (house_meet x y ≡ x) → height House (house_meet x y) < height House x
unfolding house_meet height
house_falls absent y a b h = elim a [ ]
house_falls unknown absent a b h = elim b [ ]
house_falls unknown unknown a b h = absurd (h refl)
house_falls unknown conflicted a b h = absurd (h refl)
house_falls unknown (named k l) a b h = absurd (h refl)
house_falls conflicted absent a b h = elim b [ ]
house_falls conflicted unknown a b h = omega arith
house_falls conflicted conflicted a b h = absurd (h refl)
house_falls conflicted (named k l) a b h = absurd (h refl)
house_falls (named n m) absent a b h = elim b [ ]
house_falls (named n true) unknown a b h = omega arith
house_falls (named n false) unknown a b h = omega arith
house_falls (named n true) conflicted a b h = omega arith
house_falls (named n false) conflicted a b h = omega arith
house_falls (named n m) (named k l) a b h = names_fall House n k m l h

old_falls : (x y : Cell) → ¬ (old_meet x y ≡ x) → height Old (old_meet x y) < height Old x
unfolding old_meet height
old_falls absent absent h = absurd (h refl)
old_falls absent unknown h = omega arith
old_falls absent conflicted h = omega arith
old_falls absent (named k true) h = omega arith
old_falls absent (named k false) h = omega arith
old_falls unknown absent h = absurd (h refl)
old_falls unknown unknown h = absurd (h refl)
old_falls unknown conflicted h = omega arith
old_falls unknown (named k true) h = omega arith
old_falls unknown (named k false) h = omega arith
old_falls conflicted absent h = absurd (h refl)
old_falls conflicted unknown h = absurd (h refl)
old_falls conflicted conflicted h = absurd (h refl)
old_falls conflicted (named k l) h = absurd (h refl)
old_falls (named n m) absent h = absurd (h refl)
old_falls (named n m) unknown h = absurd (h refl)
old_falls (named n true) conflicted h = omega arith
old_falls (named n false) conflicted h = omega arith
old_falls (named n m) (named k l) h = names_fall Old n k m l h

present_meet : (x y : Cell) → Present x → Present y → Present (meet House x y)
present_meet = meet_keeps Present (λ n k m l p q. names_meet House n k m l Present (λ e. tt) (λ e. tt))

graded_cells : (rule : Rule) → Graded (meet rule) (λ (u : Unit {0}). Occurs rule) (height rule) (λ u. top rule)
unfolding meet
graded_cells Old = record {
  same = cell_same;
  high = λ u x p. height_high Old x;
  falls = λ u x y p q. old_falls x y;
  kept = λ u x y p q. tt;
}
graded_cells House = record {
  same = cell_same;
  high = λ u x p. height_high House x;
  falls = λ u x y. house_falls x y;
  kept = λ u x y. present_meet x y;
}

graded_states : (rule : Rule) → Graded (pointwise (pointwise (meet rule))) (Each (Row (Occurs rule))) (sum (sum (height rule))) (sum (sum (λ (u : Unit {0}). top rule)))
graded_states rule = graded_list (graded_list (graded_cells rule))

present_keeps : (ref : Name → Bool) → HouseKeeps Present ref (λ from to. Unit {0})
unfolding copied overwritten house_changed collected
present_keeps ref = record {
  on_unknown = tt;
  on_copied = copies;
  on_overwritten = overwrites;
  on_changed = λ from to ok c p. changes from to c p;
  on_collected = collects;
  on_defined = λ n. tt;
}
  where
    copies : (c : Cell) → Present c → Present (copied c)
    copies absent p = tt
    copies unknown p = tt
    copies conflicted p = tt
    copies (named n m) p = tt

    overwrites : (n : Name) (c : Cell) → Present c → Present (overwritten n c)
    overwrites n absent p = elim p [ ]
    overwrites n unknown p = tt
    overwrites n conflicted p = tt
    overwrites n (named k l) p = elim (name_same k n) as (λ d. Present (pick d conflicted (named k l))) [ yes e ↦ tt | no e ↦ tt ]

    changes : (from to : Name) (c : Cell) → Present c → Present (house_changed from to c)
    changes from to absent p = elim p [ ]
    changes from to unknown p = tt
    changes from to conflicted p = tt
    changes from to (named k l) p = elim (name_same k from) as (λ d. Present (pick d (named to l) conflicted)) [ yes e ↦ tt | no e ↦ tt ]

    collects : (c : Cell) → Present c → Present (collected House c)
    collects absent p = elim p [ ]
    collects unknown p = tt
    collects conflicted p = tt
    collects (named k true) p = tt
    collects (named k false) p = tt

result_fits : (rule : Rule) (S : Sheet) (b : ℕ) (s : State) → Fits (Occurs rule) (shape S) s → Fits (Occurs rule) (shape S) (effects rule (reference_typed S) (steps_of S b) s)
result_fits Old S b s f = old_fits_all (reference_typed S) (shape S) (steps_of S b) s f
result_fits House S b s f = house_fits_all (present_keeps (reference_typed S)) (shape S) (steps_of S b) (λ inst k from to i. tt) s f

unfilled_occurs : (rule : Rule) → Occurs rule (unfilled rule)
unfolding unfilled
unfilled_occurs Old = tt
unfilled_occurs House = tt

named_occurs : (rule : Rule) (n : Name) (m : Bool) → Occurs rule (named n m)
named_occurs Old n m = tt
named_occurs House n m = tt

pub ranked : (rule : Rule) (S : Sheet) → Closed S → Ranked (flow rule S) S.blocks (top rule * cell_count S)
unfolding flow meet_states
ranked rule S C = record {
  Fit = Fits (Occurs rule) (shape S);
  rank = sum (sum (height rule));
  high = λ a f. rw (← sum_shape S (top rule)) ((graded_states rule).high (shape S) a f);
  lower = (graded_states rule).falls (shape S);
  fit_meet = (graded_states rule).kept (shape S);
  fit_result = result_fits rule S;
  fit_first = fits_entry S rule (unfilled_occurs rule) (λ i. named_occurs rule (real i) false);
  entry_in = C.entry_in;
  succs_in = C.succs_in;
}

pub within_begin : (rule : Rule) (S : Sheet) (C : Closed S) → VisitsWithin (ranked rule S C) (visit_bound rule S) 0 (begin rule S)
unfolding begin before flow visit_bound ranked top start
within_begin Old S C = within_visited (ranked Old S C) (unreached_state Old S) (fits_unreached S Old tt)
within_begin House S C = rw (one-add (3 * cell_count S)) (within_unvisited (ranked House S C))

pub within_lengths : (rule : Rule) (S : Sheet) (C : Closed S) (bound k : ℕ) (r : Run State) → VisitsWithin (ranked rule S C) bound k r
    → (b : ℕ) (s : State) → r.table b ≡ some s → map length s ≡ counts_of S
unfolding ranked
within_lengths rule S C bound k r g b s e = fits_lengths S (g.fit b s e)
