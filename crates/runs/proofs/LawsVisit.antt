-- A visit: its block is a block with a state, there is room for each successor that comes to wait, and at the end one step of the
-- run is done.
use mathlib.Core.Path.{◌≡◌, refl, sym, ap, subst, ◌∙◌}
use mathlib.Core.Bool.{Bool, true}
use mathlib.Core.List.{List, [], ◌∷◌, ◌++◌}
use mathlib.Core.Option.{some}
use Prim.Native.Nat.{ℕ, ◌+◌, ◌*◌, ◌-◌, ◌≤◌, ◌<◌}
use native.Mathlib.Nat.{mul-le-mul_right}
use native.Mathlib.Omega.{arith}
use lib.ListN.{length, get_or, set}
use Rattle.lists.specs.Region.{region}
use Rattle.lists.specs.Grown.{region_more, region_joined}
use Rattle.lists.specs.Regions.{region_cons, region_none}
use Rattle.lists.specs.Kept.{kept_same, kept_then}
use Rattle.paper.specs.Sheet.{Sheet, succs_of}
use Rattle.paper.specs.Steps.{State, counts_of, total, cell_count}
use Rattle.paper.specs.Runs.{Run, push, spread, step, flow, visit_bound}
use Rattle.paper.specs.Report.{missing_allocations}
use Rattle.paper.specs.Limits.{max_blocks, max_succs, queue_size}
use Rattle.paper.specs.Walks.{In, here}
use Rattle.paper.specs.declared.Rule.{Rule}
use Rattle.paper.specs.declared.Rule.TheVariants.{Old, House}
use Rattle.layout.specs.Layout.{blocks_word, opened_word, succ_base, state_base, all_words, mark_at, row_widths, state_words}
use Rattle.walks.specs.Passing.{PassedOn, Passing, passing_done, spread_covered}
use Rattle.walks.specs.Running.{step_visit, spread_last}
use Rattle.walks.proofs.Loop.{standing_room, standing_below, standing_visited, standing_inside}
use Rattle.cells.specs.States.{state_of, Narrow}
use Rattle.loaded.specs.Loaded.{succ_total, sheet_of, BlockBounds}
use Rattle.loaded.specs.Blocks.{succs_in_words}
use Rattle.tables.specs.Held.{held_state}
use Rattle.tables.specs.Table.{Ready, Holds, mark_of, arrives, ResultOf}
use Rattle.runs.specs.Stands.{Stands, Continues, Moved}
use Rattle.runs.specs.Settled.{Settled, unsettled, Unsettled, Visited}
use Rattle.runs.proofs.LawsSettled.{push_passing, passing_first}
use Rattle.tables.specs.Laws.{marked, blocks_are, few_blocks, rows_fit, ready_stays}

-- inside a visit, whose block has its successors from `from` on: the first i have been served
pub record Serving (rule : Rule) (words₀ queue₀ : List ℕ) (s : List (List ℕ)) (from total : ℕ) (words queue : List ℕ) (i : ℕ) : Type 0 where
  pub past : i ≤ total
  pub moved : Moved rule words₀ queue₀ words queue (λ S. spread (flow rule S) (region from i words₀) (state_of (counts_of S) s))

pub serving_none : {rule : Rule} {words queue : List ℕ} {s : List (List ℕ)} {from total : ℕ} → Serving rule words queue s from total words queue 0
unfolding spread region
serving_none = record { past = omega arith; moved = record { kept = kept_same _ _ _; stands = λ S r h. h } }

pub serving_more : {rule : Rule} {words₀ queue₀ : List ℕ} {s : List (List ℕ)} {from total : ℕ} {words queue : List ℕ} {i next : ℕ} {words' queue' : List ℕ}
    → Serving rule words₀ queue₀ s from total words queue i → i < total → from + total ≤ state_base → from + total ≤ length words₀
    → next ≡ get_or words (from + i) 0
    → Moved rule words queue words' queue' (λ S. push (flow rule S) next (state_of (counts_of S) s))
    → Serving rule words₀ queue₀ s from total words' queue' (i + 1)
serving_more {rule} {words₀} {s = s} {from = from} {i = i} g l low fits e m = record {
  past = omega arith;
  moved = record {
    kept = kept_then _ _ g.moved.kept m.kept (omega arith) (omega arith) (omega arith) (omega arith);
    stands = λ S r h.
        rw (region_more from i words₀ (omega arith), spread_last (flow rule S) (region from i words₀) (get_or words₀ (from + i) 0) (state_of (counts_of S) s) r, ← g.moved.kept.below (from + i) (omega arith), ← e)
        (m.stands S _ (g.moved.stands S r h));
  };
}

-- and the settled blocks have passed their states on, or have the result to pass on to successors that are not served yet
pub record Settling (rule : Rule) (words₀ queue₀ : List ℕ) (s : List (List ℕ)) (from total : ℕ) (settled₀ settled : List Bool) (i : ℕ) : Type 0 where
  pub passing : (S : Sheet) (r : Run State) → Stands rule S words₀ queue₀ r
      → Passing (flow rule S) (Settled settled₀) (state_of (counts_of S) s) (region from total words₀) r.table
      → Passing (flow rule S) (Settled settled) (state_of (counts_of S) s) (region (from + i) (total - i) words₀)
      (spread (flow rule S) (region from i words₀) (state_of (counts_of S) s) r).table

pub settling_none : {rule : Rule} {words queue : List ℕ} {s : List (List ℕ)} {from total : ℕ} {settled : List Bool} → Settling rule words queue s from total settled settled 0
unfolding spread region
settling_none {from = from} {total = total} = record {
  passing = λ S r h p.
      let a : from + 0 ≡ from = omega arith in
      let b : total - 0 ≡ total = omega arith in
      rw (a, b) p;
}

pub settling_more : {rule : Rule} {words₀ queue₀ : List ℕ} {s : List (List ℕ)} {from total : ℕ} {settled₀ settled : List Bool} {words queue : List ℕ} {i next : ℕ} {settled' : List Bool}
    → Serving rule words₀ queue₀ s from total words queue i → Settling rule words₀ queue₀ s from total settled₀ settled i → i < total → from + total ≤ state_base → from + total ≤ length words₀
    → next ≡ get_or words (from + i) 0 → Unsettled rule words queue next s settled settled'
    → Settling rule words₀ queue₀ s from total settled₀ settled' (i + 1)
settling_more {rule} {words₀} {s = s} {from = from} {total = total} {settled = settled} {i = i} {settled' = settled'} g m l low fits e u = record {
  passing = λ S r h p.
      let x = state_of (counts_of S) s in
      let b : ℕ = get_or words₀ (from + i) 0 in
      let at : Run State = spread (flow rule S) (region from i words₀) x r in
      let cut : region (from + i) (total - i) words₀ ≡ b ∷ region (from + i + 1) (total - i - 1) words₀ = region_cons (from + i) (total - i) words₀ (omega arith) (omega arith) in
      let after : from + i + 1 ≡ from + (i + 1) = omega arith in
      let fewer : total - i - 1 ≡ total - (i + 1) = omega arith in
      let q : Passing (flow rule S) (Settled settled) x (b ∷ region (from + (i + 1)) (total - (i + 1)) words₀) at.table = rw (cut, after, fewer) at (m.passing S r h p) in
      let bytes : settled' ≡ unsettled (arrives rule (at.table b) x) b settled = rw (e, g.moved.kept.below (from + i) (omega arith)) at (u.is S at (g.moved.stands S r h)) in
      rw (region_more from i words₀ (omega arith), spread_last (flow rule S) (region from i words₀) b x r, bytes) (push_passing rule S b x _ settled at q);
}

-- no state has more cells than words
few_total : (widths counts : List ℕ) → Narrow widths counts → total counts ≤ total widths
unfolding total
few_total [] [] h = omega arith
few_total (width ∷ widths) (n ∷ counts) h = omega (arith, h.0, few_total widths counts h.1)
few_total [] (n ∷ counts) h = elim h [ ]
few_total (width ∷ widths) [] h = elim h [ ]

few_cells : {S : Sheet} {words : List ℕ} → Holds S words → cell_count S ≤ state_words
unfolding cell_count total
few_cells {S} h = few_total row_widths (counts_of S) (rows_fit h)

-- the visit bound of a loaded sheet fits the queue
pub bound_fits : (rule : Rule) {S : Sheet} {words : List ℕ} → Holds S words → visit_bound rule S ≤ queue_size
unfolding visit_bound
bound_fits Old {S} h =
    let e : S.blocks * (4 * cell_count S) ≤ max_blocks * (4 * cell_count S) = mul-le-mul_right _ (few_blocks h) in
    omega (arith, few_cells h)
bound_fits House {S} h =
    let e : S.blocks * (1 + 3 * cell_count S) ≤ max_blocks * (1 + 3 * cell_count S) = mul-le-mul_right _ (few_blocks h) in
    omega (arith, few_cells h)

-- where the visited block's numbers stand, and how many successors it has
pub record Visiting (words : List ℕ) (b : ℕ) : Type 0 where
  pub small : b < max_blocks
  pub succs : succ_total words b ≤ max_succs
  pub size : all_words ≤ length words

-- the block that waits longest is taken
module _ {rule : Rule} {words queue : List ℕ} {rest : List ℕ} {first : ℕ} (c : Continues rule words queue) (taken : queue ≡ first ∷ rest) where
  first_waits : c.at.queue ≡ first ∷ rest
  first_waits = sym c.running.stands.waiting ∙ taken

  first_in : In first c.at.queue
  first_in = subst (In first) (sym first_waits) (here refl)

  first_here : first < c.sheet.blocks
  first_here = standing_below rule _ _ c.running.standing first first_in

  -- it is a block, and visited
  pub first_below : first < get_or words blocks_word 0
  first_below = rw (← blocks_are c.running.stands.tables.sheet) first_here

  first_marked : get_or words (mark_at first) 0 ≡ 0 → ⊥
  unfolding mark_of
  first_marked e =
      let v = standing_visited rule _ _ c.running.standing first first_in in
      let m : ◌≡◌ {A = ℕ} 0 1 = sym e ∙ c.running.stands.tables.tabled.marks first first_here ∙ ap mark_of v.1 in
      omega arith

  pub still_allocated : missing_allocations (sheet_of words) ≡ []
  still_allocated = ap missing_allocations c.running.stands.tables.sheet.is ∙ c.running.allocated

  module _ (S : Sheet) (r : Run State) (h : Stands rule S words queue r) where
    first_state : r.table first ≡ some (held_state S words first)
    first_state =
        let l : first < S.blocks = rw (blocks_are h.tables.sheet) first_below in
        marked rule S (r.table first) (λ e. first_marked (h.tables.tabled.marks first l ∙ e)) ∙ ap some (sym (h.tables.tabled.states first l))

    rest_stands : Stands rule S words rest (record { table = r.table; queue = rest })
    rest_stands = record { tables = h.tables; waiting = refl }

  first_opened : first < get_or words opened_word 0
  first_opened = rw c.running.stands.tables.sheet.ready.loaded.whole first_below

  -- its successors, as its words have them
  first_succs : (S : Sheet) → Holds S words → succs_of S first ≡ region (succ_base first) (succ_total words first) words
  first_succs S h = ap (λ (s : Sheet). succs_of s first) (sym h.is) ∙ succs_in_words words first first_opened

  first_bounds : BlockBounds words first
  first_bounds = c.running.stands.tables.sheet.ready.loaded.bounds.each_block first first_opened

  pub visiting : Visiting words first
  visiting =
      let L = c.running.stands.tables.sheet.ready.loaded.bounds in
      record { small = omega (arith, first_below, L.blocks); succs = first_bounds.succs; size = L.size }

  -- it is settled: the visit changes nothing but the queue
  pub visited_settled : (settled : List Bool) → Settled settled first → Visited rule words queue settled words rest settled
  visited_settled settled q = record {
    kept = kept_same _ _ _;
    stands = λ S r h k. rw (still S r h k) (rest_stands S r h);
    passed = λ S r h k. rw (still S r h k) k;
  }
    where
      still : (S : Sheet) (r : Run State) → Stands rule S words queue r → PassedOn (flow rule S) (Settled settled) r.table
          → step (flow rule S) r ≡ record { table = r.table; queue = rest }
      still S r h k =
          step_visit (flow rule S) r first rest _ (sym h.waiting ∙ taken) (first_state S r h)
          ∙ spread_covered (flow rule S) _ _ _ (λ s i. k.closed first _ (first_state S r h) q s i)

  module _ {s : List (List ℕ)} {words' queue' : List ℕ} {i : ℕ} (made : ResultOf rule first words s)
      (g : Serving rule words rest s (succ_base first) (succ_total words first) words' queue' i) where
    serving_stands : Stands rule c.sheet words' queue' (spread (flow rule c.sheet) (region (succ_base first) i words) (state_of (counts_of c.sheet) s) (record { table = c.at.table; queue = rest }))
    serving_stands = g.moved.stands c.sheet _ (rest_stands c.sheet c.at c.running.stands)

    -- there is room for one more that waits
    pub serving_room : length queue' < queue_size
    serving_room =
        let S = c.sheet in
        let b = first in
        let succs : succs_of S b ≡ region (succ_base b) i words ++ region (succ_base b + i) (succ_total words b - i) words =
        first_succs S c.running.stands.tables.sheet ∙ ap (λ (n : ℕ). region (succ_base b) n words) (omega (arith, g.past)) ∙ region_joined (succ_base b) i words (succ_total words b - i) in
        let inside = standing_inside rule S _ c.running.standing b rest _ (region (succ_base b) i words) _ first_waits (first_state S c.at c.running.stands) succs in
        let e : length queue' ≡ _ = ap length serving_stands.waiting in
        omega (arith, bound_fits rule c.running.stands.tables.sheet, e, rw (← made.is S c.running.stands.tables.sheet) at (standing_room rule S _ inside))

    pub serving_ready : Ready words'
    serving_ready = ready_stays g.moved.kept c.running.stands.tables.sheet.ready

    -- the next successor is a block
    pub serving_block : i < succ_total words first → get_or words' (succ_base first + i) 0 < get_or words' blocks_word 0
    serving_block l =
        let low : succ_base first + i < state_base = omega (arith, visiting.small, visiting.succs) in
        rw (g.moved.kept.below (succ_base first + i) low, g.moved.kept.below blocks_word (omega arith)) (first_bounds.below i l)

    -- all are served: that was the visit
    pub moved_visit : succ_total words first ≤ i → Moved rule words queue words' queue' (λ S. step (flow rule S))
    unfolding flow
    moved_visit l = record { kept = g.moved.kept; stands = stands }
      where
        stands : (S : Sheet) (r : Run State) → Stands rule S words queue r → Stands rule S words' queue' (step (flow rule S) r)
        stands S r h =
            let all : i ≡ succ_total words first = omega (arith, g.past) in
            rw (step_visit (flow rule S) r first rest _ (sym h.waiting ∙ taken) (first_state S r h), ← made.is S h.tables.sheet, first_succs S h.tables.sheet, ← all)
            (g.moved.stands S _ (rest_stands S r h))

    pub visited_run : {settled settled' : List Bool} → Settling rule words rest s (succ_base first) (succ_total words first) (set settled first true) settled' i
        → succ_total words first ≤ i → Visited rule words queue settled words' queue' settled'
    unfolding flow
    visited_run {settled} {settled'} m l =
        let v = moved_visit l in
        record { kept = v.kept; stands = λ S r h k. v.stands S r h; passed = passed }
      where
        passed : (S : Sheet) (r : Run State) → Stands rule S words queue r → PassedOn (flow rule S) (Settled settled) r.table
            → PassedOn (flow rule S) (Settled settled') (step (flow rule S) r).table
        passed S r h k =
            let b = first in
            let x = state_of (counts_of S) s in
            let left : Run State = record { table = r.table; queue = rest } in
            let all : i ≡ succ_total words b = omega (arith, g.past) in
            let none : succ_total words b - i ≡ 0 = omega arith in
            let begun : Passing (flow rule S) (Settled (set settled b true)) x (region (succ_base b) (succ_total words b) words) r.table =
            rw (made.is S h.tables.sheet, ← first_succs S h.tables.sheet) (passing_first rule S b _ settled r.table (first_state S r h) k) in
            let ended : PassedOn (flow rule S) (Settled settled') (spread (flow rule S) (region (succ_base b) i words) x left).table =
            passing_done (flow rule S) _ x (rw (none, region_none) at (m.passing S left (rest_stands S r h) begun)) in
            rw (step_visit (flow rule S) r b rest _ (sym h.waiting ∙ taken) (first_state S r h), ← made.is S h.tables.sheet, first_succs S h.tables.sheet, ← all) ended
