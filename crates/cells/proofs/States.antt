-- What becomes of a state when its rows are changed one after the other: of one by value, and of one that stands in lent words.
-- Each law is by induction on the counts, so that none knows how many rows there are.
use mathlib.Core.Path.{◌≡◌, refl, sym, ap, ap₂, ◌∙◌}
use mathlib.Core.Bool.{Bool, false, cond, ◌||◌, true≢false}
use mathlib.Core.List.{List, [], ◌∷◌, map}
use Prim.Native.Nat.{ℕ, zero, suc, ◌+◌, ◌≤◌}
use native.Mathlib.Omega.{arith}
use lib.ListN.{length, get_or, set, take, replicate}
use Rattle.lists.specs.Over.{over, over_none}
use Rattle.lists.specs.Region.{region, length_region, same_region}
use Rattle.lists.specs.Maps.{any_step, region_over, copied_over}
use Rattle.lists.specs.Kept.{Kept, kept_same, kept_over, kept_then}
use Rattle.lists.specs.Bits.{set_bits}
use Rattle.lists.specs.Split.{or_left, or_right}
use Rattle.paper.specs.Text.{real}
use Rattle.paper.specs.Sheet.{listed}
use Rattle.paper.specs.Cells.{Cell, named}
use Rattle.paper.specs.Cells as paper
use Rattle.paper.specs.Steps.{State, total, row_of, unfilled, unfilled_rows, entry_rows, everywhere, by_place, safepoint_row}
use Rattle.paper.specs.Runs.{pointwise, meet_states}
use Rattle.paper.specs.declared.Rule.{Rule}
use Rattle.layout.specs.Layout.{row_words, row_widths, state_words}
use Rattle.cells.specs.Packed.{cell_of}
use Rattle.cells.specs.States.{cells_of, state_of, rows_at, stored_state, changes, meet_at, Narrow, RowsFit, MetWith, Stored}
use Rattle.cells.specs.Laws.{state_row, narrow_at, rows_stay}
use Rattle.cells.proofs.Rows.{placed_over, placed_all, none_listed, cells_same, met_over, unchanged, same_cells}

-- a state by value

state_row_set : (counts : List ℕ) (s : List (List ℕ)) (k : ℕ) (row : List ℕ) → state_of counts (set s k row) ≡ set (state_of counts s) k (cells_of (get_or counts k 0) row)
unfolding state_of
state_row_set [] s k row = refl
state_row_set (n ∷ counts) [] k row = refl
state_row_set (n ∷ counts) (x ∷ s) zero row = refl
state_row_set (n ∷ counts) (x ∷ s) (suc k) row = ap (λ (t : State). cells_of n x ∷ t) (state_row_set counts s k row)

-- the state after its first k rows were changed, each by its own function
pub record RowsReached (counts : List ℕ) (k : ℕ) (f : ℕ → List Cell → List Cell) (s₀ s : List (List ℕ)) : Type 0 where
  pub rows : state_of counts s ≡ over 0 k f (state_of counts s₀)

pub no_row_yet : {counts : List ℕ} {f : ℕ → List Cell → List Cell} {s : List (List ℕ)} → RowsReached counts 0 f s s
no_row_yet {counts} {f} {s} = record { rows = sym (over_none 0 f (state_of counts s)) }

-- one row more
pub row_step : {counts : List ℕ} {k : ℕ} {f : ℕ → List Cell → List Cell} {s₀ s : List (List ℕ)} → RowsReached counts k f s₀ s
    → (row : List ℕ) → cells_of (get_or counts k 0) row ≡ f k (cells_of (get_or counts k 0) (get_or s k [])) → RowsReached counts (k + 1) f s₀ (set s k row)
row_step {counts} {k} {f} {s₀} {s} r row e = record {
  rows =
      state_row_set counts s k row
      ∙ any_step k f (state_of counts s₀) [] (state_of counts s) _ r.rows (e ∙ ap (f k) (sym (state_row counts s k)));
}

length_state : (widths counts : List ℕ) (s : List (List ℕ)) → Narrow widths counts → length (state_of counts s) ≤ length widths
unfolding state_of
length_state [] [] s h = omega arith
length_state (width ∷ widths) (n ∷ counts) [] h = omega arith
length_state (width ∷ widths) (n ∷ counts) (x ∷ s) h = let l = length_state widths counts s h.1 in omega arith
length_state [] (n ∷ counts) s h = elim h [ ]
length_state (width ∷ widths) [] s h = elim h [ ]

-- all rows
pub rows_done : {counts : List ℕ} {f : ℕ → List Cell → List Cell} {s₀ s : List (List ℕ)} → RowsFit counts
    → RowsReached counts (length row_widths) f s₀ s → state_of counts s ≡ by_place f (state_of counts s₀)
rows_done {counts} {f} {s₀} fit r = r.rows ∙ placed_over (length row_widths) f (state_of counts s₀) (length_state row_widths counts s₀ fit)

pub every_row : {counts : List ℕ} {f : Cell → Cell} {s₀ s : List (List ℕ)} → RowsFit counts
    → RowsReached counts (length row_widths) (λ k. map f) s₀ s → state_of counts s ≡ everywhere f (state_of counts s₀)
unfolding everywhere
every_row {counts} {f} {s₀} fit r = rows_done fit r ∙ placed_all (map f) (state_of counts s₀)

-- a safepoint lists slots alone
pub registers_collected : (rule : Rule) (slots : List ℕ) (row : List Cell) → by_place (λ i c. cond (listed (set_bits 0) i) c (paper.collected rule c)) row ≡ safepoint_row rule slots 0 row
unfolding safepoint_row
registers_collected rule slots row = none_listed (paper.collected rule) row

pub slots_collected : (rule : Rule) (slots : List ℕ) (row : List Cell) → by_place (λ i c. cond (listed slots i) c (paper.collected rule c)) row ≡ safepoint_row rule slots 1 row
unfolding safepoint_row
slots_collected rule slots row = refl

-- the two rows of a state
pub both_rows : (s : List (List ℕ)) → length s ≡ 2 → s ≡ get_or s 0 [] ∷ get_or s 1 [] ∷ []
both_rows (x ∷ y ∷ []) e = refl
both_rows [] e = absurd (omega arith)
both_rows (x ∷ []) e = absurd (omega arith)
both_rows (x ∷ y ∷ z ∷ s) e = absurd (omega arith)

-- the states at the start
pub within_row : (counts : List ℕ) → RowsFit counts → (k : ℕ) → get_or counts k 0 ≤ row_words
within_row counts fit k = omega (arith, narrow_at row_widths counts fit k, widest k)
  where
    widest : (k : ℕ) → get_or row_widths k 0 ≤ row_words
    widest zero = omega arith
    widest (suc zero) = omega arith
    widest (suc (suc k)) = omega arith

pub unfilled_state : (rule : Rule) (w : ℕ) → cell_of w ≡ unfilled rule → (widths counts : List ℕ) → Narrow widths counts → ((k : ℕ) → get_or counts k 0 ≤ row_words)
    → state_of counts (replicate (length widths) (replicate row_words w)) ≡ unfilled_rows rule counts
unfolding state_of unfilled_rows
unfilled_state rule w e [] [] h b = refl
unfilled_state rule w e (width ∷ widths) (n ∷ counts) h b =
    ap₂ (λ (a : List Cell) (t : State). a ∷ t)
    (cells_same n row_words w (b 0) ∙ ap (replicate n) e)
    (unfilled_state rule w e widths counts h.1 (λ k. b (suc k)))
unfilled_state rule w e [] (n ∷ counts) h b = elim h [ ]
unfilled_state rule w e (width ∷ widths) [] h b = elim h [ ]

pub entered : (rule : Rule) (counts : List ℕ) (s : List (List ℕ)) (row : List ℕ) (n : ℕ) → get_or counts 0 0 ≡ n → state_of counts s ≡ unfilled_rows rule counts
    → cells_of n row ≡ row_of n (λ i. named (real i) false) → state_of counts (set s 0 row) ≡ entry_rows rule counts
unfolding unfilled_rows entry_rows
entered rule counts s row n en es er = state_row_set counts s 0 row ∙ ap₂ (λ (t : State) (a : List Cell). set t 0 a) es (rw en er) ∙ first counts en
  where
    first : (counts : List ℕ) → get_or counts 0 0 ≡ n → set (unfilled_rows rule counts) 0 (row_of n (λ i. named (real i) false)) ≡ entry_rows rule counts
    first [] e = refl
    first (m ∷ counts) e = rw e

-- a state in lent words

-- rows that hold what stands at their places
abbrev pub Loads : List ℕ → ℕ → List ℕ → List (List ℕ) → Type 0
Loads [] at w [] = Unit {0}
Loads [] at w (row ∷ rows) = ⊥
Loads (width ∷ widths) at w [] = ⊥
Loads (width ∷ widths) at w (row ∷ rows) = ((n : ℕ) → n ≤ width → take n row ≡ region at n w) × Loads widths (at + width) w rows

pub rows_loaded : (widths counts : List ℕ) (at : ℕ) (w : List ℕ) (rows : List (List ℕ)) → Narrow widths counts → Loads widths at w rows
    → state_of counts rows ≡ state_of counts (rows_at widths at w)
unfolding state_of rows_at cells_of region
rows_loaded [] [] at w [] h l = refl
rows_loaded (width ∷ widths) (n ∷ counts) at w (row ∷ rows) h l =
    ap₂ (λ (a : List ℕ) (t : State). map cell_of a ∷ t) (l.0 n h.0) (rows_loaded widths counts (at + width) w rows h.1 l.1)
rows_loaded [] [] at w (row ∷ rows) h l = elim l [ ]
rows_loaded [] (n ∷ counts) at w rows h l = elim h [ ]
rows_loaded (width ∷ widths) [] at w rows h l = elim h [ ]
rows_loaded (width ∷ widths) (n ∷ counts) at w [] h l = elim l [ ]

-- rows laid over the words one after the other, each word by f of its row, its place and itself
pub data RowsOver (f : List ℕ → ℕ → ℕ → ℕ) : List ℕ → List ℕ → ℕ → List (List ℕ) → List ℕ → List ℕ → Type 0 where
  no_row : {at : ℕ} {l : List ℕ} → RowsOver f [] [] at [] l l
  row_then : {width n at : ℕ} {widths counts row l l₁ l₂ : List ℕ} {rows : List (List ℕ)} → n ≤ width → n ≤ length row → l₁ ≡ over at n (f row) l
      → RowsOver f widths counts (at + width) rows l₁ l₂ → RowsOver f (width ∷ widths) (n ∷ counts) at (row ∷ rows) l l₂

row_kept : (at n : ℕ) (f : ℕ → ℕ → ℕ) (l l₁ : List ℕ) → l₁ ≡ over at n f l → Kept at n l l₁
row_kept at n f l l₁ e = rw e (kept_over at n f l)

-- and it leaves them alone
rows_stay_behind : (width n at : ℕ) (widths counts l l₁ : List ℕ) → n ≤ width → Kept at n l l₁ → Narrow widths counts → at + width + total widths ≤ length l
    → state_of counts (rows_at widths (at + width) l₁) ≡ state_of counts (rows_at widths (at + width) l)
rows_stay_behind width n at widths counts l l₁ q k₁ h room =
    rows_stay widths counts (at + width) l l₁ k₁.same_length h room (λ i lo hi. k₁.above i (omega arith))

module _ {f : List ℕ → ℕ → ℕ → ℕ} where
  pub rows_kept : {widths counts : List ℕ} {at : ℕ} {rows : List (List ℕ)} {l l₂ : List ℕ} → RowsOver f widths counts at rows l l₂ → Kept at (total widths) l l₂
  unfolding total
  rows_kept (no_row {at} {l}) = kept_same at 0 l
  rows_kept (row_then {width} {n} {at} {widths} {counts} {row} {l} h b e o) =
      kept_then at (width + total widths) (row_kept at n (f row) l _ e) (rows_kept o) (omega arith) (omega arith) (omega arith) (omega arith)

  -- the later rows leave the first one alone
  row_stays_behind : {width n at : ℕ} {widths counts l l₁ l₂ : List ℕ} {rows : List (List ℕ)} → n ≤ width → Kept at n l l₁
      → RowsOver f widths counts (at + width) rows l₁ l₂ → at + width ≤ length l → region at n l₂ ≡ region at n l₁
  row_stays_behind {width} {n} {at} {l = l} {l₁ = l₁} {l₂ = l₂} q k₁ o room =
      same_region at n l₁ l₂ (omega (arith, k₁.same_length)) (rows_kept o).same_length (λ i hi. (rows_kept o).below (at + i) (omega arith))

  -- where f of a row is g of the cells
  module _ (g : List Cell → List Cell → List Cell)
      (means : (n : ℕ) (row l : List ℕ) → length l ≡ n → n ≤ length row → map cell_of (over 0 n (f row) l) ≡ g (map cell_of l) (cells_of n row)) where
    pub rows_mean : {widths counts : List ℕ} {at : ℕ} {rows : List (List ℕ)} {l l₂ : List ℕ} → RowsOver f widths counts at rows l l₂
        → Narrow widths counts → at + total widths ≤ length l
        → state_of counts (rows_at widths at l₂) ≡ pointwise g (state_of counts (rows_at widths at l)) (state_of counts rows)
    unfolding state_of rows_at pointwise total cells_of region
    rows_mean no_row h room = refl
    rows_mean (row_then {width} {n} {at} {widths} {counts} {row} {l} {l₁} {l₂} {rows} q b e o) h room =
        let k₁ : Kept at n l l₁ = row_kept at n (f row) l l₁ e in
        let first : region at n l₂ ≡ over 0 n (f row) (region at n l) = row_stays_behind q k₁ o (omega arith) ∙ ap (region at n) e ∙ region_over at n (f row) l in
        let rest : state_of counts (rows_at widths (at + width) l₁) ≡ state_of counts (rows_at widths (at + width) l) = rows_stay_behind width n at widths counts l l₁ q k₁ h.1 (omega arith) in
        ap₂ (λ (a : List Cell) (t : State). a ∷ t)
        (ap (map cell_of) first ∙ means n row (region at n l) (length_region at n l (omega arith)) b)
        (rows_mean o h.1 (omega (arith, k₁.same_length)) ∙ ap (λ (t : State). pointwise g t (state_of counts rows)) rest)

-- a state written
pub stored : (counts : List ℕ) (at : ℕ) (s : List (List ℕ)) (l l₂ : List ℕ) → RowsFit counts → at + state_words ≤ length l
    → RowsOver (λ row k w. get_or row k 0) row_widths counts at s l l₂ → Stored counts at s l l₂
unfolding stored_state total cells_of state_of rows_at pointwise
stored counts at s l l₂ fit room o = record {
  meaning = rows_mean (λ old new. new) copies o fit room ∙ written o l;
  kept = rows_kept o;
}
  where
    copies : (n : ℕ) (row m : List ℕ) → length m ≡ n → n ≤ length row → map cell_of (over 0 n (λ k w. get_or row k 0) m) ≡ cells_of n row
    copies n row m e h = ap (map cell_of) (copied_over n row m 0 e h)

    written : {widths counts : List ℕ} {at : ℕ} {rows : List (List ℕ)} {l l₂ : List ℕ} → RowsOver (λ row k w. get_or row k 0) widths counts at rows l l₂ → (m : List ℕ)
        → pointwise (λ old new. new) (state_of counts (rows_at widths at m)) (state_of counts rows) ≡ state_of counts rows
    written no_row m = refl
    written (row_then {n = n} {row = row} q b e o) m = ap (λ (t : State). cells_of n row ∷ t) (written o m)

-- does a word change?
unfoldable pub moves : {f : List ℕ → ℕ → ℕ → ℕ} {widths counts : List ℕ} {at : ℕ} {rows : List (List ℕ)} {l l₂ : List ℕ} → RowsOver f widths counts at rows l l₂ → Bool
moves no_row = false
moves {f} (row_then {n = n} {at = at} {row = row} {l = l} q b e o) = changes at n (f row) l || moves o

rows_still : {f : List ℕ → ℕ → ℕ → ℕ} {widths counts : List ℕ} {at : ℕ} {rows : List (List ℕ)} {l l₂ : List ℕ} (o : RowsOver f widths counts at rows l l₂)
    → at + total widths ≤ length l → moves o ≡ false → l₂ ≡ l
unfolding total moves
rows_still no_row room m = refl
rows_still {f} (row_then {n = n} {at = at} {row = row} {l = l} q b e o) room m =
    let same = e ∙ unchanged at n (f row) l (omega arith) (or_left (changes at n (f row) l) _ m) in
    rows_still o (rw same (omega arith)) (or_right (changes at n (f row) l) _ m) ∙ same

rows_alike : (rule : Rule) {widths counts : List ℕ} {at : ℕ} {rows : List (List ℕ)} {l l₂ : List ℕ} (o : RowsOver (meet_at rule) widths counts at rows l l₂)
    → Narrow widths counts → at + total widths ≤ length l → state_of counts (rows_at widths at l₂) ≡ state_of counts (rows_at widths at l) → moves o ≡ false
unfolding state_of rows_at total cells_of region moves
rows_alike rule no_row h room s = refl
rows_alike rule (row_then {width} {n} {at} {widths} {counts} {row} {l} {l₁} {l₂} q b e o) h room s =
    let k₁ : Kept at n l l₁ = row_kept at n (meet_at rule row) l l₁ e in
    let head : map cell_of (region at n l₂) ≡ map cell_of (region at n l) = cc in
    let tail : state_of counts (rows_at widths (at + width) l₂) ≡ state_of counts (rows_at widths (at + width) l) = cc in
    let first : region at n (over at n (meet_at rule row) l) ≡ region at n l₂ = ap (region at n) (sym e) ∙ sym (row_stays_behind q k₁ o (omega arith)) in
    cc (
      same_cells rule row at n l (omega arith) (ap (map cell_of) first ∙ head),
      rows_alike rule o h.1 (omega (arith, k₁.same_length)) (tail ∙ sym (rows_stay_behind width n at widths counts l l₁ q k₁ h.1 (omega arith))),
    )

-- a state met into the one that stands in lent words
pub met_with : {rule : Rule} {counts : List ℕ} {at : ℕ} {s : List (List ℕ)} {l l₂ : List ℕ} {changed : Bool} → RowsFit counts → at + state_words ≤ length l
    → (o : RowsOver (meet_at rule) row_widths counts at s l l₂) → changed ≡ moves o → MetWith rule counts at s l l₂ changed
unfolding stored_state total meet_states
met_with {rule} {counts} {at} {s} {l} {l₂} fit room o c =
    let meaning : stored_state counts at l₂ ≡ meet_states rule (stored_state counts at l) (state_of counts s) = rows_mean (pointwise (paper.meet rule)) (met_over rule) o fit room in
    record {
      meaning = meaning;
      kept = rows_kept o;
      still = λ e. rows_still o room (sym c ∙ e);
      moved = λ t e. true≢false (sym t ∙ c ∙ rows_alike rule o fit room (meaning ∙ e));
    }
