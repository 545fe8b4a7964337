-- Rows and states: the steps of the loops, and what two rows make of a state.
use mathlib.Core.Path.{◌≡◌, refl, sym, ap, ap₂, ◌∙◌}
use mathlib.Core.Bool.{Bool, true, false, cond, ◌&&◌, or-true, or-false}
use mathlib.Core.List.{List, [], ◌∷◌, ◌++◌, map}
use Prim.Native.Nat.{ℕ, zero, suc, ◌+◌, ◌-◌, ◌/◌, ◌%◌, ◌^◌, ◌≤◌, ◌<◌}
use native.Mathlib.Nat.{zero-add, pow-suc, div-div-eq-div-mul, mul_comm, div-one, pow-zero, add-zero, add-suc}
use native.Mathlib.Numerals.{add-one}
use native.Mathlib.Omega.{arith}
use borrow.Author.Tests.{eq-eqb, ne_eqb, eqb-true, eqb-false, not-false, le-ltb}
use lib.Dec.{eqb}
use lib.ListN.{length, get_or, set, take, drop, length-take, length-map, replicate}
use borrow.Rule.Slice.PartMut.{put_mid}
use lib.Seq.{set-get_or}
use Rattle.std.proofs.lemmas.List.{take-take, take-append-le}
use Rattle.lists.specs.Over.{over, over_none, over_more, getD_over_in, getD_over_above}
use Rattle.lists.specs.Region.{region, getD_region}
use Rattle.lists.specs.Maps.{any_step, map_set, map_take, take_over}
use Rattle.lists.specs.Regions.{All}
use Rattle.lists.specs.Bits.{bits_from, set_bits, bits_above, no_bits}
use Rattle.lists.specs.Split.{by_equal, and_left, and_right, or_left, or_right}
use Rattle.paper.specs.Text.{Name, real}
use Rattle.paper.specs.Sheet.{listed}
use Rattle.paper.specs.Cells.{Cell, absent, named}
use Rattle.paper.specs.Cells as paper
use Rattle.paper.specs.Steps.{cell_at, store_at, by_place, row_of, unfilled}
use Rattle.paper.specs.Runs.{pointwise}
use Rattle.paper.specs.declared.Rule.{Rule}
use Rattle.paper.specs.declared.Rule.TheVariants.{Old, House}
use Rattle.cells.specs.Packed.{name_of_word, marked, of_kind, cell_of}
use Rattle.cells.specs.Meeting.{meet_word}
use Rattle.cells.specs.States.{cells_of, state_of, changes, Stays, meet_at}
use Rattle.cells.specs.Laws.{made, cell_in, state_cell, state_store}
use Rattle.cells.proofs.Laws.{met_meaning, met_moves}

-- a loop over the cells of a row, after i of them: what each of those means now
pub record Reached (i : ℕ) (f : ℕ → Cell → Cell) (row₀ row : List ℕ) : Type 0 where
  pub cells : map cell_of row ≡ over 0 i f (map cell_of row₀)

pub none_reached : {f : ℕ → Cell → Cell} {row : List ℕ} → Reached 0 f row row
none_reached {f} {row} = record { cells = sym (over_none 0 f (map cell_of row)) }

-- one cell more
module _ {i : ℕ} {f : ℕ → Cell → Cell} {row₀ row : List ℕ} (r : Reached i f row₀ row) where
  pub cell_step : (v : ℕ) → cell_of v ≡ f i (cell_of (get_or row i 0)) → Reached (i + 1) f row₀ (set row i v)
  cell_step v e = record {
    cells =
        map_set cell_of row i v
        ∙ any_step i f (map cell_of row₀) absent (map cell_of row) (cell_of v) r.cells (e ∙ ap (f i) (sym (cell_in row i)));
  }

pub placed_over : {A : Type 0} (n : ℕ) (f : ℕ → A → A) (l : List A) → length l ≤ n → over 0 n f l ≡ by_place f l
unfolding over by_place
placed_over n f [] h = refl
placed_over zero f (x ∷ l) h = absurd (omega arith)
placed_over (suc n) f (x ∷ l) h = ap (λ t. f 0 x ∷ t) (placed_over n (λ k. f (suc k)) l (omega arith))

pub placed_all : {A : Type 0} (f : A → A) (l : List A) → by_place (λ k. f) l ≡ map f l
unfolding by_place
placed_all f [] = refl
placed_all f (x ∷ l) = ap (λ t. f x ∷ t) (placed_all f l)

-- the loop's end, for as many of its cells as count
pub cells_done : {m : ℕ} {f : ℕ → Cell → Cell} {row₀ row : List ℕ} → Reached m f row₀ row → (n : ℕ) → n ≤ m → cells_of n row ≡ by_place f (cells_of n row₀)
unfolding cells_of
cells_done {m} {f} {row₀} {row} r n h =
    map_take cell_of n row ∙ ap (take n) r.cells ∙ take_over n m f (map cell_of row₀) h
    ∙ placed_over n f (take n (map cell_of row₀)) (simp length-take (omega arith))
    ∙ ap (by_place f) (sym (map_take cell_of n row₀))

-- the bits of a mask, listed
pub unlisted : (l : List ℕ) (n : ℕ) → All (λ b. n < b) l → listed l n ≡ false
unfolding listed All
unlisted [] n a = refl
unlisted (b ∷ l) n a = rw (ne_eqb b n (omega (arith, a.0)), unlisted l n a.1)

listed_from : (k i m j : ℕ) → j < k → listed (bits_from k i m) (i + j) ≡ eqb (m / 2 ^ j % 2) 1
unfolding listed bits_from
listed_from zero i m j h = absurd (omega arith)
listed_from (suc k) i m zero h = rw (pow-zero, div-one, add-zero) (go (eqb (m % 2) 1))
  where
    go : (b : Bool) → listed (cond b (i ∷ bits_from k (i + 1) (m / 2)) (bits_from k (i + 1) (m / 2))) i ≡ b
    go true = rw (eq-eqb i i refl)
    go false = unlisted (bits_from k (i + 1) (m / 2)) i (bits_above k (i + 1) (m / 2) i (omega arith))
listed_from (suc k) i m (suc j) h =
    let half : m / 2 ^ suc j ≡ m / 2 / 2 ^ j = ap (λ (p : ℕ). m / p) (pow-suc 2 j ∙ mul_comm (2 ^ j) 2) ∙ sym (div-div-eq-div-mul m 2 (2 ^ j)) in
    let place : i + suc j ≡ i + 1 + j = omega arith in
    rw (half, place) (go (eqb (m % 2) 1) (bits_from k (i + 1) (m / 2)) (listed_from k (i + 1) (m / 2) j (omega arith)))
  where
    go : (b : Bool) (rest : List ℕ) {x : Bool} → listed rest (i + 1 + j) ≡ x → listed (cond b (i ∷ rest) rest) (i + 1 + j) ≡ x
    go true rest e = rw (ne_eqb i (i + 1 + j) (omega arith)) e
    go false rest e = e

listed_bit : (m j : ℕ) → j < 32 → listed (set_bits m) j ≡ eqb (m / 2 ^ j % 2) 1
unfolding set_bits
listed_bit m j h = rw zero-add at (listed_from 32 0 m j h)

-- a cell whose bit is clear is collected, and one whose bit is set stays
module _ (m j : ℕ) (h : j < 32) {A : Type 0} (x y : A) where
  pub bit_clear : m / 2 ^ j % 2 ≡ 0 → y ≡ cond (listed (set_bits m) j) x y
  bit_clear e = rw (listed_bit m j h, e)

  pub bit_set : (m / 2 ^ j % 2 ≡ 0 → ⊥) → x ≡ cond (listed (set_bits m) j) x y
  bit_set d = let e : m / 2 ^ j % 2 ≡ 1 = omega arith in rw (listed_bit m j h, e)

pub none_listed : (f : Cell → Cell) (l : List Cell) → by_place (λ i c. cond (listed (set_bits 0) i) c (f c)) l ≡ map f l
unfolding listed
none_listed f l = rw no_bits (placed_all f l)

-- one cell copied
pub copied_cell : (s : List (List ℕ)) (row place other from v : ℕ) → cell_of v ≡ paper.copied (cell_of (get_or (get_or s other []) from 0))
    → (counts : List ℕ) → from < get_or counts other 0
    → state_of counts (set s row (set (get_or s row []) place v)) ≡ store_at row place (paper.copied (cell_at (state_of counts s) other from)) (state_of counts s)
copied_cell s row place other from v e counts h =
    state_store counts s row place v
    ∙ ap (λ (c : Cell). store_at row place c (state_of counts s)) (e ∙ ap paper.copied (sym (state_cell counts s other from h)))

-- a row copied from lent words, and one copied to them
pub row_front : (at : ℕ) (l row : List ℕ) → row ≡ take (at + 32 - at) (drop at l) → (n : ℕ) → n ≤ 32 → take n row ≡ region at n l
unfolding region
row_front at l row e n h =
    let k : at + 32 - at ≡ 32 = omega arith in
    rw (e, k) (take-take n 32 (drop at l) h)

stored_over : (at n : ℕ) (l row : List ℕ) → at + n ≤ length l → n ≤ length row → take at l ++ (take n row ++ drop n (drop at l)) ≡ over at n (λ k w. get_or row k 0) l
unfolding over
stored_over zero zero [] row h q = refl
stored_over zero (suc n) [] row h q = absurd (omega arith)
stored_over (suc at) n [] row h q = absurd (omega arith)
stored_over zero zero (x ∷ l) row h q = refl
stored_over zero (suc n) (x ∷ l) [] h q = absurd (omega arith)
stored_over zero (suc n) (x ∷ l) (y ∷ row) h q = ap (λ t. y ∷ t) (stored_over zero n l row (omega arith) (omega arith))
stored_over (suc at) n (x ∷ l) row h q = ap (λ t. x ∷ t) (stored_over at n l row (omega arith) q)

pub row_stored : (at n : ℕ) (l row : List ℕ) {part : List ℕ} → part ≡ take n row → at + n ≤ length l → n ≤ length row
    → put_mid at (at + n - at) l part ≡ over at n (λ k w. get_or row k 0) l
row_stored at n l row e h q =
    let k : at + n - at ≡ n = omega arith in
    rw (k, e) (stored_over at n l row h q)

-- a row met into words, cell by cell
pub met_over : (rule : Rule) (n : ℕ) (row l : List ℕ) → length l ≡ n → n ≤ length row → map cell_of (over 0 n (meet_at rule row) l) ≡ pointwise (paper.meet rule) (map cell_of l) (cells_of n row)
unfolding over pointwise cells_of
met_over rule zero row [] e h = refl
met_over rule zero row (x ∷ l) e h = absurd (omega arith)
met_over rule (suc n) row [] e h = absurd (omega arith)
met_over rule (suc n) [] (x ∷ l) e h = absurd (omega arith)
met_over rule (suc n) (y ∷ row) (x ∷ l) e h = ap₂ (λ a t. a ∷ t) (met_meaning rule x y) (met_over rule n row l (omega arith) (omega arith))

-- a loop's step, and whether it changed its word
module _ (f : ℕ → ℕ → ℕ) (at i : ℕ) (l words : List ℕ) (new : ℕ) (h : at + i < length l) (ew : words ≡ over at i f l) (en : new ≡ f i (get_or words (at + i) 0)) where
  old_is : get_or words (at + i) 0 ≡ get_or l (at + i) 0
  old_is = rw ew (getD_over_above at i f l (at + i) 0 (omega arith))

  new_is : new ≡ f i (get_or l (at + i) 0)
  new_is = en ∙ ap (f i) old_is

  pub word_moved : (new ≡ get_or words (at + i) 0 → ⊥) → true ≡ changes at (i + 1) f l
  unfolding changes
  word_moved d = rw (add-one, ne_eqb _ _ (λ e. d (new_is ∙ e ∙ sym old_is)), or-true)

  pub word_stays : (b : Bool) → b ≡ changes at i f l → new ≡ get_or words (at + i) 0 → b ≡ changes at (i + 1) f l
  unfolding changes
  word_stays b eb e = rw (add-one, eq-eqb _ _ (sym new_is ∙ e ∙ old_is), or-false) eb

-- a word that stays makes no difference
module _ (at n : ℕ) (f : ℕ → ℕ → ℕ) (l : List ℕ) (s : Stays at f l n) where
  over_stays : at + n < length l → over at (suc n) f l ≡ over at n f l
  over_stays h =
      let more : set (over at n f l) (at + n) (f n (get_or l (at + n) 0)) ≡ over at (suc n) f l = rw add-one at (over_more at n f l 0 h) in
      let there : get_or (over at n f l) (at + n) 0 ≡ get_or l (at + n) 0 = getD_over_above at n f l (at + n) 0 (omega arith) in
      sym more ∙ ap (set (over at n f l) (at + n)) (s ∙ sym there) ∙ set-get_or (over at n f l) (at + n) 0

  changes_stays : changes at (suc n) f l ≡ changes at n f l
  unfolding changes
  changes_stays = rw (eq-eqb _ _ s, or-false)

-- nor do those from i up to j
module _ (at : ℕ) (f : ℕ → ℕ → ℕ) (l : List ℕ) (i : ℕ) where
  passed : (d : ℕ) → at + (i + d) ≤ length l → ((k : ℕ) → i ≤ k → k < i + d → Stays at f l k) → (over at (i + d) f l ≡ over at i f l) × (changes at (i + d) f l ≡ changes at i f l)
  passed zero room s = rw add-zero (refl, refl)
  passed (suc d) room s =
      let r = passed d (omega arith) λ k a b. s k a (omega arith) in
      let here : Stays at f l (i + d) = s (i + d) (omega arith) (omega arith) in
      rw add-suc (over_stays at (i + d) f l here (omega arith) ∙ r.0, changes_stays at (i + d) f l here ∙ r.1)

  pub pass : (j : ℕ) → i ≤ j → at + j ≤ length l → ((k : ℕ) → i ≤ k → k < j → Stays at f l k) → (over at j f l ≡ over at i f l) × (changes at j f l ≡ changes at i f l)
  pass j h room s =
      let e : i + (j - i) ≡ j = omega arith in
      rw e at (passed (j - i) (omega arith) λ k a b. s k a (omega arith))

-- a row that stays
pub row_still : (at n : ℕ) (f : ℕ → ℕ → ℕ) (l : List ℕ) → at + n ≤ length l → ((k : ℕ) → k < n → Stays at f l k) → (l ≡ over at n f l) × (false ≡ changes at n f l)
unfolding changes
row_still at n f l h s = let p = pass at f l 0 n (omega arith) h λ k _ q. s k q in (sym (p.0 ∙ over_none at f l), sym p.1)

-- `changes` is exact: where it is false the list stays, and where the words stay it is false
pub unchanged : (at n : ℕ) (f : ℕ → ℕ → ℕ) (l : List ℕ) → at + n ≤ length l → changes at n f l ≡ false → over at n f l ≡ l
unfolding changes
unchanged at zero f l h e = over_none at f l
unchanged at (suc n) f l h e =
    over_stays at n f l (eqb-true _ _ (not-false _ (or_right (changes at n f l) _ e))) (omega arith)
    ∙ unchanged at n f l (omega arith) (or_left (changes at n f l) _ e)

still : (at n : ℕ) (f : ℕ → ℕ → ℕ) (l : List ℕ) → ((k : ℕ) → k < n → Stays at f l k) → changes at n f l ≡ false
unfolding changes
still at zero f l h = refl
still at (suc n) f l h = changes_stays at n f l (h n (omega arith)) ∙ still at n f l (λ k q. h k (omega arith))

-- what a test shows of each k below i, and of i
pub all_step : (P : ℕ → Type 0) (i : ℕ) (x y : Bool) → (x ≡ true → (k : ℕ) → k < i → P k) → (y ≡ true → P i) → (x && y) ≡ true → (k : ℕ) → k < i + 1 → P k
all_step P i x y hx hy e k h = by_equal k i (λ q. rw q (hy (and_right x y e))) λ d. hx (and_left x y e) k (omega arith)

same_word : (rule : Rule) (a b : ℕ) → cell_of (meet_word rule a b) ≡ cell_of a → meet_word rule a b ≡ a
same_word rule a b e = go (eqb (meet_word rule a b) a) refl
  where
    go : (x : Bool) → eqb (meet_word rule a b) a ≡ x → meet_word rule a b ≡ a
    go true h = eqb-true _ _ h
    go false h = absurd (met_moves rule a b (eqb-false _ _ h) e)

pub same_cells : (rule : Rule) (row : List ℕ) (at n : ℕ) (l : List ℕ) → at + n ≤ length l
    → map cell_of (region at n (over at n (meet_at rule row) l)) ≡ map cell_of (region at n l) → changes at n (meet_at rule row) l ≡ false
same_cells rule row at n l h e =
    still at n (meet_at rule row) l λ k q.
    let new : get_or (region at n (over at n (meet_at rule row) l)) k 0 ≡ meet_word rule (get_or l (at + k) 0) (get_or row k 0) =
    getD_region at n (over at n (meet_at rule row) l) k q ∙ getD_over_in at n (meet_at rule row) l k 0 q (omega arith) in
    let old : get_or (region at n l) k 0 ≡ get_or l (at + k) 0 = getD_region at n l k q in
    same_word rule (get_or l (at + k) 0) (get_or row k 0)
    (ap cell_of (sym new)
    ∙ sym (cell_in (region at n (over at n (meet_at rule row) l)) k)
    ∙ ap (λ (t : List Cell). get_or t k absent) e
    ∙ cell_in (region at n l) k
    ∙ ap cell_of old)

-- the states at the start
own_name : (i : ℕ) → i < 32 → name_of_word (3328 + i) ≡ real i
unfolding name_of_word
own_name i h =
    let low : (3328 + i) % 512 ≡ 256 + i = omega arith in
    let past : 256 + i - 256 ≡ i = omega arith in
    rw (low, le-ltb (256 + i) 256 (omega arith), past)

pub own_cell : (i : ℕ) → i < 32 → cell_of (3328 + i) ≡ named (real i) false
unfolding marked
own_cell i h = made (3328 + i) (3328 + i) 0 (omega arith) refl (omega arith) ∙ ap (λ (n : Name). named n false) (own_name i h)

placed_row : (f : ℕ → Cell) (l : List Cell) → by_place (λ k c. f k) l ≡ row_of (length l) f
unfolding by_place row_of
placed_row f [] = refl
placed_row f (x ∷ l) = ap (λ t. f 0 ∷ t) (placed_row (λ k. f (suc k)) l)

pub row_done : {n : ℕ} {f : ℕ → Cell} {row₀ row : List ℕ} → Reached n (λ k c. f k) row₀ row → n ≤ length row₀ → cells_of n row ≡ row_of n f
unfolding cells_of
row_done {n} {f} {row₀} {row} r h =
    let len : length (map cell_of (take n row₀)) ≡ n = simp (length-map, length-take) (omega arith) in
    cells_done r n (omega arith) ∙ placed_row f (map cell_of (take n row₀)) ∙ ap (λ (k : ℕ). row_of k f) len

-- the cells that count stand at the front
pub front_cells : (n : ℕ) (row rest : List ℕ) → n ≤ length row → cells_of n (row ++ rest) ≡ cells_of n row
unfolding cells_of
front_cells n row rest h = ap (map cell_of) (take-append-le n row rest h)

pub cells_same : (n m w : ℕ) → n ≤ m → cells_of n (replicate m w) ≡ replicate n (cell_of w)
unfolding cells_of
cells_same zero m w h = refl
cells_same (suc n) zero w h = absurd (omega arith)
cells_same (suc n) (suc m) w h = ap (λ t. cell_of w ∷ t) (cells_same n m w (omega arith))

pub old_unfilled : cell_of 0 ≡ unfilled Old
unfolding cell_of of_kind unfilled
old_unfilled = refl

pub house_unfilled : cell_of 1024 ≡ unfilled House
unfolding cell_of of_kind unfilled
house_unfilled = refl
