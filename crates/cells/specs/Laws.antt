-- What packed words mean, for those who pack and unpack them.
use Rattle.std.specs.Prelude.{◌≡◌, refl, Bool, true, false, cond, List, [], ◌∷◌, map, ℕ, zero, suc, ◌+◌, ◌-◌, ◌/◌, ◌%◌, ◌≤◌, ◌<◌, ltb, length, get_or, set, take}
use Rattle.std.proofs.Common.{ap, ap₂, ◌∙◌, arith, ltb-false, get_or-take}
use Rattle.std.proofs.Math.ListN.{get_or-map}
use Rattle.std.proofs.Math.Seq.{take-nil}
use Rattle.lists.specs.Maps.{map_set, take_set}
use Rattle.lists.specs.Region.{region, same_region}
use Rattle.paper.specs.Text.{real, virtual, name_same}
use Rattle.paper.specs.Cells.{Cell, absent, unknown, conflicted, named, pick}
use Rattle.paper.specs.Steps.{State, total, cell_at, store_at}
use Rattle.layout.specs.Layout.{row_widths, state_words}
use Rattle.cells.specs.Packed.{name_of_word, marked, of_kind, cell_of}
use Rattle.cells.specs.States.{cells_of, state_of, rows_at, stored_state, Narrow, RowsFit}

pub pick_yes {ℓ} : {P : Type 0} {B : Type ℓ} (d : Dec P) (x y : B) → P → pick d x y ≡ x
pick_yes (yes p) x y h = refl
pick_yes (no n) x y h = absurd (n h)

pub pick_no {ℓ} : {P : Type 0} {B : Type ℓ} (d : Dec P) (x y : B) → (P → ⊥) → pick d x y ≡ y
pick_no (yes p) x y h = absurd (h p)
pick_no (no n) x y h = refl

-- a name is what nine bits say
pub same_name : (a b : ℕ) → a % 512 ≡ b % 512 → name_of_word a ≡ name_of_word b
unfolding name_of_word
same_name a b e = rw e

other_name : (a b : ℕ) → (a % 512 ≡ b % 512 → ⊥) → name_of_word a ≡ name_of_word b → ⊥
unfolding name_of_word
other_name a b d = go (ltb (a % 512) 256) (ltb (b % 512) 256) refl refl
  where
    go : (x y : Bool) → ltb (a % 512) 256 ≡ x → ltb (b % 512) 256 ≡ y
        → cond x (virtual (a % 512)) (real (a % 512 - 256)) ≡ cond y (virtual (b % 512)) (real (b % 512 - 256)) → ⊥
    go true true ex ey e = d (cc)
    go true false ex ey e = let z : ◌≡◌ {A = ℕ} 0 1 = cc in omega arith
    go false true ex ey e = let z : ◌≡◌ {A = ℕ} 0 1 = cc in omega arith
    go false false ex ey e =
        let z : a % 512 - 256 ≡ b % 512 - 256 = cc in
        d (omega (arith, ltb-false (a % 512) 256 ex, ltb-false (b % 512) 256 ey))

pub pick_name {ℓ} : {B : Type ℓ} (a b : ℕ) (x y : B) → a % 512 ≡ b % 512 → pick (name_same (name_of_word a) (name_of_word b)) x y ≡ x
pick_name a b x y e = pick_yes (name_same (name_of_word a) (name_of_word b)) x y (same_name a b e)

pub pick_other {ℓ} : {B : Type ℓ} (a b : ℕ) (x y : B) → (a % 512 ≡ b % 512 → ⊥) → pick (name_same (name_of_word a) (name_of_word b)) x y ≡ y
pick_other a b x y d = pick_no (name_same (name_of_word a) (name_of_word b)) x y (other_name a b d)

-- the cell of a word whose kind is named, with the name of t and the mark of u
pub made : (v t u : ℕ) → v / 1024 % 4 ≡ 3 → v % 512 ≡ t % 512 → v / 512 % 2 ≡ u / 512 % 2 → cell_of v ≡ named (name_of_word t) (marked u)
unfolding cell_of of_kind marked name_of_word
made v t u ek en em = rw (ek, en, em)

pub is_named : (w : ℕ) → w / 1024 % 4 ≡ 3 → cell_of w ≡ named (name_of_word w) (marked w)
is_named w e = made w w w e refl refl

-- where a word is no name, what keeps the other kinds keeps its cell
pub unnamed {ℓ} : {B : Type ℓ} (f g : Cell → B) → f absent ≡ g absent → f unknown ≡ g unknown → f conflicted ≡ g conflicted
    → (w : ℕ) → (w / 1024 % 4 ≡ 3 → ⊥) → f (cell_of w) ≡ g (cell_of w)
unfolding cell_of of_kind
unnamed f g ea eu ec w d = go (w / 1024 % 4) d (omega arith)
  where
    go : (k : ℕ) → (k ≡ 3 → ⊥) → k < 4 → f (of_kind k (name_of_word w) (marked w)) ≡ g (of_kind k (name_of_word w) (marked w))
    go zero d h = ea
    go (suc zero) d h = eu
    go (suc (suc zero)) d h = ec
    go (suc (suc (suc zero))) d h = absurd (d refl)
    go (suc (suc (suc (suc k)))) d h = absurd (omega arith)

-- a cell of a state, read and stored
pub cell_in : (l : List ℕ) (i : ℕ) → get_or (map cell_of l) i absent ≡ cell_of (get_or l i 0)
unfolding cell_of of_kind
cell_in l i = get_or-map cell_of l i 0

pub state_row : (counts : List ℕ) (s : List (List ℕ)) (row : ℕ) → get_or (state_of counts s) row [] ≡ cells_of (get_or counts row 0) (get_or s row [])
unfolding state_of cells_of
state_row [] s row = refl
state_row (n ∷ counts) [] zero = rw take-nil
state_row (n ∷ counts) [] (suc row) = rw take-nil
state_row (n ∷ counts) (x ∷ s) zero = refl
state_row (n ∷ counts) (x ∷ s) (suc row) = state_row counts s row

pub state_cell : (counts : List ℕ) (s : List (List ℕ)) (row i : ℕ) → i < get_or counts row 0 → cell_at (state_of counts s) row i ≡ cell_of (get_or (get_or s row []) i 0)
unfolding cells_of
state_cell counts s row i h =
    ap (λ (r : List Cell). get_or r i absent) (state_row counts s row)
    ∙ cell_in (take (get_or counts row 0) (get_or s row [])) i
    ∙ ap cell_of (get_or-take (get_or counts row 0) (get_or s row []) i 0 h)

pub state_store : (counts : List ℕ) (s : List (List ℕ)) (row i v : ℕ) → state_of counts (set s row (set (get_or s row []) i v)) ≡ store_at row i (cell_of v) (state_of counts s)
unfolding state_of cells_of
state_store [] s row i v = refl
state_store (n ∷ counts) [] row i v = refl
state_store (n ∷ counts) (x ∷ s) zero i v = ap (λ (r : List Cell). r ∷ state_of counts s) (ap (map cell_of) (take_set n x i v) ∙ map_set cell_of (take n x) i v)
state_store (n ∷ counts) (x ∷ s) (suc row) i v = ap (λ (t : State). map cell_of (take n x) ∷ t) (state_store counts s row i v)

-- no count is above its row's width
pub narrow_at : (widths counts : List ℕ) → Narrow widths counts → (k : ℕ) → get_or counts k 0 ≤ get_or widths k 0
narrow_at [] [] h k = omega arith
narrow_at (width ∷ widths) (n ∷ counts) h zero = h.0
narrow_at (width ∷ widths) (n ∷ counts) h (suc k) = narrow_at widths counts h.1 k
narrow_at [] (n ∷ counts) h k = elim h [ ]
narrow_at (width ∷ widths) [] h k = elim h [ ]

-- rows whose words stay, and a state whose words do
pub rows_stay : (widths counts : List ℕ) (at : ℕ) (words words' : List ℕ) → length words' ≡ length words → Narrow widths counts → at + total widths ≤ length words
    → ((i : ℕ) → at ≤ i → i < at + total widths → get_or words' i 0 ≡ get_or words i 0) → state_of counts (rows_at widths at words') ≡ state_of counts (rows_at widths at words)
unfolding state_of rows_at cells_of region total
rows_stay [] [] at words words' e narrow fits same = refl
rows_stay (width ∷ widths) (n ∷ counts) at words words' e narrow fits same =
    ap₂ ◌∷◌
    (ap (map cell_of) (same_region at n words words' (omega arith) e (λ k h. same (at + k) (omega arith) (omega arith))))
    (rows_stay widths counts (at + width) words words' e narrow.1 (omega arith) (λ i h l. same i (omega arith) (omega arith)))
rows_stay [] (n ∷ counts) at words words' e narrow fits same = elim narrow [ ]
rows_stay (width ∷ widths) [] at words words' e narrow fits same = elim narrow [ ]

pub stored_stays : (counts : List ℕ) (at : ℕ) (words words' : List ℕ) → length words' ≡ length words → RowsFit counts → at + state_words ≤ length words
    → ((i : ℕ) → at ≤ i → i < at + state_words → get_or words' i 0 ≡ get_or words i 0) → stored_state counts at words' ≡ stored_state counts at words
unfolding stored_state total
stored_stays counts at words words' e fit room same = rows_stay row_widths counts at words words' e fit room same
