-- The table's rule, once for the whole table, and what each function of the crate shows of its result.
use mathlib.Core.Path.{◌≡◌, refl, sym, ap, ◌∙◌}
use mathlib.Core.Bool.{Bool, true, false, cond, not, ◌&&◌, ◌||◌}
use mathlib.Core.List.{List, [], ◌∷◌}
use Prim.Native.Nat.{ℕ, zero, suc, ◌+◌, ◌*◌, ◌/◌, ◌%◌, ◌<◌}
use native.Mathlib.Nat.{zero-add, suc-add, add-suc, add-zero, not-suc-le-zero}
use native.Mathlib.Omega.{arith}
use borrow.Author.Tests.{eq-eqb, ne_eqb, eqb-true, eqb-false}
use lib.Dec.{T, eqb, eqb→eq}
use lib.ListN.{length, get_or}
use Rattle.paper.specs.Text.{Name}
use Rattle.paper.specs.Cells as paper
use Rattle.paper.specs.Cells.{Cell, absent, unknown, conflicted, named, meet_names}
use Rattle.paper.specs.declared.Rule.{Rule}
use Rattle.paper.specs.declared.Rule.TheVariants.{Old, House}
use Rattle.cells.specs.Packed.{name_of_word, marked, of_kind, cell_of}
use Rattle.cells.specs.Meeting.{rule_index, meet_table, winner, meet_named, meet_word}
use Rattle.cells.specs.Laws.{pick_name, pick_other, same_name, made, is_named, unnamed}

-- P of each entry of a list and its place, counted from i
abbrev Every : {A : Type 0} → (ℕ → A → Type 0) → ℕ → List A → Type 0
Every P i [] = Unit {0}
Every P i (x ∷ xs) = P i x × Every P (suc i) xs

every_from : {A : Type 0} (P : ℕ → A → Type 0) (l : List A) (i : ℕ) → Every P i l → (k : ℕ) → k < length l → (d : A) → P (i + k) (get_or l k d)
every_from P [] i t k h d = absurd (not-suc-le-zero h)
every_from P (x ∷ xs) i t zero h d = rw add-zero t.0
every_from P (x ∷ xs) i t (suc k) h d = rw (add-suc, ← suc-add) (every_from P xs (suc i) t.1 k (omega arith) d)

every_at : {A : Type 0} (P : ℕ → A → Type 0) (l : List A) → Every P 0 l → (k : ℕ) → k < length l → (d : A) → P k (get_or l k d)
every_at P l t k h d = rw zero-add at (every_from P l 0 t k h d)

-- what an entry gives, of the left cell, the right cell and the meet of two names
abbrev side : ℕ → Cell → Cell → Cell → Cell
side zero x y z = x
side (suc zero) x y z = y
side (suc (suc w)) x y z = z

-- the right side wins only over another kind, and neither wins only where both are names
abbrev fair : ℕ → ℕ → ℕ → Bool
fair zero j k = true
fair (suc zero) j k = not (eqb j k)
fair (suc (suc w)) j k = eqb j 3 && eqb k 3

abbrev rule_of : ℕ → Rule
rule_of zero = Old
rule_of (suc r) = House

module _ (n k : Name) (m l : Bool) where
  abbrev Entry : ℕ → ℕ → ℕ → ℕ → Type 0
  Entry r i j w =
      (paper.meet (rule_of r) (of_kind i n m) (of_kind j k l) ≡ side w (of_kind i n m) (of_kind j k l) (meet_names n m k l)) × T (fair w i j)

  abbrev Row : ℕ → ℕ → List ℕ → Type 0
  Row r i row = (length row ≡ 4) × Every (Entry r i) 0 row

  abbrev Rows : ℕ → List (List ℕ) → Type 0
  Rows r rows = (length rows ≡ 4) × Every (Row r) 0 rows

  whole : Every Rows 0 meet_table
  unfolding meet_table of_kind paper.meet paper.old_meet paper.house_meet
  whole = search tt

  entry : (r i j : ℕ) → r < length meet_table → i < 4 → j < 4 → Entry r i j (winner r i j)
  entry r i j hr hi hj =
      let rows : Rows r (get_or meet_table r []) = every_at Rows meet_table whole r hr [] in
      let row : Row r i (get_or (get_or meet_table r []) i []) = every_at (Row r) (get_or meet_table r []) rows.1 i (omega arith) [] in
      every_at (Entry r i) (get_or (get_or meet_table r []) i []) row.1 j (omega arith) 0

pub index_below : (rule : Rule) (r : ℕ) → r ≡ rule_index rule → r < 2
index_below Old r e = omega arith
index_below House r e = omega arith

two : (rule : Rule) → rule_index rule < length meet_table
unfolding meet_table
two rule = index_below rule _ refl

rule_back : (rule : Rule) → rule_of (rule_index rule) ≡ rule
rule_back Old = refl
rule_back House = refl

kind_of : Cell → ℕ
kind_of absent = 0
kind_of unknown = 1
kind_of conflicted = 2
kind_of (named n m) = 3

kind_is : (w : ℕ) → kind_of (cell_of w) ≡ w / 1024 % 4
unfolding kind_of cell_of of_kind
kind_is w = go (w / 1024 % 4) (omega arith)
  where
    go : (k : ℕ) → k < 4 → kind_of (of_kind k (name_of_word w) (marked w)) ≡ k
    go zero h = refl
    go (suc zero) h = refl
    go (suc (suc zero)) h = refl
    go (suc (suc (suc zero))) h = refl
    go (suc (suc (suc (suc k)))) h = absurd (omega arith)

conflict : cell_of 2048 ≡ conflicted
unfolding cell_of of_kind
conflict = refl

-- the word that a winner gives
by_winner : ℕ → ℕ → ℕ → ℕ
by_winner w a b = cond (eqb w 0) a (cond (eqb w 1) b (meet_named a b))

both_true : (x y : Bool) → T (x && y) → T x × T y
both_true true y t = (tt, t)
both_true false y t = absurd t

not_true : (x : Bool) → T (not x) → x ≡ true → ⊥
not_true true t e = t
not_true false t e = let z : ◌≡◌ {A = ℕ} 0 1 = cc in omega arith

-- an entry from 2 on: both are names
kinds : (w j k : ℕ) → T (fair (suc (suc w)) j k) → (j ≡ 3) × (k ≡ 3)
kinds w j k t = let p : T (eqb j 3) × T (eqb k 3) = both_true (eqb j 3) (eqb k 3) t in (eqb→eq j 3 p.0, eqb→eq k 3 p.1)

module _ (rule : Rule) (a b : ℕ) where
  abbrev won : ℕ
  won = winner (rule_index rule) (a / 1024 % 4) (b / 1024 % 4)

  abbrev names : Cell
  names = meet_names (name_of_word a) (marked a) (name_of_word b) (marked b)

  abbrev Known : ℕ → Type 0
  Known w = (paper.meet rule (cell_of a) (cell_of b) ≡ side w (cell_of a) (cell_of b) names) × T (fair w (a / 1024 % 4) (b / 1024 % 4))

  known : Known won
  unfolding cell_of
  known =
      rw rule_back at
      (entry (name_of_word a) (name_of_word b) (marked a) (marked b) (rule_index rule) (a / 1024 % 4) (b / 1024 % 4) (two rule) (omega arith) (omega arith))

  names_same : a % 512 ≡ b % 512 → names ≡ named (name_of_word a) (marked a || marked b)
  unfolding meet_names
  names_same e = pick_name a b _ _ e

  names_other : (a % 512 ≡ b % 512 → ⊥) → names ≡ conflicted
  unfolding meet_names
  names_other d = pick_other a b _ _ d

  -- a word that means the cell x, and is the left word or means another cell than it
  abbrev Fresh : Cell → ℕ → Type 0
  Fresh x v = (cell_of v ≡ x) × ((v ≡ a → ⊥) → cell_of v ≡ cell_of a → ⊥)

  stays : (x : Cell) → cell_of a ≡ x → Fresh x a
  stays x e = (e, λ d. absurd (d refl))

  moves : (x : Cell) (v : ℕ) → cell_of v ≡ x → (cell_of v ≡ cell_of a → ⊥) → Fresh x v
  moves x v e d = (e, λ _. d)

  other_kind : (v : ℕ) → (v / 1024 % 4 ≡ a / 1024 % 4 → ⊥) → cell_of v ≡ cell_of a → ⊥
  other_kind v d e = d (sym (kind_is v) ∙ ap kind_of e ∙ kind_is a)

  module _ (ka : a / 1024 % 4 ≡ 3) (kb : b / 1024 % 4 ≡ 3) where
    fresh_names : (s m l : Bool) → eqb (a % 512) (b % 512) ≡ s → marked a ≡ m → marked b ≡ l → Fresh names (cond s (cond m a (cond l b a)) 2048)
    fresh_names true true l es em el = stays names (is_named a ka ∙ sym (names_same (eqb-true (a % 512) (b % 512) es) ∙ rw em))
    fresh_names true false true es em el =
        let same : a % 512 ≡ b % 512 = eqb-true (a % 512) (b % 512) es in
        moves names b (is_named b kb ∙ sym (names_same same ∙ rw (em, el, same_name a b same)))
        λ e. let z : marked b ≡ marked a = cc (is_named a ka, is_named b kb) in not_true (marked a) (rw em tt) (sym z ∙ el)
    fresh_names true false false es em el = stays names (is_named a ka ∙ sym (names_same (eqb-true (a % 512) (b % 512) es) ∙ rw (em, el)))
    fresh_names false m l es em el =
        let other : a % 512 ≡ b % 512 → ⊥ = eqb-false (a % 512) (b % 512) es in
        moves names 2048 (conflict ∙ sym (names_other other)) (other_kind 2048 λ e. let z : ◌≡◌ {A = ℕ} 2 3 = e ∙ ka in omega arith)

  fresh : (w : ℕ) → Known w → Fresh (paper.meet rule (cell_of a) (cell_of b)) (by_winner w a b)
  unfolding by_winner meet_named
  fresh zero k = stays _ (sym k.0)
  fresh (suc zero) k =
      moves _ b (sym k.0) (other_kind b λ e. not_true (eqb (a / 1024 % 4) (b / 1024 % 4)) k.1 (eq-eqb _ _ (sym e)))
  fresh (suc (suc w)) k =
      let p : (a / 1024 % 4 ≡ 3) × (b / 1024 % 4 ≡ 3) = kinds w _ _ k.1 in
      let h0 : suc (suc w) ≡ 0 → ⊥ = omega arith in
      let h1 : suc (suc w) ≡ 1 → ⊥ = omega arith in
      rw (ne_eqb _ _ h0, ne_eqb _ _ h1, k.0) (fresh_names p.0 p.1 _ _ _ refl refl refl)

  -- the packed meet means the meet of the cells, and leaves the left word as it is or means another cell than it
  met : Fresh (paper.meet rule (cell_of a) (cell_of b)) (meet_word rule a b)
  unfolding meet_word by_winner
  met = fresh won known

  pub met_meaning : cell_of (meet_word rule a b) ≡ paper.meet rule (cell_of a) (cell_of b)
  met_meaning = met.0

  pub met_moves : (meet_word rule a b ≡ a → ⊥) → cell_of (meet_word rule a b) ≡ cell_of a → ⊥
  met_moves = met.1

-- a word that meets itself stays
by_itself : (left right mark : Bool) (a : ℕ) → a ≡ cond left a (cond right a (cond mark a (cond mark a a)))
by_itself true right mark a = refl
by_itself false true mark a = refl
by_itself false false true a = refl
by_itself false false false a = refl

word_itself : (rule : Rule) (a : ℕ) → a ≡ meet_word rule a a
unfolding meet_word meet_named
word_itself rule a =
    let w = winner (rule_index rule) (a / 1024 % 4) (a / 1024 % 4) in
    rw (eq-eqb (a % 512) (a % 512) refl) (by_itself (eqb w 0) (eqb w 1) (marked a) a)

pub same_stays : (rule : Rule) (a b : ℕ) → a ≡ b → meet_word rule a b ≡ a
same_stays rule a b e = rw (← e) (sym (word_itself rule a))

-- words that the table leaves on the left: Conflicted under the old rule, what Absent meets there, and Unknown under the house rule
-- where Absent does not come
left_wins : (rule : Rule) (a b : ℕ) → winner (rule_index rule) (a / 1024 % 4) (b / 1024 % 4) ≡ 0 → meet_word rule a b ≡ a
unfolding meet_word
left_wins rule a b e = rw e

module _ (a b : ℕ) where
  pub old_conflicted_stays : a ≡ 2048 → meet_word Old a b ≡ a
  unfolding meet_table
  old_conflicted_stays e =
      let k : a / 1024 % 4 ≡ 2 = omega arith in
      left_wins Old a b (rw k (every_at (λ j w. w ≡ 0) (get_or (get_or meet_table 0 []) 2 []) (refl, (refl, (refl, (refl, tt)))) (b / 1024 % 4) (omega arith) 0))

  pub old_absent_comes : b ≡ 0 → meet_word Old a b ≡ a
  unfolding meet_table
  old_absent_comes e =
      let k : b / 1024 % 4 ≡ 0 = omega arith in
      left_wins Old a b (rw k (every_at (λ j row. get_or row 0 0 ≡ 0) (get_or meet_table 0 []) (refl, (refl, (refl, (refl, tt)))) (a / 1024 % 4) (omega arith) []))

  pub house_unknown_stays : a ≡ 1024 → (b / 1024 % 4 ≡ 0 → ⊥) → meet_word House a b ≡ a
  unfolding meet_table
  house_unknown_stays e d =
      let k : a / 1024 % 4 ≡ 1 = omega arith in
      left_wins House a b
      (rw k (every_at (λ j w. (j ≡ 0 → ⊥) → w ≡ 0) (get_or (get_or meet_table 1 []) 1 []) ((λ n. absurd (n refl)), ((λ n. refl), ((λ n. refl), ((λ n. refl), tt)))) (b / 1024 % 4) (omega arith) 0 d))

-- the tests of `meet`, with the table that it was lent
module _ (rule : Rule) (a b r : ℕ) (table : List (List (List ℕ))) (et : table ≡ meet_table) (er : r ≡ rule_index rule) where
  abbrev read : ℕ
  read = get_or (get_or (get_or table r []) (a / 1024 % 4) []) (b / 1024 % 4) 0

  abbrev Met : ℕ → Type 0
  Met v = (v ≡ meet_word rule a b) × (cell_of v ≡ paper.meet rule (cell_of a) (cell_of b))

  is_met : (v : ℕ) → v ≡ by_winner read a b → Met v
  unfolding meet_word by_winner
  is_met v e = let p : v ≡ meet_word rule a b = rw (← er, ← et) e in (p, rw p (met_meaning rule a b))

  pub met_left : read ≡ 0 → Met a
  unfolding by_winner
  met_left e = is_met a (rw e)

  pub met_right : read ≡ 1 → Met b
  unfolding by_winner
  met_right e = is_met b (rw e)

  module _ (h0 : read ≡ 0 → ⊥) (h1 : read ≡ 1 → ⊥) where
    by_names : (v : ℕ) → v ≡ meet_named a b → Met v
    unfolding by_winner
    by_names v e = is_met v (rw (ne_eqb _ _ h0, ne_eqb _ _ h1) e)

    pub met_conflict : (a % 512 ≡ b % 512 → ⊥) → Met 2048
    unfolding meet_named
    met_conflict d = by_names 2048 (rw (ne_eqb _ _ d))

    module _ (e : a % 512 ≡ b % 512) where
      pub met_marked : a / 512 % 2 ≡ 1 → Met a
      unfolding meet_named marked
      met_marked m = by_names a (rw (eq-eqb _ _ e, eq-eqb _ _ m))

      pub met_marks : (a / 512 % 2 ≡ 1 → ⊥) → b / 512 % 2 ≡ 1 → Met b
      unfolding meet_named marked
      met_marks m l = by_names b (rw (eq-eqb _ _ e, ne_eqb _ _ m, eq-eqb _ _ l))

      pub met_unmarked : (a / 512 % 2 ≡ 1 → ⊥) → (b / 512 % 2 ≡ 1 → ⊥) → Met a
      unfolding meet_named marked
      met_unmarked m l = by_names a (rw (eq-eqb _ _ e, ne_eqb _ _ m, ne_eqb _ _ l))

-- the tests of the functions on one cell
module _ (w : ℕ) where
  pub copied_absent : w / 1024 % 4 ≡ 0 → cell_of 1024 ≡ paper.copied (cell_of w)
  unfolding cell_of of_kind paper.copied
  copied_absent e = rw e

  pub copied_present : (w / 1024 % 4 ≡ 0 → ⊥) → cell_of w ≡ paper.copied (cell_of w)
  unfolding cell_of of_kind paper.copied
  copied_present d = go (w / 1024 % 4) d
    where
      go : (k : ℕ) → (k ≡ 0 → ⊥) → of_kind k (name_of_word w) (marked w) ≡ paper.copied (of_kind k (name_of_word w) (marked w))
      go zero d = absurd (d refl)
      go (suc zero) d = refl
      go (suc (suc zero)) d = refl
      go (suc (suc (suc k))) d = refl

  -- the name to, with the mark of w
  pub renamed : (to : ℕ) → cell_of (3072 + w / 512 % 2 * 512 + to % 512) ≡ named (name_of_word to) (marked w)
  renamed to = made (3072 + w / 512 % 2 * 512 + to % 512) to w (omega arith) (omega arith) (omega arith)

  module _ (d : w / 1024 % 4 ≡ 3 → ⊥) where
    pub overwritten_unnamed : (n : Name) → cell_of w ≡ paper.overwritten n (cell_of w)
    unfolding paper.overwritten
    overwritten_unnamed n = unnamed (λ c. c) (paper.overwritten n) refl refl refl w d

    pub house_changed_unnamed : (from to : Name) → cell_of w ≡ paper.house_changed from to (cell_of w)
    unfolding paper.house_changed
    house_changed_unnamed from to = unnamed (λ c. c) (paper.house_changed from to) refl refl refl w d

    pub old_changed_unnamed : (to : ℕ) → cell_of (3072 + to % 512) ≡ paper.old_changed (name_of_word to) (cell_of w)
    unfolding paper.old_changed marked
    old_changed_unnamed to =
        made (3072 + to % 512) to 0 (omega arith) (omega arith) (omega arith)
        ∙ unnamed (λ c. named (name_of_word to) false) (paper.old_changed (name_of_word to)) refl refl refl w d

    pub collected_unnamed : (rule : Rule) → cell_of w ≡ paper.collected rule (cell_of w)
    unfolding paper.collected
    collected_unnamed rule = unnamed (λ c. c) (paper.collected rule) refl refl refl w d

  module _ (k : w / 1024 % 4 ≡ 3) where
    pub overwritten_same : (n : ℕ) → w % 512 ≡ n % 512 → cell_of 2048 ≡ paper.overwritten (name_of_word n) (cell_of w)
    unfolding paper.overwritten
    overwritten_same n e = rw (is_named w k, conflict) (sym (pick_name w n _ _ e))

    pub overwritten_other : (n : ℕ) → (w % 512 ≡ n % 512 → ⊥) → cell_of w ≡ paper.overwritten (name_of_word n) (cell_of w)
    unfolding paper.overwritten
    overwritten_other n e = rw (is_named w k) (sym (pick_other w n _ _ e))

    pub old_changed_named : (to v : ℕ) → cell_of v ≡ named (name_of_word to) (marked w) → cell_of v ≡ paper.old_changed (name_of_word to) (cell_of w)
    unfolding paper.old_changed
    old_changed_named to v e = rw (is_named w k) e

    pub house_changed_same : (from to v : ℕ) → cell_of v ≡ named (name_of_word to) (marked w) → w % 512 ≡ from % 512
        → cell_of v ≡ paper.house_changed (name_of_word from) (name_of_word to) (cell_of w)
    unfolding paper.house_changed
    house_changed_same from to v ev e = rw (is_named w k) (ev ∙ sym (pick_name w from _ _ e))

    pub house_changed_other : (from to : ℕ) → (w % 512 ≡ from % 512 → ⊥) → cell_of 2048 ≡ paper.house_changed (name_of_word from) (name_of_word to) (cell_of w)
    unfolding paper.house_changed
    house_changed_other from to e = rw (is_named w k, conflict) (sym (pick_other w from _ _ e))

    pub collected_unmarked : (rule : Rule) → w / 512 % 2 ≡ 0 → cell_of w ≡ paper.collected rule (cell_of w)
    unfolding paper.collected marked
    collected_unmarked rule e = rw (is_named w k, e) (by_rule rule)
      where
        by_rule : (rule : Rule) → named (name_of_word w) false ≡ paper.collected rule (named (name_of_word w) false)
        by_rule Old = refl
        by_rule House = refl

    pub collected_old : (w / 512 % 2 ≡ 0 → ⊥) → cell_of 1024 ≡ paper.collected Old (cell_of w)
    unfolding paper.collected cell_of of_kind marked
    collected_old d = let e : w / 512 % 2 ≡ 1 = omega arith in rw (k, e)

    pub collected_house : (w / 512 % 2 ≡ 0 → ⊥) → cell_of 2048 ≡ paper.collected House (cell_of w)
    unfolding paper.collected cell_of of_kind marked
    collected_house d = let e : w / 512 % 2 ≡ 1 = omega arith in rw (k, e)
