-- The typed names: what the words behind the header list, and when the next `T` is in order.
use Rattle.std.specs.Prelude.{◌≡◌, refl, true, false, not, ◌&&◌, List, [], ◌∷◌, ◌++◌, ℕ, zero, suc, ◌+◌, ◌<◌, eqb, leb, length, get_or, set}
use Rattle.std.proofs.Common.{sym, ap, ◌∙◌, true≢false, zero-add, suc-add, add-suc, add-zero, not-suc-le-zero, add-one, arith, le-leb, eq-eqb, ne_eqb}
use Rattle.std.proofs.lemmas.Bool.{lt-leb}
use Rattle.lists.specs.Split.{by_test, by_order, and_right}
use Rattle.paper.specs.Sheet.{listed}
use Rattle.paper.specs.Refusals.{ascending_from, ascending}
use Rattle.lists.specs.Region.{region, length_region, getD_region}
use Rattle.layout.specs.Layout.{typed_base, typed_words}
use Rattle.loaded.specs.Loaded.{marked_from}
use Rattle.loaded.specs.Filling.{Blank}

-- what is listed

below_first : (k : ℕ) (l : List ℕ) (n : ℕ) → n < k → listed (marked_from k l) n ≡ false
unfolding marked_from listed
below_first k [] n h = refl
below_first k (w ∷ ws) n h =
    by_test (eqb w 0)
    (λ e. rw e (below_first (suc k) ws n (omega arith)))
    λ e. rw (e, ne_eqb k n (λ q. omega arith)) (below_first (suc k) ws n (omega arith))

listed_from : (k : ℕ) (l : List ℕ) (n : ℕ) → listed (marked_from k l) (k + n) ≡ not (eqb (get_or l n 0) 0)
unfolding marked_from listed
listed_from k [] n = refl
listed_from k (w ∷ ws) zero =
    rw add-zero
    (by_test (eqb w 0)
    (λ e. rw e (below_first (suc k) ws k (omega arith)))
    λ e. rw (e, eq-eqb k k refl))
listed_from k (w ∷ ws) (suc n) =
    by_test (eqb w 0)
    (λ e. rw (e, add-suc, ← suc-add) (listed_from (suc k) ws n))
    λ e. rw (e, ne_eqb k (k + suc n) (λ q. omega arith), add-suc, ← suc-add) (listed_from (suc k) ws n)

-- a name is listed where its word is not 0
pub listed_marked : (l : List ℕ) (n : ℕ) → listed (marked_from 0 l) n ≡ not (eqb (get_or l n 0) 0)
listed_marked l n = rw zero-add at (listed_from 0 l n)

-- words that are all 0 mark nothing
none_marked : (k : ℕ) (l : List ℕ) → ((i : ℕ) → i < length l → get_or l i 0 ≡ 0) → marked_from k l ≡ []
unfolding marked_from
none_marked k [] z = refl
none_marked k (w ∷ ws) z = rw (z 0 (omega arith)) (none_marked (suc k) ws λ i h. z (suc i) (omega arith))

pub none_typed : (l : List ℕ) → Blank l → marked_from 0 (region typed_base typed_words l) ≡ []
none_typed l blank =
    none_marked 0 (region typed_base typed_words l) λ i h.
    let n : length (region typed_base typed_words l) ≡ typed_words = length_region typed_base typed_words l (omega (arith, blank.size)) in
    getD_region typed_base typed_words l i (omega arith) ∙ blank.zeros (typed_base + i) (omega arith)

-- one name more

-- nothing in order ends below its least number
never_below : (least n : ℕ) (xs : List ℕ) → n < least → ascending_from least (xs ++ (n ∷ [])) ≡ false
unfolding ascending_from
never_below least n [] h = rw (lt-leb least n h)
never_below least n (x ∷ xs) h =
    by_order x least
    (λ o. rw (lt-leb least x o))
    λ o. rw (le-leb least x o) (never_below (suc x) n xs (omega arith))

no_earlier : (least k n : ℕ) (l : List ℕ) → n < k → ascending_from least (marked_from k l ++ (n ∷ [])) ≡ true → marked_from k l ≡ []
unfolding marked_from ascending_from
no_earlier least k n [] h e = refl
no_earlier least k n (w ∷ ws) h e =
    by_test (eqb w 0)
    (λ z. rw z (no_earlier least (suc k) n ws (omega arith) (rw z at e)))
    λ z. absurd (true≢false (sym (and_right (leb least k) _ (rw z at e)) ∙ never_below (suc k) n (marked_from (suc k) ws) (omega arith)))

marks_from : (least k : ℕ) (l : List ℕ) (n : ℕ) → n < length l → ascending_from least (marked_from k l ++ ((k + n) ∷ [])) ≡ true
    → marked_from k (set l n 1) ≡ marked_from k l ++ ((k + n) ∷ [])
unfolding marked_from ascending_from
marks_from least k [] n h e = absurd (not-suc-le-zero h)
marks_from least k (w ∷ ws) zero h e =
    by_test (eqb w 0)
    (λ y. let q : marked_from (suc k) ws ≡ [] = no_earlier least (suc k) k ws (omega arith) (rw (y, add-zero) at e) in rw (y, q, add-zero))
    λ y. absurd (true≢false (sym (and_right (leb least k) _ (rw (y, add-zero) at e)) ∙ never_below (suc k) k (marked_from (suc k) ws) (omega arith)))
marks_from least k (w ∷ ws) (suc n) h e =
    by_test (eqb w 0)
    (λ y. rw (y, add-suc, ← suc-add) (marks_from least (suc k) ws n (omega arith) (rw (y, add-suc, ← suc-add) at e)))
    λ y. rw (y, add-suc, ← suc-add) (ap (λ (t : List ℕ). k ∷ t) (marks_from (suc k) (suc k) ws n (omega arith) (and_right (leb least k) _ (rw (y, add-suc, ← suc-add) at e))))

-- a name in order is marked behind all others
pub marks_more : (l : List ℕ) (n : ℕ) → n < length l → ascending (marked_from 0 l ++ (n ∷ [])) ≡ true → marked_from 0 (set l n 1) ≡ marked_from 0 l ++ (n ∷ [])
unfolding ascending
marks_more l n h e = rw zero-add at (marks_from 0 0 l n h (rw zero-add e))

after_from : (least : ℕ) (xs : List ℕ) (n m : ℕ)
    → ascending_from least ((xs ++ (n ∷ [])) ++ (m ∷ [])) ≡ (ascending_from least (xs ++ (n ∷ [])) && leb (suc n) m)
unfolding ascending_from
after_from least [] n m = by_test (leb least n) (λ e. rw e (by_test (leb (suc n) m) (λ y. rw y) λ y. rw y)) λ e. rw e
after_from least (x ∷ xs) n m = by_test (leb least x) (λ e. rw e (after_from (suc x) xs n m)) λ e. rw e

-- behind a name in order, the next is in order from one more on
pub ascending_more : (xs : List ℕ) (n m : ℕ) → ascending (xs ++ (n ∷ [])) ≡ true → ascending ((xs ++ (n ∷ [])) ++ (m ∷ [])) ≡ leb (n + 1) m
unfolding ascending
ascending_more xs n m e = rw (after_from 0 xs n m, e, add-one)

pub ascending_one : (m : ℕ) → ascending (m ∷ []) ≡ leb 0 m
unfolding ascending ascending_from
ascending_one m = by_test (leb 0 m) (λ e. rw e) λ e. rw e
