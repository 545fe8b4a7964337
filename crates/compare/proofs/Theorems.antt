-- Theorems on two reports, over the definitions alone: equal exactly when the bytes are; the order of the two; the lines before the
-- named one agree, and that one does not.
use mathlib.Core.Path.{◌≡◌, refl, sym, ◌∙◌}
use mathlib.Core.Bool.{true, false, true≢false, beq}
use mathlib.Core.List.{List, [], ◌∷◌}
use Prim.Native.Nat.{ℕ, suc, ◌+◌, ◌-◌, ◌≤◌}
use native.Mathlib.Omega.{arith}
use borrow.Author.Tests.{eq-eqb, ne_eqb, eqb-true, eqb-false}
use lib.Dec.{eqb}
use lib.ListN.{length, get_or, take, drop}
use Rattle.lists.specs.Split.{by_test, and_left, and_right}
use Rattle.paper.specs.Text.{Bytes, line_feed}
use Rattle.paper.specs.Refusals.{empty}
use Rattle.paper.specs.Comparison.{same_text, pieces, same_line, parting, bad_line, refused_or, compared}
use Rattle.paper.specs.declared.Compared.{Compared}
use Rattle.paper.specs.declared.Compared.TheVariants.{Equal, Parts, Malformed}
use Rattle.compare.specs.Pieces.{pieces_some, not_empty}
use Rattle.compare.proofs.LawsPart.{scan, scanning_first}

-- of two texts from a place on

scan_same : (line place at : ℕ) (xs : Bytes) → scan line place at xs xs ≡ Equal
unfolding scan
scan_same line place at [] = refl
scan_same line place at (x ∷ xs) =
    rw (eq-eqb x x refl)
    (by_test (eqb x line_feed)
    (λ e. rw e (scan_same (suc line) (suc at) (suc at) xs))
    λ e. rw e (scan_same line place (suc at) xs))

abbrev Same : Bytes → Bytes → Compared → Type 0
Same xs ys Equal = xs ≡ ys
Same xs ys (Parts line place) = Unit {0}
Same xs ys (Malformed side line) = Unit {0}

same_more : (x y : ℕ) (xs ys : Bytes) (r : Compared) → x ≡ y → Same xs ys r → Same (x ∷ xs) (y ∷ ys) r
same_more x y xs ys Equal e s = rw (e, s)
same_more x y xs ys (Parts line place) e s = tt
same_more x y xs ys (Malformed side line) e s = tt

scan_equal : (line place at : ℕ) (xs ys : Bytes) → Same xs ys (scan line place at xs ys)
unfolding scan
scan_equal line place at [] [] = refl
scan_equal line place at [] (y ∷ ys) = tt
scan_equal line place at (x ∷ xs) [] = tt
scan_equal line place at (x ∷ xs) (y ∷ ys) =
    by_test (eqb x y)
    (λ e. rw e
    (by_test (eqb x line_feed)
    (λ f. rw f (same_more x y xs ys (scan (suc line) (suc at) (suc at) xs ys) (eqb-true x y e) (scan_equal (suc line) (suc at) (suc at) xs ys)))
    λ f. rw f (same_more x y xs ys (scan line place (suc at) xs ys) (eqb-true x y e) (scan_equal line place (suc at) xs ys))))
    λ e. rw e tt

scan_turned : (line place at : ℕ) (xs ys : Bytes) → scan line place at xs ys ≡ scan line place at ys xs
unfolding scan
scan_turned line place at [] [] = refl
scan_turned line place at [] (y ∷ ys) = refl
scan_turned line place at (x ∷ xs) [] = refl
scan_turned line place at (x ∷ xs) (y ∷ ys) =
    by_test (eqb x y)
    (λ e.
    let q : x ≡ y = eqb-true x y e in
    rw (e, eq-eqb y x (sym q), q)
    (by_test (eqb y line_feed)
    (λ f. rw f (scan_turned (suc line) (suc at) (suc at) xs ys))
    λ f. rw f (scan_turned line place (suc at) xs ys)))
    λ e. rw (e, ne_eqb y x (λ q. eqb-false x y e (sym q)))

-- of two well-formed reports

module _ (first second : Bytes) (good : bad_line first ≡ 0) (well : bad_line second ≡ 0) where
  by_pieces : compared first second ≡ parting 1 0 (pieces first) (pieces second)
  unfolding compared refused_or
  by_pieces = rw (good, well)

  scanned : compared first second ≡ scan 1 0 0 first second
  scanned = by_pieces ∙ (scanning_first first second).left

  -- they are equal exactly when their bytes are
  pub equal_bytes : compared first second ≡ Equal → first ≡ second
  equal_bytes e = rw (sym scanned ∙ e) at (scan_equal 1 0 0 first second)

  pub bytes_equal : first ≡ second → compared first second ≡ Equal
  bytes_equal e = scanned ∙ rw e (scan_same 1 0 0 second)

-- where they part, line and place, does not depend on which comes first
pub either_order : (first second : Bytes) → bad_line first ≡ 0 → bad_line second ≡ 0 → compared first second ≡ compared second first
either_order first second good well =
    scanned first second good well ∙ scan_turned 1 0 0 first second ∙ sym (scanned second first well good)

-- of the pieces of two texts, counted from a line on: those before the named one agree, and that one does not
pub record PartedAt (from line : ℕ) (ls ms : List Bytes) : Type 0 where
  pub later : from ≤ line
  pub before : take (line - from) ls ≡ take (line - from) ms
  pub differs : same_line (get_or ls (line - from) []) (drop (suc (line - from)) ls) (get_or ms (line - from) []) (drop (suc (line - from)) ms) ≡ false

abbrev Parted : ℕ → List Bytes → List Bytes → Compared → Type 0
Parted from ls ms Equal = Unit {0}
Parted from ls ms (Parts line place) = PartedAt from line ls ms
Parted from ls ms (Malformed side line) = Unit {0}

one_later : (from : ℕ) (l m : Bytes) (ls ms : List Bytes) (r : Compared) → l ≡ m → Parted (suc from) ls ms r → Parted from (l ∷ ls) (m ∷ ms) r
one_later from l m ls ms Equal e p = tt
one_later from l m ls ms (Parts line place) e p =
    let n : line - from ≡ suc (line - suc from) = omega (arith, p.later) in
    record { later = omega (arith, p.later); before = rw (n, e, p.before); differs = rw n p.differs }
one_later from l m ls ms (Malformed side line) e p = tt

text_same : (l m : Bytes) → same_text l m ≡ true → l ≡ m
unfolding same_text
text_same [] [] e = refl
text_same [] (y ∷ ys) e = absurd (true≢false (sym e))
text_same (x ∷ xs) [] e = absurd (true≢false (sym e))
text_same (x ∷ xs) (y ∷ ys) e = rw (eqb-true x y (and_left _ _ e), text_same xs ys (and_right (eqb x y) (same_text xs ys) e))

line_text : (l m : Bytes) (ls ms : List Bytes) → same_line l ls m ms ≡ true → same_text l m ≡ true
unfolding same_line
line_text l m ls ms e = and_left _ _ e

line_last : (l m : Bytes) (ls ms : List Bytes) → same_line l ls m ms ≡ true → beq (empty ls) (empty ms) ≡ true
unfolding same_line
line_last l m ls ms e = and_right (same_text l m) (beq (empty ls) (empty ms)) e

-- behind a line that is the same either both go on or none does
parted : (line place : ℕ) (ls ms : List Bytes) → beq (empty ls) (empty ms) ≡ true → Parted line ls ms (parting line place ls ms)
unfolding parting empty
parted line place [] [] h = tt
parted line place [] (m ∷ ms) h = absurd (true≢false (sym h))
parted line place (l ∷ ls) [] h = absurd (true≢false (sym h))
parted line place (l ∷ ls) (m ∷ ms) h =
    by_test (same_line l ls m ms)
    (λ e. rw e (one_later line l m ls ms (parting (suc line) (place + suc (length l)) ls ms) (text_same l m (line_text l m ls ms e)) (parted (suc line) (place + suc (length l)) ls ms (line_last l m ls ms e))))
    λ e. rw e
    (let z : line - line ≡ 0 = omega arith in record { later = omega arith; before = rw z; differs = rw z e })

both_some : (first second : Bytes) → beq (empty (pieces first)) (empty (pieces second)) ≡ true
both_some first second = rw (not_empty (pieces first) (pieces_some first), not_empty (pieces second) (pieces_some second))

pub first_to_differ : (first second : Bytes) → bad_line first ≡ 0 → bad_line second ≡ 0 → (line place : ℕ) → compared first second ≡ Parts line place
    → PartedAt 1 line (pieces first) (pieces second)
first_to_differ first second good well line place e =
    rw (sym (by_pieces first second good well) ∙ e) at (parted 1 0 (pieces first) (pieces second) (both_some first second))
