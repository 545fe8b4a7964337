-- Where two texts part, byte by byte, is where their pieces do.
use mathlib.Core.Path.{◌≡◌, refl, sym, ◌∙◌}
use mathlib.Core.Bool.{cond, true≢false}
use mathlib.Core.List.{List, [], ◌∷◌}
use Prim.Native.Nat.{ℕ, suc, ◌+◌, ◌≤◌, ◌<◌}
use native.Mathlib.Nat.{add-suc, add-zero}
use native.Mathlib.Numerals.{add-one}
use native.Mathlib.Omega.{arith}
use borrow.Author.Tests.{eq-eqb, ne_eqb, eqb-true}
use lib.Dec.{eqb}
use lib.ListN.{length, get_or, drop, drop_of_length-le}
use lib.Seq.{drop-cons}
use Rattle.lists.specs.Split.{by_test}
use Rattle.paper.specs.Text.{Bytes, line_feed, onto_first}
use Rattle.paper.specs.Refusals.{empty}
use Rattle.paper.specs.Comparison.{same_text, pieces, same_line, parting}
use Rattle.paper.specs.declared.Compared.{Compared}
use Rattle.paper.specs.declared.Compared.TheVariants.{Equal, Parts}
use Rattle.compare.specs.Pieces.{pieces_none, pieces_feed, pieces_more, pieces_some, not_empty}

-- two texts from a place on, inside a line that began at an earlier one
unfoldable pub scan : (line place at : ℕ) → Bytes → Bytes → Compared
scan line place at [] [] = Equal
scan line place at [] (y ∷ ys) = Parts line place
scan line place at (x ∷ xs) [] = Parts line place
scan line place at (x ∷ xs) (y ∷ ys) =
    cond (eqb x y) (cond (eqb x line_feed) (scan (suc line) (suc at) (suc at) xs ys) (scan line place (suc at) xs ys)) (Parts line place)

-- their pieces, of which the first ones lack n bytes that both share
unfoldable first_part : (line place n : ℕ) → List Bytes → List Bytes → Compared
first_part line place n [] [] = Equal
first_part line place n [] (m ∷ ms) = Parts line place
first_part line place n (l ∷ ls) [] = Parts line place
first_part line place n (l ∷ ls) (m ∷ ms) = cond (same_line l ls m ms) (parting (suc line) (place + n + suc (length l)) ls ms) (Parts line place)

part_none : (line place : ℕ) (ls ms : List Bytes) → parting line place ls ms ≡ first_part line place 0 ls ms
unfolding parting first_part
part_none line place [] [] = refl
part_none line place [] (m ∷ ms) = refl
part_none line place (l ∷ ls) [] = refl
part_none line place (l ∷ ls) (m ∷ ms) = rw (add-zero place)

-- one byte more of each

module _ (line place n : ℕ) where
  more_of : (x y : ℕ) (ls ms : List Bytes) → 0 < length ls → 0 < length ms
      → first_part line place n (onto_first x ls) (onto_first y ms) ≡ cond (eqb x y) (first_part line place (suc n) ls ms) (Parts line place)
  unfolding first_part onto_first same_text same_line
  more_of x y [] ms h k = absurd (omega arith)
  more_of x y (l ∷ ls) [] h k = absurd (omega arith)
  more_of x y (l ∷ ls) (m ∷ ms) h k =
      by_test (eqb x y)
      (λ e.
      let q : place + n + suc (suc (length l)) ≡ place + suc n + suc (length l) = omega arith in
      rw (e, q))
      λ e. rw e

  first_other : (y : ℕ) (ls ms : List Bytes) → 0 < length ms → first_part line place n ([] ∷ ls) (onto_first y ms) ≡ Parts line place
  unfolding first_part onto_first same_text same_line
  first_other y ls [] h = absurd (omega arith)
  first_other y ls (m ∷ ms) h = refl

  other_first : (x : ℕ) (ls ms : List Bytes) → 0 < length ls → first_part line place n (onto_first x ls) ([] ∷ ms) ≡ Parts line place
  unfolding first_part onto_first same_text same_line
  other_first x [] ms h = absurd (omega arith)
  other_first x (l ∷ ls) ms h = refl

  first_both : (ls ms : List Bytes) → 0 < length ls → 0 < length ms → first_part line place n ([] ∷ ls) ([] ∷ ms) ≡ parting (suc line) (place + n + 1) ls ms
  unfolding first_part same_text same_line
  first_both ls ms h k = rw (not_empty ls h, not_empty ms k)

  first_ends : (ms : List Bytes) → 0 < length ms → first_part line place n ([] ∷ []) ([] ∷ ms) ≡ Parts line place
  unfolding first_part same_text same_line empty
  first_ends ms k = rw (not_empty ms k)

  ends_first : (ls : List Bytes) → 0 < length ls → first_part line place n ([] ∷ ls) ([] ∷ []) ≡ Parts line place
  unfolding first_part same_text same_line empty
  ends_first ls k = rw (not_empty ls k)

  both_end : first_part line place n ([] ∷ []) ([] ∷ []) ≡ Equal
  unfolding first_part same_text same_line empty parting
  both_end = refl

-- behind a line feed of both a new line begins
go_on : (line place n : ℕ) (xs ys : Bytes)
    → first_part (suc line) (suc (place + n)) 0 (pieces xs) (pieces ys) ≡ scan (suc line) (suc (place + n)) (suc (place + n) + 0) xs ys
    → parting (suc line) (place + n + 1) (pieces xs) (pieces ys) ≡ scan (suc line) (suc (place + n)) (suc (place + n)) xs ys
go_on line place n xs ys e =
    let q : place + n + 1 ≡ suc (place + n) = omega arith in
    let z : suc (place + n) + 0 ≡ suc (place + n) = omega arith in
    rw q (part_none (suc line) (suc (place + n)) (pieces xs) (pieces ys) ∙ rw z at e)

scanned : (line place n : ℕ) (xs ys : Bytes) → first_part line place n (pieces xs) (pieces ys) ≡ scan line place (place + n) xs ys
unfolding scan
scanned line place n [] [] = rw pieces_none (both_end line place n)
scanned line place n [] (y ∷ ys) =
    by_test (eqb y line_feed)
    (λ e. rw (pieces_none, pieces_feed y ys e) (first_ends line place n (pieces ys) (pieces_some ys)))
    λ e. rw (pieces_none, pieces_more y ys e) (first_other line place n y [] (pieces ys) (pieces_some ys))
scanned line place n (x ∷ xs) [] =
    by_test (eqb x line_feed)
    (λ e. rw (pieces_none, pieces_feed x xs e) (ends_first line place n (pieces xs) (pieces_some xs)))
    λ e. rw (pieces_none, pieces_more x xs e) (other_first line place n x (pieces xs) [] (pieces_some xs))
scanned line place n (x ∷ xs) (y ∷ ys) =
    by_test (eqb x line_feed)
    (λ e. by_test (eqb y line_feed)
    (λ f. rw (pieces_feed x xs e, pieces_feed y ys f, first_both line place n (pieces xs) (pieces ys) (pieces_some xs) (pieces_some ys), e, eqb-true x line_feed e, eqb-true y line_feed f) (go_on line place n xs ys (scanned (suc line) (suc (place + n)) 0 xs ys)))
    λ f. rw (pieces_feed x xs e, pieces_more y ys f, first_other line place n y (pieces xs) (pieces ys) (pieces_some ys), ne_eqb x y (λ q. true≢false (sym (rw q at e) ∙ f))))
    λ e. by_test (eqb y line_feed)
    (λ f. rw (pieces_more x xs e, pieces_feed y ys f, other_first line place n x (pieces xs) (pieces ys) (pieces_some xs), ne_eqb x y (λ q. true≢false (sym f ∙ rw q at e))))
    λ f. rw (pieces_more x xs e, pieces_more y ys f, more_of line place n x y (pieces xs) (pieces ys) (pieces_some xs) (pieces_some ys), e, scanned line place (suc n) xs ys, add-suc)

-- a turn: what is left gives what the whole gives

pub record Scanning (first second : Bytes) (line place at : ℕ) : Type 0 where
  pub in_first : at ≤ length first
  pub in_second : at ≤ length second
  pub began : place ≤ at
  pub few : line ≤ at + 1
  pub left : parting 1 0 (pieces first) (pieces second) ≡ scan line place at (drop at first) (drop at second)

pub scanning_first : (first second : Bytes) → Scanning first second 1 0 0
scanning_first first second = record {
  in_first = omega arith;
  in_second = omega arith;
  began = omega arith;
  few = omega arith;
  left = part_none 1 0 (pieces first) (pieces second) ∙ scanned 1 0 0 first second;
}

module _ {first second : Bytes} {line place at : ℕ} (w : Scanning first second line place at) where
  pub scan_over : length first ≤ at → length second ≤ at → Equal ≡ parting 1 0 (pieces first) (pieces second)
  unfolding scan
  scan_over h k = rw (w.left, drop_of_length-le first h, drop_of_length-le second k)

  pub scan_first_over : length first ≤ at → at < length second → Parts line place ≡ parting 1 0 (pieces first) (pieces second)
  unfolding scan
  scan_first_over h k = rw (w.left, drop_of_length-le first h, drop-cons second at 0 k)

  module _ (h : at < length first) where
    pub scan_second_over : length second ≤ at → Parts line place ≡ parting 1 0 (pieces first) (pieces second)
    unfolding scan
    scan_second_over k = rw (w.left, drop_of_length-le second k, drop-cons first at 0 h)

    module _ (k : at < length second) where
      pub scan_differs : (get_or first at 0 ≡ get_or second at 0 → ⊥) → Parts line place ≡ parting 1 0 (pieces first) (pieces second)
      unfolding scan
      scan_differs d = rw (w.left, drop-cons first at 0 h, drop-cons second at 0 k, ne_eqb (get_or first at 0) (get_or second at 0) d)

      module _ (q : get_or first at 0 ≡ get_or second at 0) where
        pub scan_feed : get_or first at 0 ≡ line_feed → Scanning first second (line + 1) (at + 1) (at + 1)
        unfolding scan
        scan_feed e = record {
          in_first = omega arith;
          in_second = omega arith;
          began = omega arith;
          few = omega (arith, w.few);
          left = w.left ∙ rw (drop-cons first at 0 h, drop-cons second at 0 k, ← q, e, add-one at, add-one line);
        }

        pub scan_more : (get_or first at 0 ≡ line_feed → ⊥) → Scanning first second line place (at + 1)
        unfolding scan
        scan_more d = record {
          in_first = omega arith;
          in_second = omega arith;
          began = omega (arith, w.began);
          few = omega (arith, w.few);
          left = w.left ∙ rw (drop-cons first at 0 h, drop-cons second at 0 k, ← q, eq-eqb (get_or first at 0) (get_or first at 0) refl, ne_eqb (get_or first at 0) line_feed d, add-one at);
        }
