-- A line field by field, the header, and the report line by line: what is left decides.
use mathlib.Core.Path.{◌≡◌, refl, sym, ap, ◌∙◌}
use Rattle.std.specs.Prelude as read
use Rattle.std.specs.Prelude.{Some, None}
use Rattle.compare.specs.declared.Shape as Field
use Rattle.compare.specs.declared.Shape.TheVariants.{Number, Byte}
use mathlib.Core.Bool.{Bool, true, false, cond, ◌&&◌, ◌||◌, true≢false, and-false}
use mathlib.Core.List.{List, [], ◌∷◌}
use mathlib.Core.Option.{Option, none, some}
use Prim.Native.Nat.{ℕ, zero, suc, ◌+◌, ◌≤◌, ◌<◌}
use native.Mathlib.Nat.{add-suc, add-zero}
use native.Mathlib.Numerals.{add-one}
use native.Mathlib.Omega.{arith}
use borrow.Author.Tests.{eq-eqb, ne_eqb, eqb-true, eqb-false}
use lib.Dec.{eqb}
use lib.ListN.{length, get_or, drop, drop_of_length-le}
use lib.Seq.{drop-cons, get_or-drop, drop-drop}
use Rattle.lists.specs.Split.{by_test, and_left, and_right}
use Rattle.paper.specs.Text.{Bytes, tab, line_feed, onto_first, parts, fields, number_of, digits, digit_from}
use Rattle.paper.specs.Refusals.{◌>>=◌, next, ended, any, empty}
use Rattle.paper.specs.Report.{letter_R, rule_text}
use Rattle.fields.specs.Fields.{until, ends_line, ends_field, field_at, field_end, line_at, line_end, fields_behind, number_told, number_at}
use Rattle.fields.specs.Cursor.{fields_at, fields_behind_tab, fields_behind_none, line_end_tab, line_end_none}
use Rattle.fields.specs.Told.{number_says, number_refused, next_says, next_refused}
use Rattle.paper.specs.Comparison.{Shape, same_text, fits, fault_shape, fault_shapes, fault_shaped, unreached_shaped, past, a_rule, count_of, pieces, bad_from, bad_behind, bad_first, bad_line, parting, refused_or, compared}
use Rattle.compare.specs.Places.{shape_of, shapes_of, shapes_of_lines, place_told, field_place, behind_place, line_place, header_told, line_found}
use Rattle.paper.specs.declared.Compared.{Compared}
use Rattle.paper.specs.declared.Compared.TheVariants.{Malformed}
use Rattle.paper.specs.declared.Side.TheVariants.{First, Second}
use Rattle.compare.specs.Pieces.{pieces_none, pieces_some, not_empty}

-- what a place tells

abbrev Tells : ℕ → Bool → read.Option ℕ → Type 0
Tells n good None = good ≡ false
Tells n good (Some place) = (good ≡ true) × (place ≡ n)

tells : (n : ℕ) (good : Bool) → Tells n good (place_told n good)
unfolding place_told
tells n true = (refl, refl)
tells n false = refl

told_at : (n : ℕ) (good : Bool) {place : ℕ} → Some place ≡ place_told n good → (good ≡ true) × (place ≡ n)
told_at n good e = rw (sym e) at (tells n good)

told_none : (n : ℕ) (good : Bool) → None ≡ place_told n good → good ≡ false
told_none n good e = rw (sym e) at (tells n good)

place_bad : (n : ℕ) {good : Bool} → good ≡ false → None ≡ place_told n good
unfolding place_told
place_bad n e = rw e

pub same_place : (s : Bytes) (at : ℕ) {a b : Field.Shape} → a ≡ b → field_place (shape_of a) s at ≡ field_place (shape_of b) s at
same_place s at e = ap (λ x. field_place (shape_of x) s at) e

pub letter_r_inner : ends_field 114 ≡ false
unfolding ends_field
letter_r_inner = refl

pub letter_s_inner : ends_field 115 ≡ false
unfolding ends_field
letter_s_inner = refl

-- a field behind a tab

module _ (shape : Shape) (s : Bytes) (at : ℕ) where
  pub behind_none : (get_or s at 0 ≡ tab → ⊥) → None ≡ behind_place shape s at
  unfolding behind_place place_told
  behind_none d = rw (ne_eqb (get_or s at 0) tab d)

  pub behind_tab : {next : ℕ} → next ≡ at + 1 → get_or s at 0 ≡ tab → {p : read.Option ℕ} → p ≡ field_place shape s next → p ≡ behind_place shape s at
  unfolding behind_place field_place
  behind_tab is e q = rw is at q ∙ rw (eq-eqb (get_or s at 0) tab e)

-- a rule's name is one of two texts

module _ (s : Bytes) (at : ℕ) where
  abbrev old : Bytes
  old = 111 ∷ 108 ∷ 100 ∷ []

  abbrev house : Bytes
  house = 104 ∷ 111 ∷ 117 ∷ 115 ∷ 101 ∷ []

  pub old_place : {place : ℕ} → Some place ≡ field_place (same_text old) s at → Some place ≡ field_place a_rule s at
  unfolding field_place a_rule rule_text place_told
  old_place e = let t = told_at (field_end s at) (same_text old (field_at s at)) e in rw (t.0, t.1)

  pub house_place : None ≡ field_place (same_text old) s at → {p : read.Option ℕ} → p ≡ field_place (same_text house) s at → p ≡ field_place a_rule s at
  unfolding field_place a_rule rule_text
  house_place e q = q ∙ rw (told_none (field_end s at) (same_text old (field_at s at)) e)

-- where the line ends, from a place where a field does

unfoldable pub end_behind : Bytes → ℕ → ℕ
end_behind s next = cond (eqb (get_or s next 0) tab) (line_end s (next + 1)) next

end_field : (s : Bytes) (at : ℕ) → end_behind s (field_end s at) ≡ line_end s at
unfolding end_behind
end_field s at =
    by_test (eqb (get_or s (field_end s at) 0) tab)
    (λ e. rw e (sym (line_end_tab s at (eqb-true (get_or s (field_end s at) 0) tab e))))
    λ e. rw e (sym (line_end_none s at (eqb-false (get_or s (field_end s at) 0) tab e)))

end_tab : (s : Bytes) (next : ℕ) → get_or s next 0 ≡ tab → end_behind s next ≡ line_end s (next + 1)
unfolding end_behind
end_tab s next e = rw (eq-eqb (get_or s next 0) tab e)

end_none : (s : Bytes) (next : ℕ) → (get_or s next 0 ≡ tab → ⊥) → end_behind s next ≡ next
unfolding end_behind
end_none s next d = rw (ne_eqb (get_or s next 0) tab d)

-- the fields behind a tab, the first of them apart
tab_fields : (s : Bytes) (next : ℕ) → get_or s next 0 ≡ tab → fields_behind s next ≡ field_at s (next + 1) ∷ fields_behind s (field_end s (next + 1))
tab_fields s next e = fields_behind_tab s next e ∙ fields_at s (next + 1)

-- a field of a shape behind a place, and none
module _ (shape : Shape) (s : Bytes) (at : ℕ) where
  behind_told : {place : ℕ} → Some place ≡ behind_place shape s at → (get_or s at 0 ≡ tab) × (shape (field_at s (at + 1)) ≡ true) × (place ≡ field_end s (at + 1))
  unfolding behind_place
  behind_told e =
      let t = told_at (field_end s (at + 1)) (eqb (get_or s at 0) tab && shape (field_at s (at + 1))) e in
      (eqb-true (get_or s at 0) tab (and_left _ _ t.0), and_right (eqb (get_or s at 0) tab) (shape (field_at s (at + 1))) t.0, t.1)

  behind_untold : None ≡ behind_place shape s at → (eqb (get_or s at 0) tab && shape (field_at s (at + 1))) ≡ false
  unfolding behind_place
  behind_untold e = told_none (field_end s (at + 1)) (eqb (get_or s at 0) tab && shape (field_at s (at + 1))) e

-- a line's shapes, field by field

pub record Lining (s : Bytes) (at : ℕ) (shapes : List Field.Shape) (i place : ℕ) : Type 0 where
  pub inside : i ≤ length shapes
  pub within : place ≤ length s
  pub further : at ≤ place
  pub left : fits (shapes_of shapes) (fields (line_at s at)) ≡ fits (shapes_of (drop i shapes)) (fields_behind s place)
  pub closes : end_behind s place ≡ line_end s at

pub line_misfit : (s : Bytes) (at : ℕ) (shapes : List Field.Shape) → 0 < length shapes → None ≡ field_place (shape_of (get_or shapes 0 Number)) s at
    → None ≡ line_place (fits (shapes_of shapes) (fields (line_at s at))) s at
unfolding fits field_place line_place
line_misfit s at [] h e = absurd (omega arith)
line_misfit s at (c ∷ cs) h e =
    place_bad (line_end s at) (rw (fields_at s at, told_none (field_end s at) (shape_of c (field_at s at)) e))

pub lining_first : (s : Bytes) (at : ℕ) (shapes : List Field.Shape) {place : ℕ} → 0 < length shapes → at ≤ place → place ≤ length s
    → Some place ≡ field_place (shape_of (get_or shapes 0 Number)) s at → Lining s at shapes 1 place
unfolding fits field_place
lining_first s at [] h a b e = absurd (omega arith)
lining_first s at (c ∷ cs) h a b e =
    let t = told_at (field_end s at) (shape_of c (field_at s at)) e in
    record { inside = omega arith; within = b; further = a; left = rw (fields_at s at, t.0, t.1); closes = rw t.1 (end_field s at) }

module _ {s : Bytes} {at : ℕ} {shapes : List Field.Shape} {i place : ℕ} (w : Lining s at shapes i place) where
  module _ (m : i < length shapes) where
    pub lining_bad : None ≡ behind_place (shape_of (get_or shapes i Number)) s place → None ≡ line_place (fits (shapes_of shapes) (fields (line_at s at))) s at
    unfolding line_place fits
    lining_bad e =
        let x : Shape = shape_of (get_or shapes i Number) in
        let f : (eqb (get_or s place 0) tab && x (field_at s (place + 1))) ≡ false = behind_untold x s place e in
        place_bad (line_end s at)
        (rw (w.left, drop-cons shapes i Number m)
        (by_test (eqb (get_or s place 0) tab)
        (λ y. rw (tab_fields s place (eqb-true (get_or s place 0) tab y), rw y at f))
        λ y. rw (fields_behind_none s place (eqb-false (get_or s place 0) tab y))))

    pub lining_more : {further : ℕ} → place ≤ further → further ≤ length s → Some further ≡ behind_place (shape_of (get_or shapes i Number)) s place → Lining s at shapes (i + 1) further
    unfolding fits
    lining_more a b e =
        let t = behind_told (shape_of (get_or shapes i Number)) s place e in record {
          inside = omega arith;
          within = b;
          further = omega (arith, w.further);
          left = w.left ∙ rw (drop-cons shapes i Number m, tab_fields s place t.0, t.1, t.2, add-one i);
          closes = rw t.2 (end_field s (place + 1)) ∙ sym (end_tab s place t.0) ∙ w.closes;
        }

  module _ (m : length shapes ≤ i) where
    pub line_closed : get_or s place 0 ≡ line_feed → Some place ≡ line_place (fits (shapes_of shapes) (fields (line_at s at))) s at
    unfolding fits line_place place_told empty
    line_closed e =
        let d : get_or s place 0 ≡ tab → ⊥ = λ q. omega arith in
        let z : line_end s at ≡ place = sym w.closes ∙ end_none s place d in
        rw (w.left, drop_of_length-le shapes m, fields_behind_none s place d, z, e)

    pub line_open : (get_or s place 0 ≡ line_feed → ⊥) → None ≡ line_place (fits (shapes_of shapes) (fields (line_at s at))) s at
    unfolding fits line_place empty
    line_open d =
        place_bad (line_end s at)
        (by_test (eqb (get_or s place 0) tab)
        (λ y. rw (w.left, drop_of_length-le shapes m, tab_fields s place (eqb-true (get_or s place 0) tab y)))
        λ y.
        let n : get_or s place 0 ≡ tab → ⊥ = eqb-false (get_or s place 0) tab y in
        let z : line_end s at ≡ place = sym w.closes ∙ end_none s place n in
        rw (z, ne_eqb (get_or s place 0) line_feed d, and-false))

-- one of the lines' shapes

abbrev fits_row : Bytes → ℕ → List Field.Shape → Bool
fits_row s at shapes = fits (shapes_of shapes) (fields (line_at s at))

unfoldable pub any_row : Bytes → ℕ → List (List Field.Shape) → Bool
any_row s at [] = false
any_row s at (shapes ∷ rows) = fits_row s at shapes || any_row s at rows

all_rows : (s : Bytes) (at : ℕ) → any_row s at shapes_of_lines ≡ fault_shaped (line_at s at)
unfolding any_row shapes_of_lines fault_shaped any fault_shapes fault_shape shape_of digits digit_from
all_rows s at = refl

-- the rows from k on decide
pub record Rowing (s : Bytes) (at k : ℕ) : Type 0 where
  pub few : k ≤ 7
  pub left : line_place (fault_shaped (line_at s at)) s at ≡ line_place (any_row s at (drop k shapes_of_lines)) s at

pub rowing_first : (s : Bytes) (at : ℕ) → Rowing s at 0
rowing_first s at = record { few = omega arith; left = ap (λ (good : Bool). line_place good s at) (sym (all_rows s at)) }

seven : length shapes_of_lines ≡ 7
unfolding shapes_of_lines
seven = refl

pub eight : (k : ℕ) → k < 7 → length (get_or shapes_of_lines k []) ≡ 8
unfolding shapes_of_lines
eight zero h = refl
eight (suc zero) h = refl
eight (suc (suc zero)) h = refl
eight (suc (suc (suc zero))) h = refl
eight (suc (suc (suc (suc zero)))) h = refl
eight (suc (suc (suc (suc (suc zero))))) h = refl
eight (suc (suc (suc (suc (suc (suc zero)))))) h = refl
eight (suc (suc (suc (suc (suc (suc (suc k))))))) h = absurd (omega arith)

skipped : (x y feed : Bool) → (x && feed) ≡ false → ((x || y) && feed) ≡ (y && feed)
skipped true y feed e = e ∙ sym (rw (the_feed feed e) (and-false y))
  where
    the_feed : (feed : Bool) → (true && feed) ≡ false → feed ≡ false
    the_feed feed e = e
skipped false y feed e = refl

taken : (x y feed : Bool) → (x && feed) ≡ true → ((x || y) && feed) ≡ true
taken true y feed e = e
taken false y feed e = absurd (true≢false (sym e))

module _ {s : Bytes} {at k : ℕ} (w : Rowing s at k) where
  module _ (h : k < 7) where
    here : drop k shapes_of_lines ≡ get_or shapes_of_lines k [] ∷ drop (suc k) shapes_of_lines
    here = drop-cons shapes_of_lines k [] (omega (arith, seven))

    pub row_good : {place : ℕ} → Some place ≡ line_place (fits_row s at (get_or shapes_of_lines k [])) s at
        → Some place ≡ line_place (fault_shaped (line_at s at)) s at
    unfolding line_place place_told any_row
    row_good e =
        let feed : Bool = eqb (get_or s (line_end s at) 0) line_feed in
        let t = told_at (line_end s at) (fits_row s at (get_or shapes_of_lines k []) && feed) e in
        rw (w.left, here, taken (fits_row s at (get_or shapes_of_lines k [])) (any_row s at (drop (suc k) shapes_of_lines)) feed t.0, t.1)

    pub row_bad : None ≡ line_place (fits_row s at (get_or shapes_of_lines k [])) s at → Rowing s at (k + 1)
    unfolding line_place any_row
    row_bad e =
        let feed : Bool = eqb (get_or s (line_end s at) 0) line_feed in
        let t = told_none (line_end s at) (fits_row s at (get_or shapes_of_lines k []) && feed) e in
        record { few = omega arith; left = w.left ∙ rw (here, skipped (fits_row s at (get_or shapes_of_lines k [])) (any_row s at (drop (suc k) shapes_of_lines)) feed t, add-one k) }

  pub no_row : 7 ≤ k → None ≡ line_place (fault_shaped (line_at s at)) s at
  unfolding line_place place_told any_row
  no_row h =
      let all : length shapes_of_lines ≤ k = omega (arith, seven) in
      rw (w.left, drop_of_length-le shapes_of_lines all)

-- the line of an unreached block
pub unreached_shapes : (s : Bytes) (at : ℕ) → fits (shapes_of (Byte 78 ∷ Number ∷ [])) (fields (line_at s at)) ≡ unreached_shaped (line_at s at)
unfolding unreached_shaped shape_of
unreached_shapes s at = refl

-- the header, field by field: from each place on the rest of it is read by f

abbrev pub from_count : List Bytes → Option ℕ
from_count fs = next number_of fs >>= λ count. ended count.rest count.value

abbrev pub from_rule : List Bytes → Option ℕ
from_rule fs = past a_rule fs >>= from_count

pub record Heading (s : Bytes) (f : List Bytes → Option ℕ) (place : ℕ) : Type 0 where
  pub left : count_of (fields (line_at s 0)) ≡ f (fields_behind s place)
  pub closes : end_behind s place ≡ line_end s 0

header_none : (s : Bytes) → count_of (fields (line_at s 0)) ≡ none → None ≡ header_told s
unfolding header_told number_told
header_none s e = by_test (eqb (get_or s (line_end s 0) 0) line_feed) (λ y. rw (y, e)) λ y. rw y

module _ (s : Bytes) where
  pub letter_none : None ≡ field_place (same_text (letter_R ∷ [])) s 0 → None ≡ header_told s
  unfolding count_of past field_place
  letter_none e = header_none s (rw (fields_at s 0, told_none (field_end s 0) (same_text (letter_R ∷ []) (field_at s 0)) e))

  pub letter_there : {place : ℕ} → Some place ≡ field_place (same_text (letter_R ∷ [])) s 0 → Heading s from_rule place
  unfolding count_of past field_place
  letter_there e =
      let t = told_at (field_end s 0) (same_text (letter_R ∷ []) (field_at s 0)) e in
      record { left = rw (fields_at s 0, t.0, t.1); closes = rw t.1 (end_field s 0) }

  module _ {place : ℕ} (w : Heading s from_rule place) where
    pub rule_none : None ≡ behind_place a_rule s place → None ≡ header_told s
    unfolding past
    rule_none e =
        let f : (eqb (get_or s place 0) tab && a_rule (field_at s (place + 1))) ≡ false = behind_untold a_rule s place e in
        header_none s
        (w.left ∙ by_test (eqb (get_or s place 0) tab)
        (λ y. rw (tab_fields s place (eqb-true (get_or s place 0) tab y), rw y at f))
        λ y. rw (fields_behind_none s place (eqb-false (get_or s place 0) tab y)))

    pub rule_there : {further : ℕ} → Some further ≡ behind_place a_rule s place → Heading s from_count further
    unfolding past
    rule_there e =
        let t = behind_told a_rule s place e in record {
          left = w.left ∙ rw (tab_fields s place t.0, t.1, t.2);
          closes = rw t.2 (end_field s (place + 1)) ∙ sym (end_tab s place t.0) ∙ w.closes;
        }

  module _ {place : ℕ} (w : Heading s from_count place) where
    pub no_count : (get_or s place 0 ≡ tab → ⊥) → None ≡ header_told s
    unfolding next
    no_count d = header_none s (w.left ∙ rw (fields_behind_none s place d))

    module _ {start : ℕ} (is : start ≡ place + 1) (t : get_or s place 0 ≡ tab) where
      pub count_none : number_at s start ≡ None → None ≡ header_told s
      count_none e = header_none s (w.left ∙ rw (fields_behind_tab s place t, ← is, next_refused (number_refused e)))

      module _ {v after : ℕ} (told : number_at s start ≡ Some (v, after)) where
        e : number_at s (place + 1) ≡ Some (v, after)
        e = rw is at told

        counted : count_of (fields (line_at s 0)) ≡ ended (fields_behind s after) v
        counted = w.left ∙ rw (fields_behind_tab s place t, next_says (number_says e))

        count_closes : end_behind s after ≡ line_end s 0
        count_closes = rw (number_says e).place (end_field s (place + 1)) ∙ sym (end_tab s place t) ∙ w.closes

        pub header_good : get_or s after 0 ≡ line_feed → Some (v, after) ≡ header_told s
        unfolding header_told number_told ended
        header_good q =
            let d : get_or s after 0 ≡ tab → ⊥ = λ z. omega arith in
            let z : line_end s 0 ≡ after = sym count_closes ∙ end_none s after d in
            rw (counted, fields_behind_none s after d, z, q)

        pub header_open : (get_or s after 0 ≡ line_feed → ⊥) → None ≡ header_told s
        unfolding header_told number_told ended
        header_open d =
            by_test (eqb (get_or s after 0) tab)
            (λ y. header_none s (counted ∙ rw (tab_fields s after (eqb-true (get_or s after 0) tab y))))
            λ y.
            let n : get_or s after 0 ≡ tab → ⊥ = eqb-false (get_or s after 0) tab y in
            let z : line_end s 0 ≡ after = sym count_closes ∙ end_none s after n in
            rw (z, ne_eqb (get_or s after 0) line_feed d)

-- the report, line by line

pieces_of : (l : Bytes) → pieces l ≡ until ends_line l ∷ cond (eqb (get_or l (length (until ends_line l)) 0) line_feed) (pieces (drop (suc (length (until ends_line l))) l)) []
unfolding pieces parts until ends_line onto_first
pieces_of [] = refl
pieces_of (b ∷ bs) = by_test (eqb b line_feed) (λ y. rw (y, y)) λ y. rw (y, pieces_of bs)

module _ (s : Bytes) (at : ℕ) where
  abbrev feed : Bool
  feed = eqb (get_or s (line_end s at) 0) line_feed

  pieces_at : pieces (drop at s) ≡ line_at s at ∷ cond feed (pieces (drop (line_end s at + 1) s)) []
  unfolding line_at line_end
  pieces_at =
      let n : ℕ = length (until ends_line (drop at s)) in
      pieces_of (drop at s) ∙ rw (get_or-drop at s n 0, drop-drop (suc n) at s, add-suc at n, add-one (at + n))

  -- where no LF closes it, a line inside the text is not empty
  line_some : at < length s → feed ≡ false → empty (line_at s at) ≡ false
  unfolding line_at line_end until ends_line empty
  line_some h f =
      by_test (eqb (get_or s at 0) line_feed)
      (λ y. absurd (true≢false (sym y ∙ shorter y)))
      λ y. rw (drop-cons s at 0 h, y)
    where
      shorter : eqb (get_or s at 0) line_feed ≡ true → eqb (get_or s at 0) line_feed ≡ false
      shorter y = rw (drop-cons s at 0 h, y, add-zero at) at f

shape_bad : (x y : Bool) → (x && y) ≡ false → y ≡ true → x ≡ false
shape_bad true y e q = sym q ∙ e
shape_bad false y e q = refl

-- the lines from `at` on decide, behind so many faults
pub record Judging (s : Bytes) (count faults line at : ℕ) : Type 0 where
  pub within : at ≤ length s
  pub some_line : 0 < line
  pub few : line ≤ at + 1
  pub fewer : faults ≤ at
  pub left : bad_line s ≡ bad_from count faults line (pieces (drop at s))

abbrev HeaderTells : Bytes → read.Option (ℕ × ℕ) → Type 0
HeaderTells s None = cond (feed s 0) (count_of (fields (line_at s 0))) none ≡ none
HeaderTells s (Some x) = (cond (feed s 0) (count_of (fields (line_at s 0))) none ≡ some x.0) × (x.1 ≡ line_end s 0)

header_tells : (s : Bytes) → HeaderTells s (header_told s)
unfolding header_told number_told
header_tells s = go (cond (feed s 0) (count_of (fields (line_at s 0))) none) refl
  where
    go : (o : Option ℕ) → cond (feed s 0) (count_of (fields (line_at s 0))) none ≡ o → HeaderTells s (number_told (line_end s 0) o)
    go none p = p
    go (some count) p = (p, refl)

module _ (s : Bytes) where
  whole : bad_line s ≡ bad_first (line_at s 0 ∷ cond (feed s 0) (pieces (drop (line_end s 0 + 1) s)) [])
  unfolding bad_line
  whole = ap bad_first (pieces_at s 0)

  pub header_refused : None ≡ header_told s → 1 ≡ bad_line s
  unfolding bad_first bad_behind empty
  header_refused e =
      let t : cond (feed s 0) (count_of (fields (line_at s 0))) none ≡ none = rw (sym e) at (header_tells s) in
      by_test (feed s 0)
      (λ y. rw (whole, y, not_empty (pieces (drop (line_end s 0 + 1) s)) (pieces_some (drop (line_end s 0 + 1) s)), rw y at t))
      λ y. rw (whole, y)

  pub judging_first : {count place : ℕ} → place < length s → Some (count, place) ≡ header_told s → Judging s count 0 2 (place + 1)
  unfolding bad_first bad_behind
  judging_first {count} {place} h e =
      let t : (cond (feed s 0) (count_of (fields (line_at s 0))) none ≡ some count) × (place ≡ line_end s 0) = rw (sym e) at (header_tells s) in
      by_test (feed s 0)
      (λ y. record {
        within = omega arith;
        some_line = omega arith;
        few = omega arith;
        fewer = omega arith;
        left = rw (whole, y, not_empty (pieces (drop (line_end s 0 + 1) s)) (pieces_some (drop (line_end s 0 + 1) s)), rw y at t.0, t.1);
      })
      λ y. absurd (let z : ◌≡◌ {A = ℕ} 0 1 = cc (rw y at t.0) in omega arith)

module _ {s : Bytes} {count faults line at : ℕ} (w : Judging s count faults line at) where
  module _ (h : at < length s) where
    abbrev is_fault : Bool
    is_fault = fault_shaped (line_at s at)

    abbrev is_unreached : Bool
    is_unreached = unreached_shaped (line_at s at)

    -- there are lines behind one that LF closes
    later : empty (pieces (drop (line_end s at + 1) s)) ≡ false
    later = not_empty (pieces (drop (line_end s at + 1) s)) (pieces_some (drop (line_end s at + 1) s))

    pub fault_good : {place : ℕ} → at ≤ place → place < length s → Some place ≡ line_place is_fault s at → Judging s count (faults + 1) (line + 1) (place + 1)
    unfolding bad_from line_place
    fault_good {place} a b e =
        let t = told_at (line_end s at) (is_fault && feed s at) e in
        let y : feed s at ≡ true = and_right is_fault (feed s at) t.0 in
        let x : is_fault ≡ true = and_left _ _ t.0 in
        record {
          within = omega arith;
          some_line = omega arith;
          few = omega (arith, w.few);
          fewer = omega (arith, w.fewer);
          left = w.left ∙ rw (pieces_at s at, y, later, x, t.1, add-one line, add-one faults);
        }

    module _ (no_fault : None ≡ line_place is_fault s at) where
      not_closed : (is_fault && feed s at) ≡ false
      unfolding line_place
      not_closed = told_none (line_end s at) (is_fault && feed s at) no_fault

      pub line_bad : None ≡ line_place is_unreached s at → line ≡ bad_line s
      unfolding bad_from line_place empty
      line_bad e =
          let t : (is_unreached && feed s at) ≡ false = told_none (line_end s at) (is_unreached && feed s at) e in
          by_test (feed s at)
          (λ y. rw (w.left, pieces_at s at, y, later, shape_bad is_fault (feed s at) not_closed y, shape_bad is_unreached (feed s at) t y))
          λ y. rw (w.left, pieces_at s at, y, line_some s at h y)

      pub unreached_good : {place : ℕ} → at ≤ place → place < length s → Some place ≡ line_place is_unreached s at → Judging s count faults (line + 1) (place + 1)
      unfolding bad_from line_place
      unreached_good {place} a b e =
          let t = told_at (line_end s at) (is_unreached && feed s at) e in
          let y : feed s at ≡ true = and_right is_unreached (feed s at) t.0 in
          let x : is_unreached ≡ true = and_left _ _ t.0 in
          record {
            within = omega arith;
            some_line = omega arith;
            few = omega (arith, w.few);
            fewer = omega (arith, w.fewer);
            left = w.left ∙ rw (pieces_at s at, y, later, shape_bad is_fault (feed s at) not_closed y, x, t.1, add-one line);
          }

  module _ (h : length s ≤ at) where
    over : pieces (drop at s) ≡ [] ∷ []
    over = rw (drop_of_length-le s h) pieces_none

    pub count_right : count ≡ faults → 0 ≡ bad_line s
    unfolding bad_from empty
    count_right e = rw (w.left, over, eq-eqb count faults e)

    pub count_wrong : (count ≡ faults → ⊥) → 1 ≡ bad_line s
    unfolding bad_from empty
    count_wrong d = rw (w.left, over, ne_eqb count faults d)

-- a line's number, where there is one

pub found_line : (n : ℕ) → 0 < n → Some n ≡ line_found n
found_line zero h = absurd (omega arith)
found_line (suc n) h = refl

pub line_is : (n : ℕ) {line : ℕ} → Some line ≡ line_found n → (line ≡ n) × (line ≡ 0 → ⊥)
line_is zero e = absurd (let z : ◌≡◌ {A = ℕ} 0 1 = cc e in omega arith)
line_is (suc n) {line} e = let q : line ≡ suc n = cc e in (q, λ z. omega (arith, q, z))

pub line_none : (n : ℕ) → None ≡ line_found n → n ≡ 0
line_none zero e = refl
line_none (suc n) e = absurd (let z : ◌≡◌ {A = ℕ} 0 1 = cc e in omega arith)

-- two reports

module _ (first second : Bytes) where
  pub first_bad : {bad : ℕ} → bad ≡ bad_line first → (bad ≡ 0 → ⊥) → Malformed First bad ≡ compared first second
  unfolding compared refused_or
  first_bad e d = rw (← e, ne_eqb _ 0 d)

  module _ {bad : ℕ} (good : bad ≡ bad_line first) (zero : bad ≡ 0) where
    pub second_bad : {worse : ℕ} → worse ≡ bad_line second → (worse ≡ 0 → ⊥) → Malformed Second worse ≡ compared first second
    unfolding compared refused_or
    second_bad e d = rw (← good, zero, ← e, ne_eqb _ 0 d)

    pub both_good : {worse : ℕ} → worse ≡ bad_line second → worse ≡ 0 → {r : Compared} → r ≡ parting 1 0 (pieces first) (pieces second) → r ≡ compared first second
    unfolding compared refused_or
    both_good e z q = rw (← good, zero, ← e, z) q
