-- How the lines of a text and the fields of a line unroll at a place: what turns a walk from field to field, and from line to
-- line, into `lines` and `fields`.
use Rattle.std.specs.Prelude.{◌≡◌, refl, Bool, true, false, cond, eqb, get_or, drop}
use Rattle.std.proofs.Common.{sym, ap, ◌∙◌, true≢false, add-suc, add-zero, not-suc-le-zero, add-one, eq-eqb, ne_eqb, eqb-true, drop_of_length-le, drop-drop, get_or-drop}
use mathlib.Core.List.{[], ◌∷◌, ◌++◌}
use Prim.Native.Nat.{ℕ, suc, ◌+◌, ◌≤◌, ◌<◌}
use native.Mathlib.Omega.{arith}
use Rattle.std.proofs.Math.ListN.{length, length-append, length-drop}
use Rattle.std.proofs.Math.Seq.{drop-cons}
use Rattle.lists.specs.Split.{by_test}
use Rattle.paper.specs.Text.{Bytes, tab, line_feed, onto_first, parts, lines, fields}
use Rattle.fields.specs.Fields.{until, ends_line, ends_field, line_at, field_at, line_end, field_end, fields_behind}

-- the bytes before a stop

module _ (stops : ℕ → Bool) where
  until_short : (l : Bytes) → length (until stops l) ≤ length l
  unfolding until
  until_short [] = omega arith
  until_short (b ∷ bs) = by_test (stops b) (λ e. rw e (omega arith)) λ e. rw e (omega (arith, until_short bs))

  -- a stop follows, if anything does
  until_stopped : (l : Bytes) → length (until stops l) < length l → stops (get_or l (length (until stops l)) 0) ≡ true
  unfolding until
  until_stopped [] h = absurd (not-suc-le-zero h)
  until_stopped (b ∷ bs) h = by_test (stops b) (λ e. rw e e) λ e. rw e (let k = rw e at h in until_stopped bs (omega arith))

  module _ (s : Bytes) (i : ℕ) where
    until_past : length s ≤ i → until stops (drop i s) ≡ []
    unfolding until
    until_past h = rw (drop_of_length-le s h)

    module _ (h : i < length s) where
      until_stop : stops (get_or s i 0) ≡ true → until stops (drop i s) ≡ []
      unfolding until
      until_stop e = rw (drop-cons s i 0 h, e)

      pub until_more : stops (get_or s i 0) ≡ false → until stops (drop i s) ≡ get_or s i 0 ∷ until stops (drop (i + 1) s)
      unfolding until
      until_more e = rw (add-one i, drop-cons s i 0 h, e)

-- a field byte by byte

module _ (s : Bytes) (i : ℕ) where
  pub field_past : length s ≤ i → field_at s i ≡ []
  unfolding field_at
  field_past h = until_past ends_field s i h

  pub field_stop : i < length s → ends_field (get_or s i 0) ≡ true → field_at s i ≡ []
  unfolding field_at
  field_stop h e = until_stop ends_field s i h e

  pub field_more : i < length s → ends_field (get_or s i 0) ≡ false → field_at s i ≡ get_or s i 0 ∷ field_at s (i + 1)
  unfolding field_at
  field_more h e = until_more ends_field s i h e

  pub field_end_more : i < length s → ends_field (get_or s i 0) ≡ false → field_end s i ≡ field_end s (i + 1)
  unfolding field_end
  field_end_more h e = rw (field_more h e) (omega arith)

  pub field_end_none : field_at s i ≡ [] → field_end s i ≡ i
  unfolding field_end
  field_end_none e = rw (e, add-zero)

  pub field_end_inside : i ≤ length s → field_end s i ≤ length s
  unfolding field_end field_at
  field_end_inside h = omega (arith, until_short ends_field (drop i s), length-drop i s)

  -- a field is closed by a tab, by a line feed, or by the end of the text
  pub field_ended : field_end s i < length s → ends_field (get_or s (field_end s i) 0) ≡ true
  unfolding field_end field_at
  field_ended h =
      let n : ℕ = length (until ends_field (drop i s)) in
      rw (get_or-drop i s n 0) at (until_stopped ends_field (drop i s) (omega (arith, length-drop i s)))

-- a line field by field

-- the same for a list that starts with the line
fields_of : (l : Bytes) → fields (until ends_line l)
    ≡ until ends_field l ∷ cond (eqb (get_or l (length (until ends_field l)) 0) tab) (fields (until ends_line (drop (suc (length (until ends_field l))) l))) []
unfolding until ends_line ends_field fields parts onto_first
fields_of [] = refl
fields_of (b ∷ bs) =
    by_test (eqb b line_feed)
    (λ y. rw (y, eqb-true b line_feed y))
    λ y. by_test (eqb b tab)
    (λ x. rw (y, x, x))
    λ x. rw (y, x, fields_of bs)

line_of_tab : (l : Bytes) → eqb (get_or l (length (until ends_field l)) 0) tab ≡ true
    → until ends_line l ≡ until ends_field l ++ tab ∷ until ends_line (drop (suc (length (until ends_field l))) l)
unfolding until ends_line ends_field
line_of_tab [] e = absurd (let z : ◌≡◌ {A = ℕ} 0 1 = cc in omega arith)
line_of_tab (b ∷ bs) e =
    by_test (eqb b line_feed)
    (λ y. absurd (let q : b ≡ 10 = eqb-true b 10 y in true≢false (sym (rw q at e))))
    λ y. by_test (eqb b tab)
    (λ x. rw (y, x, eqb-true b 9 x))
    λ x. rw (y, x) (ap (λ (t : Bytes). b ∷ t) (line_of_tab bs (rw (y, x) at e)))

line_of_none : (l : Bytes) → eqb (get_or l (length (until ends_field l)) 0) tab ≡ false → until ends_line l ≡ until ends_field l
unfolding until ends_line ends_field
line_of_none [] e = refl
line_of_none (b ∷ bs) e =
    by_test (eqb b line_feed)
    (λ y. rw (y, eqb-true b line_feed y))
    λ y. by_test (eqb b tab)
    (λ x. absurd (true≢false (rw (x, x) at e)))
    λ x. rw (y, x) (ap (λ (t : Bytes). b ∷ t) (line_of_none bs (rw (y, x) at e)))

module _ (s : Bytes) (at : ℕ) where
  -- the byte behind the field, and what stands behind that
  behind : (n : ℕ) → drop (suc n) (drop at s) ≡ drop (at + n + 1) s
  behind n = rw (drop-drop, add-one, add-suc)

  -- the first field of the line and those behind it
  pub fields_at : fields (line_at s at) ≡ field_at s at ∷ fields_behind s (field_end s at)
  unfolding line_at field_at fields_behind field_end
  fields_at =
      let n : ℕ = length (until ends_field (drop at s)) in
      fields_of (drop at s) ∙ rw (get_or-drop at s n 0, behind n)

  -- behind a tab, the fields of the rest of the line; none anywhere else
  pub fields_behind_tab : get_or s at 0 ≡ tab → fields_behind s at ≡ fields (line_at s (at + 1))
  unfolding fields_behind
  fields_behind_tab e = rw (eq-eqb _ _ e)

  pub fields_behind_none : (get_or s at 0 ≡ tab → ⊥) → fields_behind s at ≡ []
  unfolding fields_behind
  fields_behind_none e = rw (ne_eqb _ _ e)

  -- where the line ends: behind the rest of the line where a tab closes the field, else where the field ends
  pub line_end_tab : get_or s (field_end s at) 0 ≡ tab → line_end s at ≡ line_end s (field_end s at + 1)
  unfolding line_end line_at field_end field_at
  line_end_tab e =
      let n : ℕ = length (until ends_field (drop at s)) in
      rw (line_of_tab (drop at s) (rw (get_or-drop at s n 0) (eq-eqb _ _ e)), length-append, behind n) (omega arith)

  pub line_end_none : (get_or s (field_end s at) 0 ≡ tab → ⊥) → line_end s at ≡ field_end s at
  unfolding line_end line_at field_end field_at
  line_end_none e =
      let n : ℕ = length (until ends_field (drop at s)) in
      rw (line_of_none (drop at s) (rw (get_or-drop at s n 0) (ne_eqb _ _ e)))

-- a text line by line

lines_none : lines [] ≡ []
unfolding lines parts
lines_none = refl

lines_of : (l : Bytes) → 0 < length l → lines l ≡ until ends_line l ∷ lines (drop (suc (length (until ends_line l))) l)
unfolding until ends_line lines parts onto_first
lines_of [] h = absurd (not-suc-le-zero h)
lines_of (b ∷ []) h = by_test (eqb b line_feed) (λ e. rw e) λ e. rw e
lines_of (b ∷ c ∷ bs) h = by_test (eqb b line_feed) (λ e. rw e) λ e. rw (e, lines_of (c ∷ bs) (omega arith))

module _ (s : Bytes) (at : ℕ) where
  pub lines_past : length s ≤ at → lines (drop at s) ≡ []
  lines_past h = rw (drop_of_length-le s h) lines_none

  -- the first line and those behind it
  pub lines_at : at < length s → lines (drop at s) ≡ line_at s at ∷ lines (drop (line_end s at + 1) s)
  unfolding line_at line_end
  lines_at h = lines_of (drop at s) (omega (arith, length-drop at s)) ∙ rw (behind s at (length (until ends_line (drop at s))))
