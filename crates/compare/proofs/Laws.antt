-- What the tests of a field, a line and a report decide.
use mathlib.Core.Path.{◌≡◌, refl, sym, ◌∙◌}
use Rattle.std.specs.Prelude as read
use Rattle.std.specs.Prelude.{Some, None, is_some}
use mathlib.Core.Bool.{true, false, and-false}
use mathlib.Core.List.{[], ◌∷◌}
use Prim.Native.Nat.{ℕ, ◌+◌, ◌≤◌, ◌<◌}
use native.Mathlib.Numerals.{add-one}
use native.Mathlib.Omega.{arith}
use borrow.Author.Tests.{eq-eqb, ne_eqb}
use lib.ListN.{length, get_or, drop, length-drop, drop_of_length-le}
use lib.Seq.{drop-cons}
use Rattle.lists.specs.Split.{by_test}
use Rattle.paper.specs.Text.{Bytes, tab, line_feed}
use Rattle.fields.specs.Fields.{ends_field, field_at, field_end, number_at, name_at, EndWithin}
use Rattle.fields.specs.Cursor.{field_past, field_stop, field_more, field_end_more, field_end_none}
use Rattle.fields.specs.Told.{number_says, number_refused, name_says, name_refused}
use Rattle.fields.specs.declared.End as End
use Rattle.fields.specs.declared.End.TheVariants as end
use Rattle.fields.specs.declared.Name as Read
use Rattle.paper.specs.Comparison.{Shape, given, same_text, a_number, a_name, lettered}
use Rattle.compare.specs.Places.{place_told, field_place}

-- a byte that is neither a tab nor a line feed ends no field
pub inner : (b : ℕ) → (b ≡ tab → ⊥) → (b ≡ line_feed → ⊥) → ends_field b ≡ false
unfolding ends_field
inner b t f = rw (ne_eqb b tab t, ne_eqb b line_feed f)

-- where something ends a field, and where nothing does
pub stopped : (s : Bytes) (at : ℕ) (e : read.Option End.End) → EndWithin s at e → is_some e ≡ true → (at < length s) × (ends_field (get_or s at 0) ≡ true)
unfolding ends_field
stopped s at None w k = absurd (let z : ◌≡◌ {A = ℕ} 0 1 = cc k in omega arith)
stopped s at (Some end.Tab) w k = (w.0, rw w.1)
stopped s at (Some end.LineFeed) w k = (w.0, rw w.1)

pub goes_on : (s : Bytes) (at : ℕ) (e : read.Option End.End) → EndWithin s at e → is_some e ≡ false → ends_field (get_or s at 0) ≡ false
goes_on s at (Some e) w k = absurd (let z : ◌≡◌ {A = ℕ} 0 1 = cc k in omega arith)
goes_on s at None w k = inner (get_or s at 0) w.0 w.1

-- where a line feed stands there is no tab, and where a tab stands no line feed
pub no_tab : (s : Bytes) (at : ℕ) → get_or s at 0 ≡ line_feed → get_or s at 0 ≡ tab → ⊥
no_tab s at f t = omega (arith, f, t)

pub no_feed : (s : Bytes) (at : ℕ) → get_or s at 0 ≡ tab → get_or s at 0 ≡ line_feed → ⊥
no_feed s at t f = omega (arith, f, t)

-- what a shape says of a field, told by its place

module _ (shape : Shape) (s : Bytes) (at : ℕ) where
  pub told_good : shape (field_at s at) ≡ true → {next : ℕ} → next ≡ field_end s at → Some next ≡ field_place shape s at
  unfolding field_place place_told
  told_good e p = rw (e, p)

  pub told_bad : shape (field_at s at) ≡ false → None ≡ field_place shape s at
  unfolding field_place place_told
  told_bad e = rw e

-- numbers and names

module _ (s : Bytes) (at : ℕ) where
  pub number_good : {v next : ℕ} → number_at s at ≡ Some (v, next) → Some next ≡ field_place a_number s at
  unfolding a_number given
  number_good e = let w = number_says e in told_good _ _ _ (rw w.said) w.place

  pub number_bad : number_at s at ≡ None → None ≡ field_place a_number s at
  unfolding a_number given
  number_bad e = told_bad _ _ _ (rw (number_refused e).said)

  pub name_good : {n : Read.Name} {next : ℕ} → name_at s at ≡ Some (n, next) → Some next ≡ field_place a_name s at
  unfolding a_name given
  name_good e = let w = name_says e in told_good _ _ _ (rw w.said) w.place

  pub name_bad : name_at s at ≡ None → None ≡ field_place a_name s at
  unfolding a_name given
  name_bad e = told_bad _ _ _ (rw (name_refused e).said)

-- a letter and a number

module _ (s : Bytes) (at letter : ℕ) where
  pub lettered_past : length s ≤ at → None ≡ field_place (lettered letter) s at
  unfolding lettered
  lettered_past h = told_bad _ _ _ (rw (field_past s at h))

  module _ (h : at < length s) where
    pub lettered_other : (get_or s at 0 ≡ letter → ⊥) → None ≡ field_place (lettered letter) s at
    unfolding lettered
    lettered_other d =
        by_test (ends_field (get_or s at 0))
        (λ e. told_bad _ _ _ (rw (field_stop s at h e)))
        λ e. told_bad _ _ _ (rw (field_more s at h e, ne_eqb (get_or s at 0) letter d))

    module _ (i : ends_field letter ≡ false) (same : get_or s at 0 ≡ letter) where
      letter_more : field_at s at ≡ letter ∷ field_at s (at + 1)
      letter_more = field_more s at h (rw same i) ∙ rw same

      pub lettered_bad : number_at s (at + 1) ≡ None → None ≡ field_place (lettered letter) s at
      unfolding lettered a_number given
      lettered_bad e = told_bad _ _ _ (rw (letter_more, (number_refused e).said, and-false))

      pub lettered_good : {v next : ℕ} → number_at s (at + 1) ≡ Some (v, next) → Some next ≡ field_place (lettered letter) s at
      unfolding lettered a_number given
      lettered_good {v} {next} e =
          let w = number_says e in
          told_good _ _ _ (rw (letter_more, w.said, eq-eqb letter letter refl)) (w.place ∙ sym (field_end_more s at h (rw same i)))

-- a text, byte by byte: what is left of both decides

pub record Texting (s : Bytes) (at : ℕ) (text : Bytes) (i next : ℕ) : Type 0 where
  pub inside : i ≤ length text
  pub within : next ≤ length s
  pub further : at ≤ next
  pub left : same_text text (field_at s at) ≡ same_text (drop i text) (field_at s next)
  pub closes : field_end s next ≡ field_end s at

pub texting_first : (s : Bytes) (at : ℕ) (text : Bytes) → at ≤ length s → Texting s at text 0 at
texting_first s at text h = record { inside = omega arith; within = h; further = omega arith; left = refl; closes = refl }

left_none : (xs : Bytes) → 0 < length xs → same_text xs [] ≡ false
unfolding same_text
left_none [] h = absurd (omega arith)
left_none (x ∷ xs) h = refl

module _ {s : Bytes} {at : ℕ} {text : Bytes} {i next : ℕ} (w : Texting s at text i next) where
  module _ (m : i < length text) where
    text_over : field_at s next ≡ [] → None ≡ field_place (same_text text) s at
    text_over e = told_bad _ _ _ (w.left ∙ rw e (left_none (drop i text) (omega (arith, length-drop i text))))

    pub text_past : length s ≤ next → None ≡ field_place (same_text text) s at
    text_past h = text_over (field_past s next h)

    pub text_ended : next < length s → ends_field (get_or s next 0) ≡ true → None ≡ field_place (same_text text) s at
    text_ended h e = text_over (field_stop s next h e)

    module _ (h : next < length s) (e : ends_field (get_or s next 0) ≡ false) where
      pub text_other : (get_or s next 0 ≡ get_or text i 0 → ⊥) → None ≡ field_place (same_text text) s at
      unfolding same_text
      text_other d = told_bad _ _ _ (w.left ∙ rw (drop-cons text i 0 m, field_more s next h e, ne_eqb (get_or text i 0) (get_or s next 0) (λ q. d (sym q))))

      pub texting_more : get_or s next 0 ≡ get_or text i 0 → Texting s at text (i + 1) (next + 1)
      unfolding same_text
      texting_more q = record {
        inside = omega arith;
        within = omega arith;
        further = omega (arith, w.further);
        left = w.left ∙ rw (drop-cons text i 0 m, field_more s next h e, q, eq-eqb (get_or text i 0) (get_or text i 0) refl, add-one i);
        closes = sym (field_end_more s next h e) ∙ w.closes;
      }

  module _ (m : length text ≤ i) where
    pub text_good : field_at s next ≡ [] → Some next ≡ field_place (same_text text) s at
    unfolding same_text
    text_good e = told_good _ _ _ (w.left ∙ rw (drop_of_length-le text m, e)) (sym (field_end_none s next e) ∙ w.closes)

    pub text_longer : next < length s → ends_field (get_or s next 0) ≡ false → None ≡ field_place (same_text text) s at
    unfolding same_text
    text_longer h e = told_bad _ _ _ (w.left ∙ rw (drop_of_length-le text m, field_more s next h e))
