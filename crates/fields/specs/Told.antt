-- What the answer of a reader tells of the field at its place, and of the line's next field; and that what was written at a
-- place is read there.
use Rattle.std.specs.Prelude as read
use Rattle.std.specs.Prelude.{Some, None, ◌≡◌, Bool, true, false, not, ◌&&◌, [], ◌∷◌, ◌++◌, ℕ, ◌+◌, ◌≤◌, ◌<◌, length, drop, take}
use Rattle.std.proofs.Math.Path.{refl}
use Rattle.std.proofs.Common.{ap, append-nil, append_assoc, arith, ne_eqb, drop_at, length-take-le}
use Rattle.std.proofs.Math.Option.{Option, none, some}
use Rattle.std.proofs.lemmas.Bool.{not-true}
use Rattle.std.proofs.lemmas.List.Edits.{sets-eq}
use Rattle.lists.specs.Sets.{Wrote}
use Rattle.lists.specs.Split.{and_left, and_right}
use Rattle.paper.specs.Text.{Bytes, fields, is_digit, all_digits, number_of, digits, Name, real, virtual, name_of, name_text}
use Rattle.paper.specs.Refusals.{next, allocation_of}
use Rattle.fields.specs.Fields.{until, ends_field, line_at, field_at, field_end, fields_behind, number_told, name_told, allocation_told, number_at, name_at, allocation_at, name_read, name_made, named, allocated}
use Rattle.fields.specs.Cursor.{fields_at}
use Rattle.fields.specs.Spelling.{number, digit_range, number_of_digits, name_of_text}
use Rattle.fields.specs.declared.Name as Name_read

-- the field at `at` says a, as f reads it, and ends at i
pub record Says {A : Type 0} (f : Bytes → Option A) (s : Bytes) (at : ℕ) (a : A) (i : ℕ) : Type 0 where
  pub said : f (field_at s at) ≡ some a
  pub place : i ≡ field_end s at

-- f reads nothing of the field at `at`
pub record Refuses {A : Type 0} (f : Bytes → Option A) (s : Bytes) (at : ℕ) : Type 0 where
  pub said : f (field_at s at) ≡ none

-- the line's next field, taken or refused
pub next_says : {A : Type 0} {f : Bytes → Option A} {s : Bytes} {at : ℕ} {a : A} {i : ℕ} → Says f s at a i
    → next f (fields (line_at s at)) ≡ some (record { value = a; rest = fields_behind s i })
unfolding next
next_says {A} {f} {s} {at} {a} {i} w = rw (fields_at s at, w.said, w.place)

pub next_refused : {A : Type 0} {f : Bytes → Option A} {s : Bytes} {at : ℕ} → Refuses f s at → next f (fields (line_at s at)) ≡ none
unfolding next
next_refused {A} {f} {s} {at} w = rw (fields_at s at, w.said)

-- what each answer tells
abbrev NumberTells : Bytes → ℕ → read.Option (ℕ × ℕ) → Type 0
NumberTells s at None = Refuses number_of s at
NumberTells s at (Some x) = Says number_of s at x.0 x.1

abbrev NameTells : Bytes → ℕ → read.Option (Name_read.Name × ℕ) → Type 0
NameTells s at None = Refuses name_of s at
NameTells s at (Some x) = Says name_of s at (named x.0) x.1

abbrev AllocationTells : Bytes → ℕ → read.Option (read.Option ℕ × ℕ) → Type 0
AllocationTells s at None = Refuses allocation_of s at
AllocationTells s at (Some x) = Says allocation_of s at (allocated x.0) x.1

module _ (s : Bytes) (at : ℕ) where
  number_tells : NumberTells s at (number_at s at)
  unfolding number_at number_told
  number_tells = go (number_of (field_at s at)) refl
    where
      go : (o : Option ℕ) → number_of (field_at s at) ≡ o → NumberTells s at (number_told (field_end s at) o)
      go none p = record { said = p }
      go (some v) p = record { said = p; place = refl }

  name_tells : NameTells s at (name_at s at)
  unfolding name_at name_told name_read named
  name_tells = go (name_of (field_at s at)) refl
    where
      go : (o : Option Name) → name_of (field_at s at) ≡ o → NameTells s at (name_told (field_end s at) o)
      go none p = record { said = p }
      go (some (real n)) p = record { said = p; place = refl }
      go (some (virtual n)) p = record { said = p; place = refl }

  allocation_tells : AllocationTells s at (allocation_at s at)
  unfolding allocation_at allocation_told allocated
  allocation_tells = go (allocation_of (field_at s at)) refl
    where
      go : (o : Option (Option ℕ)) → allocation_of (field_at s at) ≡ o → AllocationTells s at (allocation_told (field_end s at) o)
      go none p = record { said = p }
      go (some none) p = record { said = p; place = refl }
      go (some (some r)) p = record { said = p; place = refl }

module _ {s : Bytes} {at : ℕ} where
  pub number_says : {v i : ℕ} → number_at s at ≡ Some (v, i) → Says number_of s at v i
  number_says e = rw e at (number_tells s at)

  pub number_refused : number_at s at ≡ None → Refuses number_of s at
  number_refused e = rw e at (number_tells s at)

  pub name_says : {n : Name_read.Name} {i : ℕ} → name_at s at ≡ Some (n, i) → Says name_of s at (named n) i
  name_says e = rw e at (name_tells s at)

  pub name_refused : name_at s at ≡ None → Refuses name_of s at
  name_refused e = rw e at (name_tells s at)

  pub allocation_says : {r : read.Option ℕ} {i : ℕ} → allocation_at s at ≡ Some (r, i) → Says allocation_of s at (allocated r) i
  allocation_says e = rw e at (allocation_tells s at)

  pub allocation_refused : allocation_at s at ≡ None → Refuses allocation_of s at
  allocation_refused e = rw e at (allocation_tells s at)

-- reading what was written

-- no byte of the text ends a field
unfoldable pub unbroken : Bytes → Bool
unbroken [] = true
unbroken (b ∷ bs) = not (ends_field b) && unbroken bs

unbroken_digits : (f : Bytes) → all_digits f ≡ true → unbroken f ≡ true
unfolding unbroken all_digits ends_field
unbroken_digits [] e = refl
unbroken_digits (b ∷ bs) e =
    let r = digit_range b (and_left _ _ e) in
    rw (ne_eqb b 9 (omega arith), ne_eqb b 10 (omega arith)) (unbroken_digits bs (and_right (is_digit b) (all_digits bs) e))

until_append : (xs rest : Bytes) → unbroken xs ≡ true → until ends_field (xs ++ rest) ≡ xs ++ until ends_field rest
unfolding unbroken until
until_append [] rest e = refl
until_append (x ∷ xs) rest e =
    rw (not-true (ends_field x) (and_left _ _ e)) (ap (λ (t : Bytes). x ∷ t) (until_append xs rest (and_right (not (ends_field x)) (unbroken xs) e)))

-- a text written where a field ends behind it is the field at its place
pub field_written : {l xs l' : Bytes} {at i : ℕ} → Wrote l at xs l' i → i ≤ length l → unbroken xs ≡ true → field_at l i ≡ [] → field_at l' at ≡ xs
unfolding field_at
field_written {l} {xs} {l'} {at} {i} w h u e =
    let fits : at + length xs ≤ length l = omega (arith, w.next) in
    rw (w.list, sets-eq xs l at fits, append_assoc, drop_at (take at l) (xs ++ drop (at + length xs) l) at (length-take-le at l (omega arith)), until_append xs (drop (at + length xs) l) u, ← w.next, e, append-nil)

unbroken_number : (v : ℕ) → v < 100000 → unbroken (digits v) ≡ true
unbroken_number v h = unbroken_digits (digits v) (number (number_of_digits v h)).all

unbroken_name : (is_real : Bool) (n : ℕ) → n < 100000 → unbroken (name_text (name_made is_real n)) ≡ true
unfolding unbroken name_text name_made ends_field
unbroken_name true n h = unbroken_number n h
unbroken_name false n h = unbroken_number n h

name_told_made : (is_real : Bool) (n i : ℕ) → name_told i (some (name_made is_real n)) ≡ Some (name_read (name_made is_real n), i)
unfolding name_told
name_told_made is_real n i = refl

module _ {l l' : Bytes} {at i : ℕ} (h : i ≤ length l) (e : field_at l i ≡ []) where
  pub number_written : {v : ℕ} → Wrote l at (digits v) l' i → v < 100000 → number_at l' at ≡ Some (v, i)
  unfolding number_at number_told field_end
  number_written {v} w small =
      let f : field_at l' at ≡ digits v = field_written w h (unbroken_number v small) e in
      rw (f, number_of_digits v small, w.next)

  pub name_written : (is_real : Bool) {n : ℕ} → Wrote l at (name_text (name_made is_real n)) l' i → n < 100000 → name_at l' at ≡ Some (name_read (name_made is_real n), i)
  unfolding name_at field_end
  name_written is_real {n} w small =
      let f : field_at l' at ≡ name_text (name_made is_real n) = field_written w h (unbroken_name is_real n small) e in
      rw (f, name_of_text is_real n small, ← w.next) (name_told_made is_real n i)
