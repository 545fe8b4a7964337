-- What a line that is read byte by byte has; what a frame's first line says, test by test; and a room whose first bytes were written
-- anew keeps the others.
use Rattle.std.proofs.Common.{◌≡◌, refl, sym, ap, ◌∙◌, List, [], ◌∷◌, ◌++◌, ℕ, ◌+◌, ◌-◌, ◌≤◌, ◌<◌, arith, length, get_or, set, take, drop, length-append, length-drop, length-set, get_or-set_same, get_or-set_other, Option, None, Some, true, false}
use Rattle.std.specs.List.{starts_with}
use Rattle.std.proofs.Math.Dec.{eqb}
use borrow.Author.Tests.{ne_eqb}
use lib.Seq.{drop-append_seam, drop-drop, take-append_seam}
use Rattle.std.proofs.lemmas.List.Edits.{sets-eq}
use Rattle.lists.specs.Sets.{Wrote}
use Rattle.lists.specs.Split.{by_equal}
use Rattle.paper.specs.Text.{Bytes, line_feed}
use Rattle.fields.specs.Fields.{number_at, end_at}
use Rattle.fields.specs.declared.End as End
use Rattle.frames.specs.Frame.{hash, length_ended, length_behind, length_of, LineLeft}

-- a line

-- so far no line feed came
pub record LineReading (before line : List ℕ) (n : ℕ) : Type 0 where
  pub inside : n ≤ length line
  pub same_length : length line ≡ length before
  pub no_feed : (i : ℕ) → i < n → get_or line i 0 ≡ line_feed → ⊥

pub reading_none : (line : List ℕ) → LineReading line line 0
reading_none line = record { inside = omega arith; same_length = refl; no_feed = λ i h. absurd (omega arith) }

pub reading_left : {before line : List ℕ} {n : ℕ} → LineReading before line n → LineLeft before line n
reading_left r = record { inside = r.inside; same_length = r.same_length; one_line = λ i h. r.no_feed i (omega arith) }

module _ {before line : List ℕ} {n : ℕ} (r : LineReading before line n) (room : n < length line) (b : ℕ) where
  earlier : (i : ℕ) → i < n → get_or (set line n b) i 0 ≡ line_feed → ⊥
  earlier i h e = r.no_feed i h (sym (get_or-set_other line n i b 0 (λ q. omega arith)) ∙ e)

  pub line_ended : LineLeft before (set line n b) (n + 1)
  line_ended = record { inside = rw length-set (omega arith); same_length = length-set line n b ∙ r.same_length; one_line = λ i h. earlier i (omega arith) }

  pub reading_more : (b ≡ line_feed → ⊥) → LineReading before (set line n b) (n + 1)
  reading_more d = record {
    inside = rw length-set (omega arith);
    same_length = length-set line n b ∙ r.same_length;
    no_feed = λ i h. by_equal i n (λ e q. d (sym (get_or-set_same line n b 0 room) ∙ rw e at q)) λ e. earlier i (omega (arith, e));
  }

-- what it says

-- the first byte of a line is what it starts with
pub hash_test : (line : Bytes) → starts_with eqb line (hash ∷ []) ≡ eqb (get_or line 0 0) hash
hash_test [] = refl
hash_test (b ∷ bs) = by_equal b hash (λ e. rw e refl) (λ d. rw (ne_eqb b hash d, ne_eqb hash b (λ q. d (sym q))) refl)

module _ (line : Bytes) where
  pub no_hash : false ≡ starts_with eqb line (hash ∷ []) → ◌≡◌ {A = Option ℕ} None (length_of line)
  unfolding length_of
  no_hash e = rw (← hash_test line, ← e) refl

  module _ (h : true ≡ starts_with eqb line (hash ∷ [])) where
    pub no_number : None ≡ number_at line 1 → ◌≡◌ {A = Option ℕ} None (length_of line)
    unfolding length_of length_behind
    no_number e = rw (← hash_test line, ← h, ← e) refl

    module _ {n next : ℕ} (says : ◌≡◌ {A = Option (ℕ × ℕ)} (Some (n, next)) (number_at line 1)) where
      pub ended : {e : Option End.End} → e ≡ end_at line next → length_ended n e ≡ length_of line
      unfolding length_of length_behind
      ended e = rw (← hash_test line, ← h, ← says, ← e) refl

-- the room

pub kept_behind : (n : ℕ) (front l : List ℕ) → n ≤ length l → length (front ++ drop n l) ≡ length l → drop n (front ++ drop n l) ≡ drop n l
kept_behind n front l h e =
    let size : length front ≡ n = omega (arith, length-append front (drop n l), length-drop n l) in
    rw size at (drop-append_seam front (drop n l))

-- and those behind any later place
pub kept_further : (n m : ℕ) (a b : List ℕ) → n ≤ m → drop n a ≡ drop n b → drop m a ≡ drop m b
kept_further n m a b h e =
    let s : n + (m - n) ≡ m = omega arith in
    rw s at (sym (drop-drop (m - n) n a) ∙ ap (drop (m - n)) e ∙ drop-drop (m - n) n b)

-- a run that was written at the start of a list is its first part
pub wrote_first : {l xs l' : List ℕ} {j : ℕ} → Wrote l 0 xs l' j → j ≤ length l → take j l' ≡ xs
wrote_first {l} {xs} {l'} {j} w h =
    let size : j ≡ length xs = omega (arith, w.next) in
    let room : 0 + length xs ≤ length l = omega arith in
    let whole : l' ≡ xs ++ drop (0 + length xs) l = w.list ∙ sets-eq xs l 0 room in
    rw (size, whole) (take-append_seam xs (drop (0 + length xs) l))
