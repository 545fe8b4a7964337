-- What is written of two reports: a text behind the line, and the whole at the start of the room.
use mathlib.Core.Path.{◌≡◌, sym, ◌∙◌}
use mathlib.Core.Bool.{Bool, true, false, ◌||◌}
use mathlib.Core.List.{List, ◌++◌}
use Prim.Native.Nat.{ℕ, ◌+◌, ◌≤◌, ◌<◌}
use native.Mathlib.Omega.{arith}
use borrow.Author.Tests.{lt-ltb, le-ltb, ltb-false}
use lib.ListN.{length, drop, length-drop}
use lib.Dec.{ltb}
use lib.Seq.{sets-eq}
use Rattle.lists.specs.Sets.{Wrote, length_wrote}
use Rattle.lists.specs.Split.{by_test, or_left, or_right}
use Rattle.paper.specs.Text.{Bytes}
use Rattle.paper.specs.Answer.{laid}
use Rattle.paper.specs.Comparison.{compared, longer, rest_of}
use Rattle.paper.specs.declared.Compared.{Compared}
use Rattle.compare.specs.Written.{said_text, compared_text, longest_report, longest_text, no_room, text_left, Told}

-- room

module _ (first second : Bytes) (out : List ℕ) where
  pub first_long : longest_report < length first → true ≡ no_room first second out
  unfolding no_room
  first_long h = rw (lt-ltb longest_report (length first) h)

  module _ (f : length first ≤ longest_report) where
    pub second_long : longest_report < length second → true ≡ no_room first second out
    unfolding no_room
    second_long h = rw (le-ltb longest_report (length first) f, lt-ltb longest_report (length second) h)

    pub both_short : length second ≤ longest_report → ltb (length out) longest_text ≡ no_room first second out
    unfolding no_room
    both_short h = rw (le-ltb longest_report (length first) f, le-ltb longest_report (length second) h)

  pub told_none : true ≡ no_room first second out → Told first second out out 0
  unfolding text_left
  told_none e = record { whole = rw (← e); fits = omega arith }

  pub told_text : {after : List ℕ} {r : ℕ} {said : Compared} → false ≡ no_room first second out → said ≡ compared first second
      → Wrote out 0 (said_text said (rest_of first second)) after r → r ≤ length out → Told first second out after r
  unfolding text_left compared_text laid
  told_text {after} {r} {said} e is w h =
      let text : Bytes = said_text said (rest_of first second) in
      let z : 0 + length text ≡ length text = omega arith in
      let same : after ≡ text ++ drop (length text) out = w.list ∙ rw z at (sets-eq text out 0 (omega (arith, w.next))) in
      let size : r ≡ length text = omega (arith, w.next) in
      record { whole = rw (← e, ← is, ← same, ← size); fits = rw (length_wrote w) h }

  pub roomy : false ≡ no_room first second out → (length first ≤ longest_report) × (length second ≤ longest_report) × (longest_text ≤ length out)
  unfolding no_room
  roomy e =
      let f : Bool = ltb longest_report (length first) in
      let s : Bool = ltb longest_report (length second) in
      let o : Bool = ltb (length out) longest_text in
      let later : (s || o) ≡ false = or_right f (s || o) (sym e) in
      (ltb-false longest_report (length first) (or_left f (s || o) (sym e)), ltb-false longest_report (length second) (or_left s o later), ltb-false (length out) longest_text (or_right s o later))

pub rest_short : (first second : Bytes) → length first ≤ longest_report → length second ≤ longest_report → length (rest_of first second) ≤ longest_report
unfolding rest_of longer
rest_short first second f s =
    by_test (ltb (length first) (length second))
    (λ y. rw (y, length-drop) (omega arith))
    λ y. rw (y, length-drop) (omega arith)
