-- The lent buffers' lengths decide refusal 1, whatever size it asks of the report, and a call that is not refused so has room.
use Rattle.std.specs.Prelude.{◌≡◌, true, false, List, ℕ, ◌≤◌, ◌<◌, ltb, length}
use Rattle.std.proofs.Common.{sym}
use Rattle.std.proofs.Math.Bool.{or-true}
use borrow.Author.Tests.{lt-ltb, le-ltb, ltb-false}
use Rattle.lists.specs.Split.{or_left, or_right}
use Rattle.paper.specs.Limits.{words_size, queue_size}
use Rattle.paper.specs.Answer.{too_short}
use Rattle.checker.specs.Checked.{lent}

module _ (size : ℕ) (report words queue : List ℕ) where
  pub short_report : length report < size → true ≡ too_short size (lent report words queue)
  unfolding too_short
  short_report h = rw (lt-ltb _ _ h)

  pub short_words : length words < words_size → true ≡ too_short size (lent report words queue)
  unfolding too_short
  short_words h = rw (lt-ltb _ _ h) (sym (or-true (ltb (length report) size)))

  pub by_queue : size ≤ length report → words_size ≤ length words → ltb (length queue) queue_size ≡ too_short size (lent report words queue)
  unfolding too_short
  by_queue a b = rw (le-ltb _ _ a, le-ltb _ _ b)

  pub long : too_short size (lent report words queue) ≡ false → (size ≤ length report) × (words_size ≤ length words) × (queue_size ≤ length queue)
  unfolding too_short
  long e =
      let later = or_right (ltb (length report) size) _ e in (
        ltb-false _ _ (or_left (ltb (length report) size) _ e),
        ltb-false _ _ (or_left (ltb (length words) words_size) _ later),
        ltb-false _ _ (or_right (ltb (length words) words_size) _ later),
      )
