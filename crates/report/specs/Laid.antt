-- What was written at a buffer's start, against the paper's `laid`.
use Rattle.std.specs.Prelude.{◌≡◌, List, ℕ, ◌+◌, ◌≤◌, length}
use Rattle.std.proofs.Common.{◌∙◌, arith}
use Rattle.std.proofs.lemmas.List.Edits.{sets-eq}
use Rattle.lists.specs.Sets.{Wrote}
use Rattle.paper.specs.Answer.{laid}

-- a text that was written at the start is laid there
pub wrote_laid : {l xs l' : List ℕ} {k : ℕ} → Wrote l 0 xs l' k → k ≤ length l → l' ≡ laid xs l
unfolding laid
wrote_laid {l} {xs} w h =
    let z : 0 + length xs ≡ length xs = omega arith in
    w.list ∙ rw z at (sets-eq xs l 0 (omega (arith, w.next)))
