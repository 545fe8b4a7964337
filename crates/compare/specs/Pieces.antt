-- A text's pieces, byte by byte: one at least.
use Rattle.std.specs.Prelude.{◌≡◌, refl, true, false, List, [], ◌∷◌, ℕ, ◌<◌, eqb, length}
use Rattle.std.proofs.Common.{arith}
use Rattle.lists.specs.Split.{by_test}
use Rattle.paper.specs.Text.{Bytes, line_feed, onto_first, parts}
use Rattle.paper.specs.Refusals.{empty}
use Rattle.paper.specs.Comparison.{pieces}

pub pieces_none : pieces [] ≡ [] ∷ []
unfolding pieces parts
pieces_none = refl

pub pieces_feed : (b : ℕ) (bs : Bytes) → eqb b line_feed ≡ true → pieces (b ∷ bs) ≡ [] ∷ pieces bs
unfolding pieces parts
pieces_feed b bs e = rw e

pub pieces_more : (b : ℕ) (bs : Bytes) → eqb b line_feed ≡ false → pieces (b ∷ bs) ≡ onto_first b (pieces bs)
unfolding pieces parts
pieces_more b bs e = rw e

onto_some : (b : ℕ) (ls : List Bytes) → 0 < length (onto_first b ls)
unfolding onto_first
onto_some b [] = omega arith
onto_some b (l ∷ ls) = omega arith

pub pieces_some : (text : Bytes) → 0 < length (pieces text)
pieces_some [] = rw pieces_none (omega arith)
pieces_some (b ∷ bs) =
    by_test (eqb b line_feed)
    (λ e. rw (pieces_feed b bs e) (omega arith))
    λ e. rw (pieces_more b bs e) (onto_some b (pieces bs))

pub not_empty : {A : Type 0} (ls : List A) → 0 < length ls → empty ls ≡ false
unfolding empty
not_empty [] h = absurd (omega arith)
not_empty (l ∷ ls) h = refl
