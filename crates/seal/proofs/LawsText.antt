-- What the library says of texts, in the paper's words: two texts compared, and a text of hex digits.
use mathlib.Core.Path.{◌≡◌, refl, ap}
use mathlib.Core.Bool.{Bool, ◌&&◌}
use mathlib.Core.List.{[], ◌∷◌}
use lib.Dec.{eqb}
use Rattle.std.specs.Cmp.Lexicographic.{pointwise}
use Rattle.std.specs.List.{list_all}
use Rattle.paper.specs.Text.{Bytes}
use Rattle.paper.specs.Comparison.{same_text}
use Rattle.paper.specs.Seal.{is_hex, all_hex}

pub same_bytes : (a b : Bytes) → pointwise eqb a b ≡ same_text a b
unfolding same_text
same_bytes [] [] = refl
same_bytes [] (y ∷ ys) = refl
same_bytes (x ∷ xs) [] = refl
same_bytes (x ∷ xs) (y ∷ ys) = ap (λ (t : Bool). eqb x y && t) (same_bytes xs ys)

pub every_hex : (bytes : Bytes) → list_all is_hex bytes ≡ all_hex bytes
unfolding all_hex
every_hex [] = refl
every_hex (b ∷ bs) = ap (λ (t : Bool). is_hex b && t) (every_hex bs)
