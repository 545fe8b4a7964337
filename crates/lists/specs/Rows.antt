-- What a parameter `[[uN; n]; m]` tells on entry, `c.good.0`: each row has n elements.
use Rattle.std.specs.Prelude.{◌≡◌, List, [], ◌∷◌, ℕ, zero, suc, ◌<◌, length, get_or}
use Rattle.std.proofs.Common.{not-suc-le-zero, arith}
use Rattle.std.specs.Int.{Width}
use mir.Val.{Val}
use denote.Laws.{Is}
use denote.Plain.{UInt}
use denote.Array.{Array, each}
use denote.Shadow.{shadow}

each_length : (w : Width) (n : ℕ) (s : List (List ℕ)) (us : List Val) → shadow (each (List ℕ) (Array (UInt w) n).own_val s us) → (r : ℕ) → r < length s → length (get_or s r []) ≡ n
each_length w n [] us p r h = absurd (not-suc-le-zero h)
each_length w n (x ∷ s) [] p r h = absurd p
each_length w n (x ∷ s) (u ∷ us) p zero h = p.0.1.0.1
each_length w n (x ∷ s) (u ∷ us) p (suc r) h = each_length w n s us p.1 r (omega arith)

pub row_length : (w : Width) (n m : ℕ) (s : List (List ℕ)) (vs : List Val) → Is (Array (Array (UInt w) n) m) s vs → (r : ℕ) → r < m → length (get_or s r []) ≡ n
row_length w n m s vs p r h = each_length w n s p.0 p.1.1 r (let e = p.1.0.1 in omega arith)
