-- A part of a list, as the code names it by its two ends.
use Rattle.std.specs.Prelude.{◌≡◌, List, ℕ, ◌+◌, ◌-◌, take, drop}
use Rattle.std.proofs.Common.{arith}
use Rattle.lists.specs.Region.{region}

pub part : (at n : ℕ) (l : List ℕ) → take (at + n - at) (drop at l) ≡ region at n l
unfolding region
part at n l = let e : at + n - at ≡ n = omega arith in rw e
