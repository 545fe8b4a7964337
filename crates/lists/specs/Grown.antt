-- A region grown at its end: by one element, and by another region.
use Rattle.std.specs.Prelude.{◌≡◌, List, [], ◌∷◌, ◌++◌, ℕ, ◌+◌, ◌<◌, length, get_or, drop}
use Rattle.std.proofs.Common.{add-one, arith, take-add, drop-drop, get_or-drop}
use Rattle.std.proofs.Math.ListN.{length-drop}
use Rattle.std.proofs.Math.Seq.{take-suc}
use Rattle.lists.specs.Region.{region}

module _ (at n : ℕ) (l : List ℕ) where
  pub region_more : at + n < length l → region at (n + 1) l ≡ region at n l ++ (get_or l (at + n) 0 ∷ [])
  unfolding region
  region_more h = rw (add-one, take-suc (drop at l) n 0 (rw length-drop (omega arith)), get_or-drop)

  pub region_joined : (m : ℕ) → region at (n + m) l ≡ region at n l ++ region (at + n) m l
  unfolding region
  region_joined m = rw (take-add, drop-drop)
