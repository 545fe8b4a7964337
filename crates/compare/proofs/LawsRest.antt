-- What is handed back is a part of the longer report.
use mathlib.Core.Path.{◌≡◌}
use mathlib.Core.List.{List}
use Prim.Native.Nat.{ℕ, ◌≤◌, ◌<◌}
use native.Mathlib.Omega.{arith}
use borrow.Author.Tests.{lt-ltb, le-ltb}
use denote.Ref.{Bor}
use lib.ListN.{length}
use Rattle.paper.specs.Text.{Bytes}
use Rattle.paper.specs.Comparison.{compared, longer, rest_place, rest_of}
use Rattle.compare.specs.Places.{ComparedWithin, PartOf, longer_lent, Handed}
use Rattle.paper.specs.declared.Compared.{Compared}
use Rattle.paper.specs.declared.Compared.TheVariants.{Equal, Parts, Malformed}

-- it begins inside the longer one

module _ (first second : Bytes) where
  pub place_second : (r : Compared) → ComparedWithin first second r → rest_place (length second) r ≤ length second
  unfolding rest_place
  place_second Equal w = omega arith
  place_second (Parts line place) w = w.1
  place_second (Malformed side line) w = omega arith

  pub place_first : (r : Compared) → ComparedWithin first second r → rest_place (length first) r ≤ length first
  unfolding rest_place
  place_first Equal w = omega arith
  place_first (Parts line place) w = w.0
  place_first (Malformed side line) w = omega arith

module _ (first second r : Bor (List ℕ)) {said : Compared} {from : ℕ} (is : said ≡ compared first.now second.now) where
  pub handed_second : length first.now < length second.now → from ≡ rest_place (length second.now) said → PartOf second from r → Handed first second r
  unfolding longer longer_lent rest_of
  handed_second h e p = record {
    bytes = rw (lt-ltb (length first.now) (length second.now) h, ← is, ← e) p.bytes;
    part = rw (lt-ltb (length first.now) (length second.now) h, ← is, ← e) p;
  }

  pub handed_first : length second.now ≤ length first.now → from ≡ rest_place (length first.now) said → PartOf first from r → Handed first second r
  unfolding longer longer_lent rest_of
  handed_first h e p = record {
    bytes = rw (le-ltb (length first.now) (length second.now) h, ← is, ← e) p.bytes;
    part = rw (le-ltb (length first.now) (length second.now) h, ← is, ← e) p;
  }
