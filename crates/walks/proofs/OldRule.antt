-- Under the old rule the order in which the blocks are served shows in the states: two orders of one sheet, computed.
use Rattle.std.specs.Prelude.{◌≡◌, List, [], ◌∷◌, ℕ}
use Rattle.std.proofs.Common.{ap, arith}
use Rattle.paper.specs.Sheet.{Sheet}
use Rattle.paper.specs.Runs.{flow, begin, analysis}
use Rattle.paper.specs.declared.Rule.TheVariants.{Old}
use Rattle.walks.specs.Bounds.{Closed}
use Rattle.walks.specs.Order.{in_order}
use Rattle.walks.specs.OldRule.{End, end_of, crossing, crossing_closed, first_in_first_out, another_order}

pub old_order_shows : ¬ ((S : Sheet) → Closed S → (order : List ℕ) → (in_order (flow Old S) order (begin Old S)).queue ≡ []
    → (b : ℕ) → (in_order (flow Old S) order (begin Old S)).table b ≡ (analysis Old S).table b)
unfolding end_of
old_order_shows h =
    let e = h crossing crossing_closed (0 ∷ 1 ∷ 3 ∷ 2 ∷ 4 ∷ 3 ∷ 4 ∷ []) (ap (λ (e : End). e.waiting) another_order) 4 in
    let f = ap (λ (e : End). e.last) another_order in
    let g = ap (λ (e : End). e.last) first_in_first_out in
    let z : ◌≡◌ {A = ℕ} 0 1 = cc in
    omega arith
