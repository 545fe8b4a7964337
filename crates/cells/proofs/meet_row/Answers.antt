use mathlib.Core.Path.{refl}
use Prim.Native.Nat.{◌+◌, ◌≤◌, ◌<◌}
use native.Mathlib.Omega.{arith}
use borrow.Author.Rules.{rules}
use lib.Count.{count_trailing_zeros}
use lib.ListN.{length, length-set}
use lib.Pow.{pow_pos}
use Rattle.cells.proofs.Rows.{row_still}
use Rattle.cells.proofs.Masks.{met_none, met_all, met_past, met_moved, met_stays, first_below}
use Rattle.cells.proofs.meet_row.Goals as goal
use Rattle.cells.proofs.meet_row.Goals.{then-new-old, else-new-old}

pub returns-then-row_stays : goal.returns-then-row_stays
returns-then-row_stays c =
    row_still _ _ _ _ (omega arith) λ k h. c.row_stays.ensures c.if-row_stays.true k (omega arith)

pub loop-left-init : goal.loop-left-init
loop-left-init c = (refl, search rules, (0, met_none _ c.may_change-left.ensures))

pub overflow_cast-i : goal.overflow_cast-i
overflow_cast-i c = omega (arith, (first_below _ c.loop-left-test.true c.loop-left.invariant.1))

pub returns-then-n-i : goal.returns-then-n-i
returns-then-n-i c =
    met_past c.loop-left.invariant.2.1 c.requires.2 (omega (arith, c.requires)) c.loop-left-test.true c.loop-left.invariant.1 c.if-n-i.true

pub bounds-row-i : goal.bounds-row-i
bounds-row-i c = omega (arith, (first_below _ c.loop-left-test.true c.loop-left.invariant.1))

pub loop-left-smaller : goal.loop-left-smaller
loop-left-smaller c =
    omega (arith, c.without_lowest-left.ensures, pow_pos (count_trailing_zeros 32 c.loop-left.left), c.loop-left-test.true)

pub loop-left-preserved : goal.loop-left-preserved
loop-left-preserved c =
    let t = count_trailing_zeros 32 c.loop-left.left in
    let below : t < c.args.n = omega (arith, c.if-n-i.false) in
    let room : c.args.at + c.args.n ≤ length c.args.words.now = omega (arith, c.requires) in (
      simp length-set c.loop-left.invariant.0,
      omega (arith, c.without_lowest-left.ensures, c.loop-left.invariant.1),
      (
        t + 1,
        rw c.without_lowest-left.ensures
            (elim c.if-new-old.branch [
              | then-new-old w ↦ rw w.changed-is (met_moved c.loop-left.invariant.2.1 c.requires.2 room c.loop-left-test.true c.loop-left.invariant.1 t refl below _ c.meet-new.ensures.0 w.if-new-old.true)
              | else-new-old w ↦ rw w.changed-is (met_stays c.loop-left.invariant.2.1 c.requires.2 room c.loop-left-test.true c.loop-left.invariant.1 t refl below _ c.meet-new.ensures.0 w.if-new-old.false)
            ]),
      ),
    )

pub returns : goal.returns
returns c =
    met_all c.loop-left.invariant.2.1 c.requires.2 (omega (arith, c.requires)) (omega (arith, c.loop-left-test.false))
