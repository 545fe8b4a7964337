use mathlib.Core.Path.{◌≡◌, ◌∙◌}
use mathlib.Core.List.{List}
use Prim.Native.Nat.{ℕ, ◌+◌, ◌-◌}
use native.Mathlib.Omega.{arith}
use lib.ListN.{length, get_or, take, drop}
use Rattle.lists.specs.Region.{length_region, getD_region}
use Rattle.steps.specs.Parts.{part}
use Rattle.states.proofs.Laws.{row_none, row_then}
use Rattle.states.proofs.write_row.Goals as goal

pub loop-cell-init : goal.loop-cell-init
loop-cell-init c = (omega arith, rw (part c.args.from c.args.n c.args.words.now) (length_region _ _ _ c.requires.0), row_none _ _ _ _)

pub loop-cell-preserved : goal.loop-cell-preserved
loop-cell-preserved c =
    let inv = c.loop-cell.invariant in
    let cells : List ℕ = take (c.args.from + c.args.n - c.args.from) (drop c.args.from c.args.words.now) in
    let cell : get_or cells c.loop-cell.cell-index 0 ≡ get_or c.args.words.now (c.args.from + c.loop-cell.cell-index) 0
    = rw (part c.args.from c.args.n c.args.words.now) (getD_region _ _ _ _ (omega (arith, inv.1, c.loop-cell-test.true))) in
    (omega arith, inv.1, row_then _ _ _ (omega (arith, inv.1, c.requires.0, c.loop-cell-test.true)) inv.2 (rw cell at c.write_cell-next.ensures.0))

pub returns : goal.returns
returns c =
    let inv = c.loop-cell.invariant in
    let e : c.loop-cell.cell-index ≡ c.args.n = omega (arith, inv.1, c.loop-cell-test.false, c.loop-cell.auto.cell-index-end) in
    rw (← e) (inv.2, omega arith)
