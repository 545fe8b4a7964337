use Rattle.std.proofs.Common.{ℕ, ◌≡◌, ◌∙◌, arith, length-take}
use Rattle.cells.proofs.Rows.{none_reached, cell_step, own_cell, row_done, front_cells}
use Rattle.cells.proofs.real_row.Goals as goal

pub loop-i-init : goal.loop-i-init
loop-i-init c = none_reached

pub loop-i-preserved : goal.loop-i-preserved
loop-i-preserved c = cell_step c.loop-i.invariant _ (own_cell _ (omega (arith, length-take {A = ℕ})))

pub returns : goal.returns
returns c =
    let e : c.loop-i.i ≡ c.args.n = omega (arith, length-take {A = ℕ}) in
    front_cells _ c.loop-i.word-items _ (omega (arith, length-take {A = ℕ})) ∙ row_done (rw e at c.loop-i.invariant) (simp length-take (omega arith))
