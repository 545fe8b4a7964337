-- `store` meets its contract: the slots' words begin 32 behind the registers', so neither row is written over the other; `stored`
-- joins them to one state, and the words outside its 64 are kept.
use mathlib.Core.List.{[]}
use mathlib.Core.Path.{◌≡◌}
use native.Mathlib.Omega.{arith}
use lib.ListN.{length, get_or}
use mir.Syntax.{w16}
use Rattle.lists.specs.Rows.{row_length}
use Rattle.cells.proofs.States.{no_row, row_then, both_rows, stored}
use Rattle.cells.proofs.store.Goals as goal

pub returns : goal.returns
returns c =
    let r₀ : length (get_or c.args.s 0 []) ≡ 32 = row_length w16 32 2 c.args.s _ c.well_formed.1.1.0 0 (omega arith) in
    let r₁ : length (get_or c.args.s 1 []) ≡ 32 = row_length w16 32 2 c.args.s _ c.well_formed.1.1.0 1 (omega arith) in
    let rows = both_rows c.args.s c.well_formed.1.1.0.1.0.1 in
    rw rows
    (stored _ _ _ _ _ c.requires.1 (omega (arith, c))
    (row_then (omega (arith, c)) (omega (arith, c)) c.store_row.ensures
    (row_then (omega (arith, c)) (omega (arith, c)) c.store_row-2.ensures no_row)))
