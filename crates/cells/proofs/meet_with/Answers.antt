-- `meet_with` meets its contract: the slots' words begin 32 behind the registers', so the rows are met apart; `met_with` joins them
-- to one state, where a word that changed means another cell.
use mathlib.Core.List.{[]}
use mathlib.Core.Bool.{◌||◌, or-false}
use mathlib.Core.Path.{◌≡◌, sym, ◌∙◌, ap₂}
use native.Mathlib.Omega.{arith}
use lib.ListN.{length, get_or}
use mir.Syntax.{w16}
use Rattle.lists.specs.Rows.{row_length}
use Rattle.cells.proofs.States.{no_row, row_then, moves, both_rows, met_with}
use Rattle.cells.proofs.meet_with.Goals as goal

pub returns : goal.returns
unfolding moves
returns c =
    let r₀ : length (get_or c.args.s 0 []) ≡ 32 = row_length w16 32 2 c.args.s _ c.well_formed.1.1.1.1.0 0 (omega arith) in
    let r₁ : length (get_or c.args.s 1 []) ≡ 32 = row_length w16 32 2 c.args.s _ c.well_formed.1.1.1.1.0 1 (omega arith) in
    let rows = both_rows c.args.s c.well_formed.1.1.1.1.0.1.0.1 in
    rw rows
    (met_with c.requires.2 (omega (arith, c))
    (row_then (omega (arith, c)) (omega (arith, c)) c.meet_row-a.ensures.0
    (row_then (omega (arith, c)) (omega (arith, c)) c.meet_row-b.ensures.0 no_row))
    (ap₂ ◌||◌ c.meet_row-a.ensures.1 (c.meet_row-b.ensures.1 ∙ sym (or-false _))))
