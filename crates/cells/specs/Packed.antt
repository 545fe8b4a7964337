-- Names and cells in numbers, as the code holds them. A name has nine bits: virtual v is v, real r is 256 + r. A cell is
-- kind * 1024 + mark * 512 + name, with the kinds absent 0, unknown 1, conflicted 2 and named 3. Every number has a meaning.
use Rattle.std.specs.Prelude.{Bool, cond, ℕ, zero, suc, ◌-◌, ◌/◌, ◌%◌, eqb, ltb}
use Rattle.paper.specs.Text.{Name, real, virtual}
use Rattle.paper.specs.Cells.{Cell, absent, unknown, conflicted, named}

unfoldable pub name_of_word : ℕ → Name
name_of_word w = cond (ltb (w % 512) 256) (virtual (w % 512)) (real (w % 512 - 256))

unfoldable pub marked : ℕ → Bool
marked w = eqb (w / 512 % 2) 1

unfoldable pub of_kind : ℕ → Name → Bool → Cell
of_kind zero n m = absent
of_kind (suc zero) n m = unknown
of_kind (suc (suc zero)) n m = conflicted
of_kind (suc (suc (suc k))) n m = named n m

unfoldable pub cell_of : ℕ → Cell
cell_of w = of_kind (w / 1024 % 4) (name_of_word w) (marked w)
