-- The reader's answer over the C interface: 0 good, 1 a wrong word, 2 no seal line.
use Rattle.std.specs.Prelude.{ℕ}
use Rattle.paper.specs.declared.Seal.{Seal}
use Rattle.paper.specs.declared.Seal.TheVariants.{Good, Wrong, None}

unfoldable pub code_of : Seal → ℕ
code_of Good = 0
code_of Wrong = 1
code_of None = 2
