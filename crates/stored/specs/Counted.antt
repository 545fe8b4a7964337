-- What one sheet more makes of a tally.
use Rattle.std.specs.Prelude.{true, false, cond, ℕ, ◌+◌, ltb}
use Rattle.stored.specs.declared.Outcome.{Outcome}
use Rattle.stored.specs.declared.Outcome.TheVariants.{Same, Different, End}
use Rattle.stored.specs.declared.Tally.{Tally}

-- the most that is counted
abbrev pub most : ℕ
most = 1000000

unfoldable pub next : ℕ → ℕ
next n = cond (ltb n most) (n + 1) n

unfoldable pub counted : Tally → Outcome → Tally
counted t Same = record { same = next t.same; different = t.different; more = true }
counted t Different = record { same = t.same; different = next t.different; more = true }
counted t End = record { same = t.same; different = t.different; more = false }
