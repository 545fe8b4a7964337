-- `seal::verify` meets its contract: each test is one of the paper.
use mathlib.Core.Path.{sym, ap, ◌∙◌}
use mathlib.Core.Bool.{true, false}
use Rattle.paper.specs.Seal.{seal_line}
use Rattle.seal.proofs.LawsSeal.{short, unshaped, unclosed, told}
use Rattle.seal.proofs.verify.Goals as goal

pub returns-then-text-lt-SEAL_SIZE : goal.returns-then-text-lt-SEAL_SIZE
returns-then-text-lt-SEAL_SIZE c = short _ c.if-text-lt-SEAL_SIZE.true

pub returns-then-not-seal_shaped : goal.returns-then-not-seal_shaped
returns-then-not-seal_shaped c = unshaped _ c.if-text-lt-SEAL_SIZE.false (sym c.seal_shaped.ensures ∙ c.if-not-seal_shaped.true)

pub returns-then-not-closed : goal.returns-then-not-closed
returns-then-not-closed c =
    unclosed _ c.if-text-lt-SEAL_SIZE.false (sym c.seal_shaped.ensures ∙ c.if-not-seal_shaped.false) (sym c.closed.ensures ∙ c.if-not-closed.true)

pub returns-then-eq : goal.returns-then-eq
returns-then-eq c =
    let line = c.seal_line-line.ensures ∙ ap seal_line c.crc-word.ensures in
    told _ c.if-text-lt-SEAL_SIZE.false (sym c.seal_shaped.ensures ∙ c.if-not-seal_shaped.false) (sym c.closed.ensures ∙ c.if-not-closed.false) _ line true (sym c.eq.ensures ∙ c.if-eq.true)

pub returns-else-eq : goal.returns-else-eq
returns-else-eq c =
    let line = c.seal_line-line.ensures ∙ ap seal_line c.crc-word.ensures in
    told _ c.if-text-lt-SEAL_SIZE.false (sym c.seal_shaped.ensures ∙ c.if-not-seal_shaped.false) (sym c.closed.ensures ∙ c.if-not-closed.false) _ line false (sym c.eq.ensures ∙ c.if-eq.false)
