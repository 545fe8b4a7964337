-- `entry_states` meets its contract: a buffer that is too short is left as it is, and behind any other call the scratch is cleared.
use mathlib.Core.Path.{sym, ◌∙◌}
use native.Mathlib.Omega.{arith}
use Rattle.checker.specs.Lengths.{long}
use Rattle.checker.proofs.Texts.{short_outcome}
use Rattle.states.proofs.LawsCall.{stated}
use Rattle.states.proofs.entry_states.Goals as goal

pub returns-then-too_short : goal.returns-then-too_short
returns-then-too_short c = (short_outcome _ _ _ (sym c.too_short.ensures ∙ c.if-too_short.true), omega arith)

pub write_states-length-requires : goal.write_states-length-requires
write_states-length-requires c = long _ _ _ _ (sym c.too_short.ensures ∙ c.if-too_short.false)

pub returns : goal.returns
returns c =
    let long = sym c.too_short.ensures ∙ c.if-too_short.false in
    (stated c.write_states-length.ensures c.clear.ensures c.clear-2.ensures long, c.write_states-length.ensures.most)
