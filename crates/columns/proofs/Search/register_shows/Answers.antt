-- `columns::Search::register_shows` meets its contract: each refusal has one test of a register, and any other number none.
use mathlib.Core.Path.{◌∙◌}
use Rattle.columns.proofs.LawsOperands.{register_limit, register_home, register_earlier, register_unasked}
use Rattle.columns.proofs.Search.register_shows.Goals as goal

pub returns-then-self-eq-BEYOND_LIMIT : goal.returns-then-self-eq-BEYOND_LIMIT
returns-then-self-eq-BEYOND_LIMIT c us e = register_limit _ _ _ us _ _ c.if-self-eq-BEYOND_LIMIT.true

pub returns-then-self-eq-REAL_ELSEWHERE : goal.returns-then-self-eq-REAL_ELSEWHERE
returns-then-self-eq-REAL_ELSEWHERE c us e =
    c.is_elsewhere.ensures ∙ register_home _ _ _ us _ _ c.if-self-eq-REAL_ELSEWHERE.true

pub returns-then-self-defs : goal.returns-then-self-defs
returns-then-self-defs c us e = c.is_earlier.ensures us e ∙ register_earlier _ _ _ us _ _ c.if-self-defs.true

pub returns : goal.returns
returns c us e =
    register_unasked _ _ _ us _ _ c.if-self-eq-BEYOND_LIMIT.false c.if-self-eq-REAL_ELSEWHERE.false c.if-self-defs.false
