use mathlib.Core.Path.{sym, ◌∙◌}
use Rattle.columns.proofs.LawsOperands.{name_unread, register_unread, operand_read, searching_none, searching_bad, searching_found, searching_more, searching_done}
use Rattle.columns.proofs.Search.is_earlier.Goals as goal

pub loop-init : goal.loop-init
loop-init c = searching_none _ _ c.requires

pub returns-in_default : goal.returns-in_default
returns-in_default c = searching_bad c.loop.invariant c.loop-test.true (name_unread _ _ c.in_default.ensures)

pub returns-in_default-allocation_behind : goal.returns-in_default-allocation_behind
returns-in_default-allocation_behind c =
    searching_bad c.loop.invariant c.loop-test.true (register_unread c.in-Some.ensures.0 c.in_default-allocation_behind.ensures)

pub returns-then-is_shared : goal.returns-then-is_shared
returns-then-is_shared c =
    searching_found c.loop.invariant c.loop-test.true (operand_read c.in-Some.ensures.0 c.in-Some-allocation_behind.ensures.0) (sym c.is_shared.ensures ∙ c.if-is_shared.true)

pub loop-preserved : goal.loop-preserved
loop-preserved c =
    searching_more c.loop.invariant c.loop-test.true (operand_read c.in-Some.ensures.0 c.in-Some-allocation_behind.ensures.0) (sym c.is_shared.ensures ∙ c.if-is_shared.false)

pub returns : goal.returns
returns c = searching_done c.loop.invariant c.loop-test.false
