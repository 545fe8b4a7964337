-- `records::read_change` meets its contract: the fields are taken in the paper's order, each where the last one ended; a bad one,
-- or one too many, leaves no `C`.
use Rattle.records.proofs.LawsSteps.{change_no_inst, change_no_slot, change_no_from, change_no_to, change_too_long, change_says, change_ends}
use Rattle.records.proofs.read_change.Goals as goal

pub returns-in_err-inst : goal.returns-in_err-inst
returns-in_err-inst c = rw c.from_residual.ensures (change_no_inst _ _ c.in_err-inst.ensures)

pub returns-in_err-slot : goal.returns-in_err-slot
returns-in_err-slot c = rw c.from_residual-in_err-slot.ensures (change_no_slot c.in_ok-inst.ensures.0 c.in_err-slot.ensures)

pub returns-in_err-from : goal.returns-in_err-from
returns-in_err-from c = rw c.from_residual-in_err-from.ensures (change_no_from c.in_ok-inst.ensures.0 c.in_ok-slot.ensures.0 c.in_err-from.ensures)

pub returns-in_err-to : goal.returns-in_err-to
returns-in_err-to c = rw c.from_residual-in_err-to.ensures (change_no_to c.in_ok-inst.ensures.0 c.in_ok-slot.ensures.0 c.in_ok-from.ensures.0 c.in_err-to.ensures)

pub returns-then-s-next-ne10 : goal.returns-then-s-next-ne10
returns-then-s-next-ne10 c = change_too_long c.in_ok-inst.ensures.0 c.in_ok-slot.ensures.0 c.in_ok-from.ensures.0 c.in_ok-to.ensures.0 c.if-s-next-ne10.true

pub returns : goal.returns
returns c = record {
  says = change_says c.in_ok-inst.ensures.0 c.in_ok-slot.ensures.0 c.in_ok-from.ensures.0 c.in_ok-to.ensures.0 c.if-s-next-ne10.false;
  ends = change_ends c.in_ok-inst.ensures.0 c.in_ok-slot.ensures.0 c.in_ok-from.ensures.0 c.in_ok-to.ensures.0 c.if-s-next-ne10.false;
}
