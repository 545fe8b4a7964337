use Rattle.records.proofs.LawsSlots.{slotting_none, slotting_bad, slotting_more, slotting_done}
use Rattle.records.proofs.read_slots.Goals as goal

pub loop-i-init : goal.loop-i-init
loop-i-init c = slotting_none _ c.requires.0

pub returns-in_err-slot : goal.returns-in_err-slot
returns-in_err-slot c = rw c.from_residual.ensures (slotting_bad c.loop-i.invariant c.loop-i-test.true c.in_err-slot.ensures)

pub loop-i-preserved : goal.loop-i-preserved
loop-i-preserved c = slotting_more c.loop-i.invariant c.in_ok-slot.ensures.0 c.list_slot-listed.ensures

pub returns : goal.returns
returns c = slotting_done c.loop-i.invariant c.loop-i-test.false
