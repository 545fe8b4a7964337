-- `records::list_slot` meets its contract: a case for a slot beyond the limit, one out of order, and one in order: its bit is above
-- all of the mask's, so it comes last of the set bits and the sum fits 32 bits.
use native.Mathlib.Omega.{arith}
use Rattle.records.proofs.LawsSlots.{one_bit, fits_mask, slot_beyond, slot_disorder, slot_listed}
use Rattle.records.proofs.list_slot.Goals as goal

pub returns-then-slots-slot : goal.returns-then-slots-slot
returns-then-slots-slot c = λ done h. slot_beyond h _ c.if-slots-slot.true

pub returns-then-slot-listed : goal.returns-then-slot-listed
returns-then-slot-listed c = λ done h. slot_disorder h _ c.if-slots-slot.false c.if-slot-listed.true

pub overflow_add-more : goal.overflow_add-more
overflow_add-more c =
    let below = c.if-slots-slot.false in
    record { fits = rw (one_bit c.args.slot (omega arith)) (fits_mask _ _ _ c.requires.1 c.if-slot-listed.false (omega arith)) }

pub returns : goal.returns
returns c =
    let below = c.if-slots-slot.false in
    λ done h. rw (one_bit c.args.slot (omega arith)) (slot_listed h _ c.requires.0 below c.if-slot-listed.false)
