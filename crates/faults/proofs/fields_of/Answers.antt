-- `fields_of` meets its contract: one case for each error; its register or slot is one that a sheet can have, so it fits, and a
-- register is not `-`.
use Rattle.faults.proofs.LawsFields.{unknown_in_reg, incorrect_in_reg, unknown_in_slot, incorrect_in_slot, non_ref_slot, undefined_slot}
use Rattle.faults.proofs.fields_of.Goals as goal

pub returns-in-UnknownValueInReg : goal.returns-in-UnknownValueInReg
returns-in-UnknownValueInReg c = rw (c.fault_fields.ensures, c.in-UnknownValueInReg.is) (unknown_in_reg _ (rw c.in-UnknownValueInReg.is at c.requires))

pub returns-in-IncorrectValueInReg : goal.returns-in-IncorrectValueInReg
returns-in-IncorrectValueInReg c = rw (c.fault_fields-in-IncorrectValueInReg.ensures, c.in-IncorrectValueInReg.is) (incorrect_in_reg _ (rw c.in-IncorrectValueInReg.is at c.requires) _ _)

pub returns-in-UnknownValueInSlot : goal.returns-in-UnknownValueInSlot
returns-in-UnknownValueInSlot c = rw (c.fault_fields-in-UnknownValueInSlot.ensures, c.in-UnknownValueInSlot.is) (unknown_in_slot _ (rw c.in-UnknownValueInSlot.is at c.requires) _)

pub returns-in-IncorrectValueInSlot : goal.returns-in-IncorrectValueInSlot
returns-in-IncorrectValueInSlot c = rw (c.fault_fields-in-IncorrectValueInSlot.ensures, c.in-IncorrectValueInSlot.is) (incorrect_in_slot _ (rw c.in-IncorrectValueInSlot.is at c.requires) _ _)

pub returns-in-StackMapSpecifiesNonRefSlot : goal.returns-in-StackMapSpecifiesNonRefSlot
returns-in-StackMapSpecifiesNonRefSlot c = rw (c.fault_fields-in-StackMapSpecifiesNonRefSlot.ensures, c.in-StackMapSpecifiesNonRefSlot.is) (non_ref_slot _ (rw c.in-StackMapSpecifiesNonRefSlot.is at c.requires))

pub returns-in-StackMapSpecifiesUndefinedSlot : goal.returns-in-StackMapSpecifiesUndefinedSlot
returns-in-StackMapSpecifiesUndefinedSlot c = rw (c.fault_fields-in-StackMapSpecifiesUndefinedSlot.ensures, c.in-StackMapSpecifiesUndefinedSlot.is) (undefined_slot _ (rw c.in-StackMapSpecifiesUndefinedSlot.is at c.requires))
