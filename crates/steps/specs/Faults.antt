-- What a check answers, and the paper's fault that it stands for.
use Rattle.std.specs.Prelude.{Bool, true, false, Ok, Err, List, [], ◌∷◌}
use Rattle.std.proofs.Math.Option.{Option, none, some}
use Rattle.paper.specs.Steps.{Fault, unknown_value_in_reg, incorrect_value_in_reg, unknown_value_in_slot, incorrect_value_in_slot, stack_map_specifies_non_ref_slot, stack_map_specifies_undefined_slot}
use Rattle.cells.specs.Packed.{name_of_word}
use Rattle.loaded.specs.Actions.{register_of}
use Rattle.steps.specs.declared.CheckerError.{CheckerError}
use Rattle.steps.specs.declared.CheckerError.TheVariants.{UnknownValueInReg, IncorrectValueInReg, UnknownValueInSlot, IncorrectValueInSlot, StackMapSpecifiesNonRefSlot, StackMapSpecifiesUndefinedSlot}
use Rattle.steps.specs.Checks.{CheckResult}

unfoldable pub error_fault : CheckerError → Fault
error_fault (UnknownValueInReg r) = unknown_value_in_reg (register_of r)
error_fault (IncorrectValueInReg r expected actual) = incorrect_value_in_reg (register_of r) (name_of_word expected) (name_of_word actual)
error_fault (UnknownValueInSlot k expected) = unknown_value_in_slot k (name_of_word expected)
error_fault (IncorrectValueInSlot k expected actual) = incorrect_value_in_slot k (name_of_word expected) (name_of_word actual)
error_fault (StackMapSpecifiesNonRefSlot k) = stack_map_specifies_non_ref_slot k
error_fault (StackMapSpecifiesUndefinedSlot k) = stack_map_specifies_undefined_slot k

-- the fault of a check's answer, where it is one
unfoldable pub fault_of : CheckResult → Option Fault
fault_of (Ok u) = none
fault_of (Err error) = some (error_fault error)

-- is there something in the list?
unfoldable pub some_in : {A : Type 0} → List A → Bool
some_in [] = false
some_in (x ∷ xs) = true
