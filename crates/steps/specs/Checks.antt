-- The checks on packed words: what a use, a change and a listed slot find in a cell, and the first fault of a list.
use Rattle.std.specs.Prelude.{cond, ⊤, Result, Ok, Err, List, [], ◌∷◌, ℕ, ◌/◌, ◌%◌, eqb, get_or}
use Rattle.std.specs.Result.{result_and}
use Rattle.cells.specs.Packed.{marked}
use Rattle.steps.specs.declared.CheckerError.{CheckerError}
use Rattle.steps.specs.declared.CheckerError.TheVariants.{UnknownValueInReg, IncorrectValueInReg, UnknownValueInSlot, IncorrectValueInSlot, StackMapSpecifiesNonRefSlot, StackMapSpecifiesUndefinedSlot}

-- a check's answer: nothing, or what is wrong
abbrev pub CheckResult : Type 0
CheckResult = Result ⊤ CheckerError

unfoldable pub use_error : ℕ → ℕ → CheckResult
use_error u w =
    cond (eqb (w / 1024 % 4) 3)
    (cond (eqb (w % 512) (u % 512)) (Ok tt) (Err (IncorrectValueInReg (u / 1024) (u % 512) (w % 512))))
    (Err (UnknownValueInReg (u / 1024)))

unfoldable pub change_error : ℕ → ℕ → ℕ → CheckResult
change_error k from w =
    cond (eqb (w / 1024 % 4) 3)
    (cond (eqb (w % 512) (from % 512)) (Ok tt) (Err (IncorrectValueInSlot k (from % 512) (w % 512))))
    (Err (UnknownValueInSlot k (from % 512)))

unfoldable pub slot_error : ℕ → ℕ → CheckResult
slot_error k w =
    cond (eqb (w / 1024 % 4) 3)
    (cond (marked w) (Ok tt) (Err (StackMapSpecifiesNonRefSlot k)))
    (Err (StackMapSpecifiesUndefinedSlot k))

-- of a list, the first error that f finds
unfoldable pub first_error : (ℕ → CheckResult) → List ℕ → CheckResult
first_error f [] = Ok tt
first_error f (x ∷ xs) = result_and (f x) (first_error f xs)

-- a use, in a row of registers
abbrev pub use_in : List ℕ → ℕ → CheckResult
use_in row u = use_error u (get_or row (u / 1024) 0)

-- a listed slot, in a row of slots
abbrev pub slot_in : List ℕ → ℕ → CheckResult
slot_in row k = slot_error k (get_or row k 0)
