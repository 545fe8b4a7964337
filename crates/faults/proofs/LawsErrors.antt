-- What a check can find in a step whose numbers are in range: a fault at one of the step's own registers or slots.
use Rattle.std.specs.Result.{ForErr}
use Rattle.steps.specs.Checks.{CheckResult}
use mathlib.Core.Path.{◌≡◌}
use mathlib.Core.Bool.{Bool, true, false, cond}
use mathlib.Core.List.{List, [], ◌∷◌, map}
use mathlib.Core.Option.{Option, none, some}
use Prim.Native.Nat.{ℕ, zero, suc, ◌+◌, ◌/◌, ◌%◌, ◌≤◌, ◌<◌}
use native.Mathlib.Decide.{ℕ_discrete}
use native.Mathlib.Omega.{arith}
use borrow.Author.Tests.{eq-eqb, ne_eqb}
use lib.Dec.{eqb}
use lib.ListN.{length, get_or}
use Rattle.paper.specs.Limits.{max_regs, max_slots}
use Rattle.lists.specs.Region.{region, length_region, getD_region}
use Rattle.lists.specs.Bits.{bits_from, set_bits}
use Rattle.paper.specs.Text.{Name, name_same}
use Rattle.paper.specs.Sheet.{Operand}
use Rattle.paper.specs.Cells.{Cell, absent, unknown, conflicted, named, pick}
use Rattle.paper.specs.Steps.{State, slot, get, Fault, first_of, check_use, check_uses, check_change, check_slot, check_slots, check}
use Rattle.paper.specs.Steps as fault
use Rattle.layout.specs.Layout.{row_widths}
use Rattle.loaded.specs.Actions.{copy_step, no_register, register_of, operand_of, operands, step_of, InRange}
use Rattle.steps.specs.Faults.{error_fault, fault_of}
use Rattle.loaded.specs.declared.Action.{Action}
use Rattle.loaded.specs.declared.Action.TheVariants.{Copy, Change, Operation, Safepoint}
use Rattle.loaded.specs.declared.CopyKind.TheVariants.{Spill, Reload, Move}
use Rattle.steps.specs.declared.CheckerError.{CheckerError}
use Rattle.steps.specs.declared.CheckerError.TheVariants as error
use Rattle.faults.specs.Errors.{ErrorWithin}

-- a register that a sheet can have
abbrev RegWithin : Option ℕ → Type 0
RegWithin none = ⊥
RegWithin (some r) = r < max_regs

abbrev FaultWithin : Option Fault → Type 0
FaultWithin none = Unit {0}
FaultWithin (some (fault.missing_allocation_for_reg n)) = Unit {0}
FaultWithin (some (fault.unknown_value_in_reg r)) = RegWithin r
FaultWithin (some (fault.incorrect_value_in_reg r e a)) = RegWithin r
FaultWithin (some (fault.unknown_value_in_slot k e)) = k < max_slots
FaultWithin (some (fault.incorrect_value_in_slot k e a)) = k < max_slots
FaultWithin (some (fault.stack_map_specifies_non_ref_slot k)) = k < max_slots
FaultWithin (some (fault.stack_map_specifies_undefined_slot k)) = k < max_slots

first_within : (o later : Option Fault) → FaultWithin o → FaultWithin later → FaultWithin (first_of o later)
unfolding first_of
first_within none later p q = q
first_within (some fault) later p q = p

use_within : (u : Operand) (c : Cell) → RegWithin u.reg → FaultWithin (check_use u c)
unfolding check_use
use_within u absent h = h
use_within u unknown h = h
use_within u conflicted h = h
use_within u (named k m) h = go (name_same k u.name)
  where
    go : (d : Dec (k ≡ u.name)) → FaultWithin (pick d none (some (fault.incorrect_value_in_reg u.reg u.name k)))
    go (yes p) = tt
    go (no p) = h

reg_within : (r : ℕ) → r < max_regs → RegWithin (register_of r)
unfolding register_of
reg_within r h = rw (ne_eqb r no_register (λ e. omega arith)) h

uses_within : (ws : List ℕ) (s : State) → ((i : ℕ) → i < length ws → get_or ws i 0 / 1024 < max_regs) → FaultWithin (check_uses (map operand_of ws) s)
unfolding check_uses operand_of
uses_within [] s h = tt
uses_within (w ∷ ws) s h =
    first_within _ _ (use_within (operand_of w) _ (reg_within (w / 1024) (h 0 (omega arith)))) (uses_within ws s (λ i l. h (suc i) (omega arith)))

change_within : (k : ℕ) (from : Name) (c : Cell) → k < max_slots → FaultWithin (check_change k from c)
unfolding check_change
change_within k from absent h = h
change_within k from unknown h = h
change_within k from conflicted h = h
change_within k from (named j m) h = go (name_same j from)
  where
    go : (d : Dec (j ≡ from)) → FaultWithin (pick d none (some (fault.incorrect_value_in_slot k from j)))
    go (yes p) = tt
    go (no p) = h

slot_within : (k : ℕ) (c : Cell) → k < max_slots → FaultWithin (check_slot k c)
unfolding check_slot
slot_within k absent h = h
slot_within k unknown h = h
slot_within k conflicted h = h
slot_within k (named n true) h = tt
slot_within k (named n false) h = h

-- the slots of a mask, from bit i on
bits_within : (n i m : ℕ) (s : State) → i + n ≤ max_slots → FaultWithin (check_slots (bits_from n i m) s)
unfolding check_slots bits_from
bits_within zero i m s h = tt
bits_within (suc n) i m s h = go (eqb (m % 2) 1) (bits_within n (i + 1) (m / 2) s (omega arith))
  where
    go : (x : Bool) → FaultWithin (check_slots (bits_from n (i + 1) (m / 2)) s)
        → FaultWithin (check_slots (cond x (i ∷ bits_from n (i + 1) (m / 2)) (bits_from n (i + 1) (m / 2))) s)
    go true q = first_within _ _ (slot_within i (get s (slot i)) (omega arith)) q
    go false q = q

check_within : (words : List ℕ) (a : Action) (s : State) → InRange row_widths words a → FaultWithin (check (step_of words a) s)
unfolding check step_of copy_step operands set_bits
check_within words (Copy Spill k r) s h = tt
check_within words (Copy Reload r k) s h = tt
check_within words (Copy Move into from) s h = tt
check_within words (Change inst k from to) s h = change_within k _ _ h
check_within words (Operation inst at n m) s h =
    uses_within (region at n words) s λ i l.
    let fits : at + n ≤ length words = omega arith in
    let hi : i < n = omega (arith, length_region at n words fits) in
    rw (getD_region at n words i hi) (h.3 i hi)
check_within words (Safepoint inst mask) s h = bits_within max_slots 0 mask s (omega arith)

register_within : (r : ℕ) → RegWithin (register_of r) → r < max_regs
unfolding register_of
register_within r h = go (ℕ_discrete r no_register)
  where
    go : Dec (r ≡ no_register) → r < max_regs
    go (yes p) = absurd (rw (eq-eqb r no_register p) at h)
    go (no p) = rw (ne_eqb r no_register p) at h

within_of : (e : CheckerError) → FaultWithin (some (error_fault e)) → ErrorWithin e
unfolding error_fault
within_of (error.UnknownValueInReg r) h = register_within r h
within_of (error.IncorrectValueInReg r x a) h = register_within r h
within_of (error.UnknownValueInSlot k x) h = h
within_of (error.IncorrectValueInSlot k x a) h = h
within_of (error.StackMapSpecifiesNonRefSlot k) h = h
within_of (error.StackMapSpecifiesUndefinedSlot k) h = h

pub error_within : (words : List ℕ) (a : Action) (s : State) (r : CheckResult) → InRange row_widths words a
    → fault_of r ≡ check (step_of words a) s → ForErr r ErrorWithin
unfolding fault_of
error_within words a s r h f e is = within_of e (rw is at (rw (← f) at (check_within words a s h)))
