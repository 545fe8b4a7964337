-- Numbers of at most five digits, as a report writes them: of a report's line, and of what a line is made of, a sheet's steps and the
-- cells of a state.
use Rattle.std.specs.Prelude.{List, [], ◌∷◌, ℕ, ◌≤◌, ◌<◌, length}
use Rattle.std.proofs.Math.Option.{Option, none, some}
use Rattle.paper.specs.Text.{Name, real, virtual}
use Rattle.paper.specs.Limits.{max_regs, max_slots, max_vregs, max_blocks, max_operands}
use Rattle.paper.specs.Sheet.{Operand, Step, spill, reload, move, change, operation, safepoint}
use Rattle.paper.specs.Cells.{Cell, absent, unknown, conflicted, named}
use Rattle.paper.specs.Steps.{Fault, missing_allocation_for_reg, unknown_value_in_reg, incorrect_value_in_reg, unknown_value_in_slot, incorrect_value_in_slot, stack_map_specifies_non_ref_slot, stack_map_specifies_undefined_slot}
use Rattle.paper.specs.Report.{Line, Entry, fault_entry, unreached_entry, faults_in}
use Rattle.paper.specs.Walks.{In}

abbrev pub Small : ℕ → Type 0
Small n = n < 100000

abbrev pub SmallName : Name → Type 0
SmallName (real n) = Small n
SmallName (virtual n) = Small n

-- a register that is given
abbrev pub SmallReg : Option ℕ → Type 0
SmallReg none = ⊥
SmallReg (some r) = Small r

abbrev pub SmallFault : Fault → Type 0
SmallFault (missing_allocation_for_reg n) = SmallName n
SmallFault (unknown_value_in_reg r) = SmallReg r
SmallFault (incorrect_value_in_reg r e a) = SmallReg r × SmallName e × SmallName a
SmallFault (unknown_value_in_slot k e) = Small k × SmallName e
SmallFault (incorrect_value_in_slot k e a) = Small k × SmallName e × SmallName a
SmallFault (stack_map_specifies_non_ref_slot k) = Small k
SmallFault (stack_map_specifies_undefined_slot k) = Small k

-- a line's numbers are small, and its register, if it names one, is given
pub record SmallLine (l : Line) : Type 0 where
  pub block : Small l.block
  pub place : Small l.place
  pub inst : Small l.inst
  pub fault : SmallFault l.fault

unfoldable pub SmallLines : List Line → Type 0
SmallLines [] = Unit {0}
SmallLines (l ∷ ls) = SmallLine l × SmallLines ls

abbrev pub SmallEntry : Entry → Type 0
SmallEntry (fault_entry l) = SmallLine l
SmallEntry (unreached_entry b) = Small b

unfoldable pub SmallEntries : List Entry → Type 0
SmallEntries [] = Unit {0}
SmallEntries (e ∷ es) = SmallEntry e × SmallEntries es

-- a report's lines, and how many faults are among them
pub record SmallReport (es : List Entry) : Type 0 where
  pub lines : SmallEntries es
  pub count : Small (length (faults_in es))

-- a register that need not be given
abbrev pub SmallAllocation : Option ℕ → Type 0
SmallAllocation none = Unit {0}
SmallAllocation (some r) = Small r

pub record SmallOperand (u : Operand) : Type 0 where
  pub name : SmallName u.name
  pub reg : SmallAllocation u.reg

pub record SmallOperands (us : List Operand) : Type 0 where
  pub few : length us ≤ max_operands
  pub each : (u : Operand) → In u us → SmallOperand u

-- the numbers of a step that can come into a report
abbrev pub SmallStep : Step → Type 0
SmallStep (spill k r) = Unit {0}
SmallStep (reload r k) = Unit {0}
SmallStep (move into from) = Unit {0}
SmallStep (change inst k from to) = Small inst × Small k × SmallName from × SmallName to
SmallStep (operation inst uses defs) = Small inst × SmallOperands uses × SmallOperands defs
SmallStep (safepoint inst slots) = Small inst × ((k : ℕ) → In k slots → Small k)

abbrev pub SmallCell : Cell → Type 0
SmallCell absent = Unit {0}
SmallCell unknown = Unit {0}
SmallCell conflicted = Unit {0}
SmallCell (named n m) = SmallName n

-- the counts of `F` are within their limits
pub record Limited (regs slots vregs blocks : ℕ) : Type 0 where
  pub few_regs : regs ≤ max_regs
  pub few_slots : slots ≤ max_slots
  pub few_vregs : vregs ≤ max_vregs
  pub few_blocks : blocks ≤ max_blocks
