-- `write_step` meets its contract: nothing behind every sheet's end, else the line of the action that the words hold.
use native.Mathlib.Omega.{arith}
use mathlib.Core.Path.{sym, ◌∙◌}
use Rattle.writer.proofs.LawsLeft.{unwritten}
use Rattle.writer.proofs.LawsText.{copy_written, change_written, operation_written, safepoint_written, copy_small, change_small, operation_small}
use Rattle.writer.proofs.write_step.Goals as goal

pub returns-then-at-gt-MAX_SHEET : goal.returns-then-at-gt-MAX_SHEET
returns-then-at-gt-MAX_SHEET c = unwritten _ _ _ c.if-at-gt-MAX_SHEET.true

pub action_at-action-requires : goal.action_at-action-requires
action_at-action-requires c = (c.requires.1, omega arith)

pub overflow_cast-into : goal.overflow_cast-into
overflow_cast-into c = omega (arith, copy_small _ _ (sym c.action_at-action.ensures ∙ c.in-Copy.is))

pub overflow_cast-from : goal.overflow_cast-from
overflow_cast-from c = omega (arith, copy_small _ _ (sym c.action_at-action.ensures ∙ c.in-Copy.is))

pub overflow_cast-slot : goal.overflow_cast-slot
overflow_cast-slot c = omega (arith, change_small _ _ (sym c.action_at-action.ensures ∙ c.in-Change.is))

pub write_groups-requires : goal.write_groups-requires
write_groups-requires c = let small = operation_small _ _ (sym c.action_at-action.ensures ∙ c.in-Operation.is) in
    (omega (arith, small, c.requires), omega (arith, small, c.requires), small.1, small.2, omega arith)

pub returns-in-Copy : goal.returns-in-Copy
returns-in-Copy c = copy_written _ _ (sym c.action_at-action.ensures ∙ c.in-Copy.is) c.copy_letter-letter.ensures c.write_pair.ensures.0

pub returns-in-Change : goal.returns-in-Change
returns-in-Change c = change_written _ _ (sym c.action_at-action.ensures ∙ c.in-Change.is) c.write_change.ensures

pub returns-in-Operation : goal.returns-in-Operation
returns-in-Operation c = operation_written _ _ (sym c.action_at-action.ensures ∙ c.in-Operation.is) c.write_lettered-a.ensures.0 c.write_groups.ensures

pub returns-in-Safepoint : goal.returns-in-Safepoint
returns-in-Safepoint c = safepoint_written _ _ (sym c.action_at-action.ensures ∙ c.in-Safepoint.is) c.write_safepoint.ensures
