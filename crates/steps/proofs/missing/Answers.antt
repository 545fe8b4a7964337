-- `missing` meets its contract: only an operation has operands (`other`); where no use is missing, the defs decide.
use Rattle.std.proofs.Common.{◌≡◌, refl, sym, ◌∙◌, false, List, ℕ}
use Rattle.paper.specs.Report.{missing_names}
use Rattle.loaded.specs.declared.Action.TheVariants.{Copy, Change, Operation, Safepoint}
use Rattle.loaded.specs.declared.CopyKind.TheVariants.{Spill, Reload, Move}
use Rattle.loaded.specs.declared.Action.{Action}
use Rattle.loaded.specs.Actions.{copy_step, step_of}
use Rattle.steps.specs.Faults.{some_in}
use Rattle.steps.proofs.LawsMissing.{some_first}
use Rattle.steps.proofs.missing.Goals as goal

other : (words : List ℕ) (a : Action) → ((inst at uses defs : ℕ) → a ≡ Operation inst at uses defs → ⊥) → false ≡ some_in (missing_names (step_of words a))
unfolding some_in missing_names step_of copy_step
other words (Copy Spill k r) h = refl
other words (Copy Reload r k) h = refl
other words (Copy Move into from) h = refl
other words (Change inst k from to) h = refl
other words (Operation inst at n m) h = absurd (h inst at n m refl)
other words (Safepoint inst mask) h = refl

pub returns-in_default : goal.returns-in_default
returns-in_default c = other c.args.words.now c.args.action c.in_default.not-Operation

pub returns-then-missing_among : goal.returns-then-missing_among
unfolding missing_names step_of
returns-then-missing_among c =
    rw (c.in-Operation.is, some_first, sym c.missing_among.ensures ∙ c.if-missing_among.true) c.if-missing_among.true

pub returns-else-missing_among : goal.returns-else-missing_among
unfolding missing_names step_of
returns-else-missing_among c =
    rw (c.in-Operation.is, some_first, sym c.missing_among.ensures ∙ c.if-missing_among.false) c.missing_among-else-missing_among.ensures
