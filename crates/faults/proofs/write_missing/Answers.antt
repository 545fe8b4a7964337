-- `write_missing` meets its contract: the step that was found has an operand with no allocation, so it is an operation, and its
-- lines are all the report's: its missing uses, or, when none is missing, its missing defs.
use mathlib.Core.Path.{◌≡◌, refl, sym, ◌∙◌, subst}
use mathlib.Core.Bool.{true, true≢false}
use mathlib.Core.List.{List}
use Prim.Native.Nat.{ℕ}
use native.Mathlib.Omega.{arith}
use Rattle.paper.specs.Report.{missing_names}
use Rattle.loaded.specs.declared.Action.{Action}
use Rattle.loaded.specs.declared.Action.TheVariants.{Copy, Change, Operation, Safepoint}
use Rattle.loaded.specs.declared.CopyKind.TheVariants.{Spill, Reload, Move}
use Rattle.loaded.specs.Actions.{copy_step, step_of, RoomFor}
use Rattle.steps.specs.Faults.{some_in}
use Rattle.faults.proofs.LawsBlock.{room_at}
use Rattle.faults.proofs.LawsMissing.{entries_missing, lines_of_uses, lines_of_defs, some_defs}
use Rattle.faults.proofs.write_missing.Goals as goal

-- no other step has operands
other : (words : List ℕ) (a : Action) → ((inst at uses defs : ℕ) → a ≡ Operation inst at uses defs → ⊥) → some_in (missing_names (step_of words a)) ≡ true → ⊥
unfolding some_in missing_names step_of copy_step
other words (Copy Spill k r) h e = true≢false (sym e)
other words (Copy Reload r k) h e = true≢false (sym e)
other words (Copy Move into from) h e = true≢false (sym e)
other words (Change inst k from to) h e = true≢false (sym e)
other words (Operation inst at n m) h e = h inst at n m refl
other words (Safepoint inst mask) h e = true≢false (sym e)

pub returns-in_default : goal.returns-in_default
returns-in_default c = absurd (other c.args.words.now c.action_at.result c.in_default.not-Operation (rw c.action_at.ensures c.requires.1.within.3))

pub returns-then-missing_among : goal.returns-then-missing_among
returns-then-missing_among c = rw ((rw (sym c.action_at.ensures ∙ c.in-Operation.is) at (entries_missing c.args.rule c.args.words.now c.args.missing c.requires.1)), lines_of_uses _ _ _ _ _ _ _ (sym c.missing_among.ensures ∙ c.if-missing_among.true)) c.write_missing_among.ensures

pub write_missing_among-requires-2 : goal.write_missing_among-requires-2
write_missing_among-requires-2 c = let r = (subst (λ (a : Action). RoomFor a c.args.words.now) (sym c.action_at.ensures ∙ c.in-Operation.is)
    (room_at c.requires.0 c.args.missing.k c.requires.1.within.2)) in (
      omega arith,
      omega arith,
      (omega (arith, c.requires.0.bounds.blocks, c.requires.1.within), c.requires.1.within.1),
      c.requires.2,
      some_defs _ _ _ _ _ (sym c.missing_among.ensures ∙ c.if-missing_among.false) (rw (sym c.action_at.ensures ∙ c.in-Operation.is) at c.requires.1.within.3),
    )

pub returns : goal.returns
returns c = rw ((rw (sym c.action_at.ensures ∙ c.in-Operation.is) at (entries_missing c.args.rule c.args.words.now c.args.missing c.requires.1)), lines_of_defs _ _ _ _ _ _ _ (sym c.missing_among.ensures ∙ c.if-missing_among.false)) c.write_missing_among-2.ensures
