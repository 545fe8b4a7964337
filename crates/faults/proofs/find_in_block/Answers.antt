use mathlib.Core.Path.{sym, ap, ◌∙◌}
use mathlib.Core.List.{List}
use Prim.Native.Nat.{ℕ, ◌+◌}
use native.Mathlib.Omega.{arith}
use Rattle.paper.specs.Report.{Line}
use Rattle.loaded.specs.Actions.{step_of, action_at}
use Rattle.loaded.specs.Blocks.{steps_in_words}
use Rattle.faults.specs.Missing.{step_lines, missing_lines}
use Rattle.faults.proofs.LawsBlock.{block_within}
use Rattle.faults.proofs.LawsMissing.{missing_here, missing_later, missing_ended}
use Rattle.faults.proofs.find_in_block.Goals as goal

pub returns-then-missing : goal.returns-then-missing
unfolding missing_lines
returns-then-missing c = let w = (block_within c.requires.0 c.requires.1) in
    let place = c.loop-place.place in
    let at : ℕ → List Line = λ n. step_lines c.args.block place (step_of c.args.words.now (action_at c.args.words.now (n + place))) in
    let some = sym c.missing.ensures ∙ c.if-missing.true in
    let found = rw (c.action_at-action.ensures ∙ ap (λ (n : ℕ). action_at c.args.words.now (n + c.loop-place.place)) c.first_step-first.ensures) at some in
    record {
      lines = rw (steps_in_words _ _ w.opened) (c.loop-place.invariant ∙ missing_here _ _ _ _ _ (omega arith) found ∙ ap at (sym c.first_step-first.ensures));
      within = (omega arith, omega arith, omega arith, rw c.action_at-action.ensures at some);
    }

pub loop-place-preserved : goal.loop-place-preserved
loop-place-preserved c = let none = rw (c.action_at-action.ensures ∙ ap (λ (n : ℕ). action_at c.args.words.now (n + c.loop-place.place)) c.first_step-first.ensures) at (sym c.missing.ensures ∙ c.if-missing.false) in
    (c.loop-place.invariant ∙ missing_later _ _ _ _ _ (omega arith) none)

pub returns : goal.returns
unfolding missing_lines
returns c = record { lines = rw (steps_in_words _ _ (block_within c.requires.0 c.requires.1).opened) (c.loop-place.invariant ∙ missing_ended _ _ _ _ _ (omega arith)); within = tt }
