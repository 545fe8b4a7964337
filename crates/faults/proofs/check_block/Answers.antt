use mathlib.Core.List.{List}
use Rattle.paper.specs.declared.Rule.{Rule}
use Rattle.loaded.specs.declared.Action.{Action}
use Rattle.faults.specs.Reported.{Checkable}
use Prim.Native.Nat.{◌<◌}
use Rattle.layout.specs.Layout.{blocks_word}
use mathlib.Core.Path.{◌≡◌, refl, ap, ◌∙◌}
use Prim.Native.Nat.{ℕ, ◌+◌}
use native.Mathlib.Omega.{arith}
use lib.ListN.{get_or}
use Rattle.loaded.specs.Laws.{in_range_most}
use Rattle.loaded.specs.Allocated.{in_range_at, honest_at}
use Rattle.loaded.specs.Actions.{action_at, step_of, InRange}
use Rattle.loaded.specs.Loaded.{first_step, step_total, counts_in}
use Rattle.paper.specs.Report.{inst_of}
use Rattle.steps.specs.Faults.{fault_of}
use Rattle.faults.proofs.LawsPasses.{pass_nothing}
use Rattle.faults.proofs.LawsErrors.{error_within}
use Rattle.faults.proofs.LawsBlock.{block_within, so_far_none, so_far_all, so_far_more}
use Rattle.layout.specs.Layout.{row_widths}
use Rattle.faults.proofs.check_block.Goals as goal
use Rattle.faults.proofs.check_block.Goals.{in-Err, in_default}

-- the step is the one at its place of the block
here : (words : List ℕ) (block place : ℕ) {first : ℕ} {a : Action} → first ≡ first_step words block → a ≡ action_at words (first + place)
    → a ≡ action_at words (first_step words block + place)
here words block place f e = e ∙ ap (λ (n : ℕ). action_at words (n + place)) f

-- its operands lie below the counts, since no allocation is missing, and so in their rows
runs : {rule : Rule} {words : List ℕ} {block place first count : ℕ} {a : Action} → Checkable rule words → block < get_or words blocks_word 0
    → first ≡ first_step words block → a ≡ action_at words (first + place) → count ≡ step_total words block → place < count
    → InRange (counts_in words) words a
runs {rule} {words} {block} {place} C h f e t p = rw (here words block place f e) (in_range_at C.loaded block h C.allocated place (omega arith))

most : {rule : Rule} {words : List ℕ} {block : ℕ} (a : Action) → Checkable rule words → block < get_or words blocks_word 0
    → InRange (counts_in words) words a → InRange row_widths words a
most {rule} {words} {block} a C h r = in_range_most (counts_in words) words a (block_within C.loaded h).rows r

pub loop-place-init : goal.loop-place-init
loop-place-init g c = so_far_none c.requires.0 c.requires.1 g.met.L.Lines.laws _ _ (c.load-t.ensures _ (block_within c.requires.0.loaded c.requires.1).rows)

pub check-requires : goal.check-requires
check-requires g c = (most _ c.requires.0 c.requires.1 (runs c.requires.0 c.requires.1 c.first_step-first.ensures c.action_at-action.ensures c.step_total-count.ensures c.loop-place-test.true))

pub fault-requires : goal.fault-requires
fault-requires g c = let w = block_within c.requires.0.loaded c.requires.1 in
    let r = runs c.requires.0 c.requires.1 c.first_step-first.ensures c.action_at-action.ensures c.step_total-count.ensures c.loop-place-test.true in
    let f = c.check.ensures (counts_in c.args.words.now) r in
    let e = error_within _ c.action_at-action.result _ _ (most _ c.requires.0 c.requires.1 r) f in
    let before = c.loop-place.invariant.passed in
    ((omega arith, omega arith), e _ c.in-Err.is, omega (arith, before.most, before.kept))

pub update-requires : goal.update-requires
update-requires g c = (most _ c.requires.0 c.requires.1 (runs c.requires.0 c.requires.1 c.first_step-first.ensures c.action_at-action.ensures c.step_total-count.ensures c.loop-place-test.true))

pub loop-place-preserved : goal.loop-place-preserved
unfolding fault_of
loop-place-preserved g c =
    let laws = g.met.L.Lines.laws in
    let words = c.args.words.now in
    let a = c.action_at-action.result in
    let w = block_within c.requires.0.loaded c.requires.1 in
    let h = here words c.args.block c.loop-place.place c.first_step-first.ensures c.action_at-action.ensures in
    let r = runs c.requires.0 c.requires.1 c.first_step-first.ensures c.action_at-action.ensures c.step_total-count.ensures c.loop-place-test.true in
    let f = c.check.ensures (counts_in words) r in
    let u = c.update.ensures _ w.rows r _ (rw h (honest_at c.requires.0.loaded _ c.requires.1 _ (omega arith))) in
    elim c.match-check.branch [
      | in-Err n ↦ rw n.lines-is
          (so_far_more laws a (fault_of c.check.result) _ h f (n.inst_of-inst.ensures _) u c.loop-place.invariant (rw n.in-Err.is n.fault.ensures))
      | in_default n ↦ rw n.lines-is
          (so_far_more laws a (fault_of c.check.result) (inst_of (step_of words a)) h f refl u c.loop-place.invariant (rw n.in_default.is (pass_nothing laws _ _ _)))
    ]

pub returns : goal.returns
returns g c = let e : c.loop-place.place ≡ step_total c.args.words.now c.args.block = omega arith in
    so_far_all c.requires.0 c.requires.1 (rw e at c.loop-place.invariant)
