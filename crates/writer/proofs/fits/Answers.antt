use native.Mathlib.Omega.{arith}
use mathlib.Core.Path.{sym, ◌∙◌}
use Prim.Native.Nat.{◌+◌, ◌*◌}
use Rattle.layout.specs.Layout.{block_base, block_words, step_total_word}
use Rattle.writer.proofs.LawsLines.{fit_next, fit_succs, fit_steps, fit_end, fits_sized, fits_opened, fits_all}
use Rattle.writer.proofs.fits.Goals as goal

pub returns-then-words-lt-WORDS_SIZE : goal.returns-then-words-lt-WORDS_SIZE
returns-then-words-lt-WORDS_SIZE c = sym (fits_sized _ c.if-words-lt-WORDS_SIZE.true)

pub returns-then-opened-gt-MAX_BLOCKS : goal.returns-then-opened-gt-MAX_BLOCKS
returns-then-opened-gt-MAX_BLOCKS c = sym (fits_opened _ _ c.progress-reached.ensures c.if-words-lt-WORDS_SIZE.false c.if-opened-gt-MAX_BLOCKS.true)

pub loop-b-init : goal.loop-b-init
loop-b-init c = let size = c.if-words-lt-WORDS_SIZE.false in
    (omega arith, c.if-opened-gt-MAX_BLOCKS.false, size, fits_all _ _ c.progress-reached.ensures size c.if-opened-gt-MAX_BLOCKS.false)

pub succ_total-requires : goal.succ_total-requires
succ_total-requires c = (omega arith, omega arith)

pub returns-then-succ_total-gt-MAX_SUCCS : goal.returns-then-succ_total-gt-MAX_SUCCS
returns-then-succ_total-gt-MAX_SUCCS c = sym (c.loop-b.invariant.3 ∙ fit_succs _ _ _ c.loop-b-test.true (omega (arith, c.succ_total.ensures, c.if-succ_total-gt-MAX_SUCCS.true)))

pub first_step-requires : goal.first_step-requires
first_step-requires c = (omega arith, omega arith)

pub step_total-requires : goal.step_total-requires
step_total-requires c = (omega arith, omega arith)

pub overflow_add-first_step : goal.overflow_add-first_step
overflow_add-first_step c = let word = c.shared_slice_known-1.given in
    let first = block_base + c.loop-b.b * block_words in
    omega (arith, c.step_total.ensures, c.first_step.ensures, word first, word (first + step_total_word))

pub returns-then-first_step-step_total-gt-MAX_STEPS : goal.returns-then-first_step-step_total-gt-MAX_STEPS
returns-then-first_step-step_total-gt-MAX_STEPS c = sym (c.loop-b.invariant.3 ∙ fit_steps _ _ _ c.loop-b-test.true (omega (arith, c.succ_total.ensures, c.if-succ_total-gt-MAX_SUCCS.false))
    (omega (arith, c.step_total.ensures, c.first_step.ensures, c.if-first_step-step_total-gt-MAX_STEPS.true)))

pub loop-b-preserved : goal.loop-b-preserved
loop-b-preserved c = let inv = c.loop-b.invariant in (
  omega arith,
  inv.1,
  inv.2,
  inv.3 ∙ fit_next _ _ _ c.loop-b-test.true (omega (arith, c.succ_total.ensures, c.if-succ_total-gt-MAX_SUCCS.false))
      (omega (arith, c.step_total.ensures, c.first_step.ensures, c.if-first_step-step_total-gt-MAX_STEPS.false)),
)

pub returns : goal.returns
returns c = let inv = c.loop-b.invariant in sym (inv.3 ∙ fit_end _ _ _ (omega arith))
