use mathlib.Core.Path.{refl, sym, ◌∙◌}
use native.Mathlib.Omega.{arith}
use lib.Seq.{length-take-le}
use Rattle.layout.specs.Layout.{block_base}
use Rattle.sheet.proofs.LawsText.{text_of}
use Rattle.sheet.proofs.LawsProgress.{size_of}
use Rattle.sheet.proofs.LawsLoad.{ahead_at_first, line_good, line_further, bad_progress, line_bad, too_few, all_read, no_sheet, cleared_length, cleared_blank, load_from}
use Rattle.sheet.proofs.load.Goals as goal

pub returns-then-no_text : goal.returns-then-no_text
returns-then-no_text c = no_sheet _ _ (sym c.no_text.ensures ∙ c.if-no_text.true)

pub slice_bounds-clear-end-2 : goal.slice_bounds-clear-end-2
slice_bounds-clear-end-2 c = sym (length-take-le block_base c.args.words.now (omega arith))

pub loop-at-init : goal.loop-at-init
loop-at-init c =
    ahead_at_first _ _ _ (sym c.no_text.ensures ∙ c.if-no_text.false) (cleared_blank c.args.words.now _ c.clear.ensures
    (omega (arith, c.requires))) refl

pub read_line-requires : goal.read_line-requires
read_line-requires c =
    ((text_of _ (sym c.no_text.ensures ∙ c.if-no_text.false)), c.loop-at-test.true, c.loop-at.invariant.progress)

-- a bad line
pub refusal_of-requires : goal.refusal_of-requires
refusal_of-requires c =
    let h = c.loop-at-test.true in
    ((text_of _ (sym c.no_text.ensures ∙ c.if-no_text.false)), h, size_of _ (bad_progress c.loop-at.invariant h c.in-Err.breach c.in-Err.ensures))

pub shape_of-words-in-Err : goal.shape_of-words-in-Err
shape_of-words-in-Err c =
    c.read_line.ensures.same_length ∙ (c.loop-at.invariant.same_length ∙ (cleared_length c.args.words.now _ c.clear.ensures
    (omega (arith, c.requires))))

pub returns-in-Err : goal.returns-in-Err
returns-in-Err c =
    load_from _ (cleared_length c.args.words.now _ c.clear.ensures
    (omega (arith, c.requires)))
    (line_bad c.loop-at.invariant c.loop-at-test.true c.in-Err.breach c.in-Err.ensures c.refusal_of.ensures)

pub overflow_add-line : goal.overflow_add-line
overflow_add-line c =
    let t = (text_of _ (sym c.no_text.ensures ∙ c.if-no_text.false)) in
    omega (arith, c.loop-at.invariant.few, c.loop-at-test.true)

pub loop-at-smaller : goal.loop-at-smaller
loop-at-smaller c =
    let h = c.loop-at-test.true in
    omega (arith, line_further c.loop-at.invariant h c.in-Ok.next c.in-Ok.ensures, h)

pub loop-at-preserved : goal.loop-at-preserved
loop-at-preserved c =
    line_good c.loop-at.invariant c.loop-at-test.true c.in-Ok.next c.in-Ok.ensures

pub progress-reached-requires : goal.progress-reached-requires
progress-reached-requires c = (size_of _ c.loop-at.invariant.progress)

pub blocks-requires : goal.blocks-requires
blocks-requires c = (size_of _ c.loop-at.invariant.progress)

pub shape_of-words-then-reached-blocks : goal.shape_of-words-then-reached-blocks
shape_of-words-then-reached-blocks c = (c.loop-at.invariant.same_length ∙ (cleared_length c.args.words.now _ c.clear.ensures
    (omega (arith, c.requires))))

pub returns-then-reached-blocks : goal.returns-then-reached-blocks
returns-then-reached-blocks c =
    load_from _ (cleared_length c.args.words.now _ c.clear.ensures
    (omega (arith, c.requires))) (too_few c.loop-at.invariant c.loop-at-test.false c.progress-reached.ensures c.blocks-2.ensures c.if-reached-blocks.true)

pub shape_of-words : goal.shape_of-words
shape_of-words c = (c.loop-at.invariant.same_length ∙ (cleared_length c.args.words.now _ c.clear.ensures
    (omega (arith, c.requires))))

pub returns : goal.returns
returns c =
    load_from _ (cleared_length c.args.words.now _ c.clear.ensures
    (omega (arith, c.requires))) (all_read c.loop-at.invariant c.loop-at-test.false c.progress-reached.ensures c.blocks-2.ensures c.if-reached-blocks.false)
