use mathlib.Core.Path.{sym, ◌∙◌}
use Rattle.std.proofs.Common.{rules, ◌-◌, ◌+◌, eqb, get_or, take, drop, length}
use Rattle.std.proofs.lemmas.Iterator.{YieldsList-from_slice}
use Rattle.std.proofs.lemmas.Iterator.Search.{any_from_yields_List}
use Rattle.records.specs.Parts.{no_codes, name_code}
use Rattle.records.proofs.LawsRepeats.{same_past, same_step, found_behind}
use Rattle.records.proofs.name_repeated.Goals as goal

pub returns-then-any : goal.returns-then-any
returns-then-any c =
    let l = c.args.operands.now in
    let i = c.loop-i.i in
    let x = name_code (get_or l i no_codes) in
    let found =
    any_from_yields_List (λ o. eqb o.name x) _ _ _ c.any.ensures.ran (YieldsList-from_slice (take (length l - (i + 1)) (drop (i + 1) l)) cc) (λ y b q k. search rules)
    ∙ found_behind name_code x i l in
    sym (c.loop-i.invariant ∙ same_step name_code l i c.loop-i-test.true ∙ rw (sym found ∙ c.if-any.true))

pub loop-i-preserved : goal.loop-i-preserved
loop-i-preserved c =
    let l = c.args.operands.now in
    let i = c.loop-i.i in
    let x = name_code (get_or l i no_codes) in
    let found =
    any_from_yields_List (λ o. eqb o.name x) _ _ _ c.any.ensures.ran (YieldsList-from_slice (take (length l - (i + 1)) (drop (i + 1) l)) cc) (λ y b q k. search rules)
    ∙ found_behind name_code x i l in
    c.loop-i.invariant ∙ same_step name_code l i c.loop-i-test.true ∙ rw (sym found ∙ c.if-any.false)

pub returns : goal.returns
returns c = sym (c.loop-i.invariant ∙ same_past name_code _ _ c.loop-i-test.false)
