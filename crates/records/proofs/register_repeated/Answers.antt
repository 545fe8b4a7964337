use mathlib.Core.Path.{sym, ◌∙◌}
use Rattle.std.proofs.Common.{rules, ◌-◌, ◌+◌, eqb, get_or, take, drop, length}
use Rattle.std.proofs.lemmas.Iterator.{YieldsList-from_slice}
use Rattle.std.proofs.lemmas.Iterator.Search.{any_from_yields_List}
use Rattle.records.specs.Parts.{no_codes, register_code}
use Rattle.records.proofs.LawsRepeats.{below_past, below_above, below_step, found_behind}
use Rattle.records.proofs.register_repeated.Goals as goal
use Rattle.records.proofs.register_repeated.Goals.{else-register-lt-NO_ALLOCATION-via-then-register-lt-NO_ALLOCATION+else-any, else-register-lt-NO_ALLOCATION-via-else-register-lt-NO_ALLOCATION}

pub returns-then-any : goal.returns-then-any
returns-then-any c =
    let l = c.args.operands.now in
    let i = c.loop-i.i in
    let x = register_code (get_or l i no_codes) in
    let found =
    any_from_yields_List (λ o. eqb o.register x) _ _ _ c.any.ensures.ran (YieldsList-from_slice (take (length l - (i + 1)) (drop (i + 1) l)) cc) (λ y b q k. search rules)
    ∙ found_behind register_code x i l in
    sym (c.loop-i.invariant ∙ below_step register_code l i 100000 c.loop-i-test.true c.if-register-lt-NO_ALLOCATION.true ∙ rw (sym found ∙ c.if-any.true))

pub loop-i-preserved : goal.loop-i-preserved
loop-i-preserved c =
    let l = c.args.operands.now in
    let i = c.loop-i.i in
    let x = register_code (get_or l i no_codes) in
    c.loop-i.invariant
    ∙ elim c.else-register-lt-NO_ALLOCATION.branch [
      | else-register-lt-NO_ALLOCATION-via-then-register-lt-NO_ALLOCATION+else-any w ↦
          let found =
          any_from_yields_List (λ o. eqb o.register x) _ _ _ w.any.ensures.ran (YieldsList-from_slice (take (length l - (i + 1)) (drop (i + 1) l)) cc) (λ y b q k. search rules)
          ∙ found_behind register_code x i l in
          below_step register_code l i 100000 c.loop-i-test.true w.if-register-lt-NO_ALLOCATION.true ∙ rw (sym found ∙ w.if-any.false)
      | else-register-lt-NO_ALLOCATION-via-else-register-lt-NO_ALLOCATION w ↦ below_above register_code l i 100000 c.loop-i-test.true w.if-register-lt-NO_ALLOCATION.false
    ]

pub returns : goal.returns
returns c = sym (c.loop-i.invariant ∙ below_past register_code _ _ _ c.loop-i-test.false)
