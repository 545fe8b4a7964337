use Rattle.std.proofs.Common.{rules, ◌∙◌, sym}
use Rattle.steps.specs.Checks.{use_in}
use Rattle.steps.specs.Parts.{part}
use Rattle.steps.proofs.LawsChecks.{next_use, no_use}
use Rattle.steps.proofs.check_uses.Goals as goal

pub loop-u-init : goal.loop-u-init
loop-u-init c = rw part

pub returns-in_err-check_use : goal.returns-in_err-check_use
returns-in_err-check_use c =
    let t = rw (sym c.check_use.ensures ∙ c.in_err-check_use.was) at (next_use (use_in c.args.row.now) _ c.loop-u.u-index c.loop-u-test.true) in
    search rules

pub loop-u-preserved : goal.loop-u-preserved
loop-u-preserved c =
    let t = rw (sym c.check_use.ensures ∙ c.in_ok-check_use.was) at (next_use (use_in c.args.row.now) _ c.loop-u.u-index c.loop-u-test.true) in
    c.loop-u.invariant ∙ t

pub returns : goal.returns
returns c = no_use _ _ _ c.loop-u-test.false ∙ sym c.loop-u.invariant
