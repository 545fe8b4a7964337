use Rattle.std.proofs.Common.{rules, ◌∙◌, sym, arith}
use Rattle.steps.specs.Checks.{slot_in}
use Rattle.steps.proofs.LawsChecks.{next_slot, no_slot}
use Rattle.steps.proofs.check_stackmap.Goals as goal

pub returns-then-left-eq0 : goal.returns-then-left-eq0
returns-then-left-eq0 c = no_slot _ _ c.if-left-eq0.true ∙ sym c.search.invariant.1

pub returns-in-Err : goal.returns-in-Err
returns-in-Err c =
    let t = rw (sym c.check_slot.ensures ∙ c.in-Err.is) at (next_slot (slot_in c.args.row.now) c.search.left c.if-left-eq0.false c.search.invariant.0) in
    search rules

pub search-preserved : goal.search-preserved
search-preserved c =
    let t = rw (sym c.check_slot.ensures ∙ c.in_default.is) at (next_slot (slot_in c.args.row.now) c.search.left c.if-left-eq0.false c.search.invariant.0) in
    (omega (arith, c.without_lowest-left.ensures), rw c.without_lowest-left.ensures (c.search.invariant.1 ∙ t))
