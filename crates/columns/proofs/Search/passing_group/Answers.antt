use native.Mathlib.Omega.{arith}
use Rattle.paper.specs.Refusals.{group_passing}
use Rattle.columns.proofs.LawsOperands.{grouped_none, those_before, grouped_done, name_stops, register_stops, grouped_more}
use Rattle.columns.proofs.Search.passing_group.Goals as goal

pub returns-in_default : goal.returns-in_default
unfolding group_passing
returns-in_default c = record { stops = λ more. c.in_default.ensures.stops _; few = omega arith }

pub loop-count-init : goal.loop-count-init
loop-count-init c = grouped_none _ _ _ _ _ _ c.in-Some.ensures.0.field.behind

pub returns-in_default-operand_name : goal.returns-in_default-operand_name
returns-in_default-operand_name c =
    let g = c.loop-count.invariant in
    let m = c.in-Some.ensures in
    name_stops g m.0 m.1 c.loop-count-test.true (c.in_default-operand_name.ensures g.us (those_before g))

pub operand_register-requires : goal.operand_register-requires
operand_register-requires c =
    let g = c.loop-count.invariant in
    ((c.in-Some-operand_name.ensures g.us (those_before g)).field.behind, c.in-Some.ensures.0.field.behind)

pub returns-in_default-operand_register : goal.returns-in_default-operand_register
returns-in_default-operand_register c =
    let g = c.loop-count.invariant in
    let m = c.in-Some.ensures in
    let e = those_before g in
    register_stops g m.0 m.1 c.loop-count-test.true _ (c.in-Some-operand_name.ensures g.us e) (c.in_default-operand_register.ensures g.us e)

pub loop-count-preserved : goal.loop-count-preserved
loop-count-preserved c =
    let g = c.loop-count.invariant in
    let m = c.in-Some.ensures in
    let e = those_before g in
    grouped_more g m.0 m.1 c.loop-count-test.true _ (c.in-Some-operand_name.ensures g.us e) _ (c.in-Some-operand_register.ensures g.us e)

pub returns : goal.returns
returns c =
    let m = c.in-Some.ensures in
    grouped_done c.loop-count.invariant m.0 m.1 c.loop-count-test.false
