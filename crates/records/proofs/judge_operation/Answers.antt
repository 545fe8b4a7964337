-- `records::judge_operation` meets its contract: beyond a limit nothing behind it plays a part; else both groups have at most 8
-- operands and are held whole, so that the tests on what is held are those on all operands.
use mathlib.Core.Path.{sym, ◌∙◌}
use Rattle.records.proofs.LawsTold.{judged_by}
use Rattle.records.proofs.LawsGroups.{group_few, uses_pass, defs_pass, unbroken, operation_beyond, operation_tested}
use Rattle.records.proofs.judge_operation.Goals as goal

pub returns-then-beyond : goal.returns-then-beyond
returns-then-beyond c =
    let u = c.group_beyond.ensures in
    let d = c.group_beyond-2.ensures in record {
      value = λ so us ds p h ku kd. judged_by (operation_beyond ku kd _ _ u d (p _) h c.if-beyond.true) c.lowest.ensures;
      clear = unbroken _ _ _ _ _ _ _ _ u d _ c.lowest.ensures;
    }

pub shared_ref_as_front-used : goal.shared_ref_as_front-used
shared_ref_as_front-used c = group_few _ _ (sym c.group_beyond.ensures ∙ uses_pass c.args.inst _ c.group_beyond-2.result c.if-beyond.false)

pub shared_ref_as_front-defined : goal.shared_ref_as_front-defined
shared_ref_as_front-defined c = group_few _ _ (sym c.group_beyond-2.ensures ∙ defs_pass c.args.inst c.group_beyond.result _ c.if-beyond.false)

pub any_elsewhere-requires : goal.any_elsewhere-requires
any_elsewhere-requires c = (
  c.requires.0,
  group_few _ _ (sym c.group_beyond.ensures ∙ uses_pass c.args.inst _ c.group_beyond-2.result c.if-beyond.false),
)

pub any_elsewhere-requires-2 : goal.any_elsewhere-requires-2
any_elsewhere-requires-2 c = (
  c.requires.1,
  group_few _ _ (sym c.group_beyond-2.ensures ∙ defs_pass c.args.inst c.group_beyond.result _ c.if-beyond.false),
)

pub returns : goal.returns
returns c =
    let u = c.group_beyond.ensures in
    let d = c.group_beyond-2.ensures in record {
      value = λ so us ds p h ku kd.
          judged_by
          (operation_tested ku kd _ _ u d (p _) h c.if-beyond.false c.name_repeated.ensures c.name_repeated-2.ensures c.register_repeated.ensures
          c.any_elsewhere.ensures
          c.any_elsewhere-2.ensures)
          c.lowest-2.ensures;
      clear = unbroken _ _ _ _ _ _ _ _ u d _ c.lowest-2.ensures;
    }
