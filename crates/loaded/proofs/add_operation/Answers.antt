-- `add_operation` meets its contract: the operands of the next step are stored where nothing is read yet, so that the words mean the
-- sheet that they meant (`begun_still`) and the action finds them there (`operation_fits`, `operation_stored`).
use mathlib.Core.Path.{ap}
use Rattle.paper.specs.Refusals.{step_record}
use Rattle.loaded.proofs.LawsOperands.{operands_room, begun_still, counts_still, stored_from, operation_stored, operation_fits}
use Rattle.loaded.proofs.add_operation.Goals as goal

pub add_step-requires : goal.add_step-requires
add_step-requires c =
    let p = c.requires in
    let words = c.args.words.now in
    let stored = c.store_operands.new.words in
    let e = c.store_operands.ensures in
    let same = counts_still c.args.row words stored e in (
      begun_still c.args.row words stored e p.0,
      rw same.0 p.1,
      rw same.1 p.2,
      operation_fits c.args.row words stored e c.well_formed.1.1.0.1.0.1 (operands_room _ p.0) p.0 _ _ _ p.3 p.4,
    )

pub returns : goal.returns
returns c =
    let p = c.requires in
    let words = c.args.words.now in
    let stored = c.store_operands.new.words in
    let e = c.store_operands.ensures in
    stored_from c.args.row words stored e p.0
    (ap step_record (operation_stored c.args.row words stored e c.well_formed.1.1.0.1.0.1 (operands_room _ p.0) _ _ _ p.3.few p.4.few))
    c.add_step.ensures
