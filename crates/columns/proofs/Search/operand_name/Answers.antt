-- `columns::Search::operand_name` meets its contract: a name that passes for itself is held, under refusal 6, against those before it.
use mathlib.Core.Path.{◌∙◌}
use Rattle.paper.specs.Refusals.{new_name}
use Rattle.columns.proofs.LawsPassing.{shown_first, shown_second, passed_both}
use Rattle.columns.proofs.LawsOperands.{name_unasked, name_earlier}
use Rattle.columns.proofs.Search.operand_name.Goals as goal
use Rattle.columns.proofs.Search.operand_name.Goals.{else-self-eq-OUT_OF_ORDER-via-then-self-eq-OUT_OF_ORDER+else-is_earlier, else-self-eq-OUT_OF_ORDER-via-else-self-eq-OUT_OF_ORDER}

pub returns-in_err-name : goal.returns-in_err-name
returns-in_err-name c us e = rw c.from_residual.ensures (shown_first _ c.in_err-name.ensures)

pub returns-then-is_earlier : goal.returns-then-is_earlier
returns-then-is_earlier c us e =
    let number = c.args.self.number in
    shown_second (new_name number us) c.in_ok-name.ensures (name_earlier number us _ c.if-self-eq-OUT_OF_ORDER.true (c.is_earlier.ensures us e) ∙ rw c.if-is_earlier.true)

pub returns : goal.returns
returns c us e =
    let number = c.args.self.number in
    passed_both (new_name number us) c.in_ok-name.ensures (elim c.else-self-eq-OUT_OF_ORDER.branch [
      | else-self-eq-OUT_OF_ORDER-via-then-self-eq-OUT_OF_ORDER+else-is_earlier w ↦ name_earlier number us _ w.if-self-eq-OUT_OF_ORDER.true (w.is_earlier.ensures us e) ∙ rw w.if-is_earlier.false
      | else-self-eq-OUT_OF_ORDER-via-else-self-eq-OUT_OF_ORDER w ↦ name_unasked number us _ w.if-self-eq-OUT_OF_ORDER.false
    ])
