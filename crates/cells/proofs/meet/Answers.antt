-- `meet` meets its contract: each way out gives the word that the table's entry stands for, of two names by name and mark
-- (`meet_word`); that this word means the paper's meet is shown once for the whole table (`met_meaning`).
use Rattle.cells.proofs.Laws.{met_left, met_right, met_conflict, met_marked, met_marks, met_unmarked}
use Rattle.cells.proofs.meet.Goals as goal

pub returns-then-side-eq0 : goal.returns-then-side-eq0
returns-then-side-eq0 c = met_left _ _ _ _ _ c.requires c.rule_index-k.ensures c.if-side-eq0.true

pub returns-then-side-eq1 : goal.returns-then-side-eq1
returns-then-side-eq1 c = met_right _ _ _ _ _ c.requires c.rule_index-k.ensures c.if-side-eq1.true

pub returns-then-a-b : goal.returns-then-a-b
returns-then-a-b c =
    met_conflict _ _ _ _ _ c.requires c.rule_index-k.ensures c.if-side-eq0.false c.if-side-eq1.false c.if-a-b.true

pub returns-then-a-eq1 : goal.returns-then-a-eq1
returns-then-a-eq1 c =
    met_marked _ _ _ _ _ c.requires c.rule_index-k.ensures c.if-side-eq0.false c.if-side-eq1.false c.if-a-b.false
    c.if-a-eq1.true

pub returns-then-b-eq1 : goal.returns-then-b-eq1
returns-then-b-eq1 c =
    met_marks _ _ _ _ _ c.requires c.rule_index-k.ensures c.if-side-eq0.false c.if-side-eq1.false
    c.if-a-b.false c.if-a-eq1.false c.if-b-eq1.true

pub returns-else-b-eq1 : goal.returns-else-b-eq1
returns-else-b-eq1 c =
    met_unmarked _ _ _ _ _ c.requires c.rule_index-k.ensures c.if-side-eq0.false c.if-side-eq1.false
    c.if-a-b.false c.if-a-eq1.false c.if-b-eq1.false
