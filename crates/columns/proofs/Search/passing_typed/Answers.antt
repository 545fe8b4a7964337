-- `columns::Search::passing_typed` meets its contract: the number does not pass, or it does but for refusal 6, which it shows itself.
use mathlib.Core.Path.{sym, refl}
use mathlib.Core.Bool.{not}
use borrow.Author.Tests.{eq-eqb, ne_eqb}
use lib.Dec.{eqb}
use Rattle.paper.specs.Refusals.{typed_passing}
use Rattle.columns.proofs.LawsPassing.{shown_first, shown_second, passed_both, passed_on}
use Rattle.columns.proofs.Search.passing_typed.Goals as goal

pub returns-in_default : goal.returns-in_default
unfolding typed_passing
returns-in_default c = sym ((shown_first _ c.in_default.ensures).stops _)

pub returns-then-self-eq-OUT_OF_ORDER : goal.returns-then-self-eq-OUT_OF_ORDER
unfolding typed_passing
returns-then-self-eq-OUT_OF_ORDER c =
    let p = c.in-Some.ensures.0 in
    sym ((shown_second (λ n. not (eqb c.args.self.number 6)) p (rw (eq-eqb _ 6 c.if-self-eq-OUT_OF_ORDER.true))).stops _)

pub returns-else-self-eq-OUT_OF_ORDER : goal.returns-else-self-eq-OUT_OF_ORDER
unfolding typed_passing
returns-else-self-eq-OUT_OF_ORDER c =
    let p = c.in-Some.ensures.0 in
    sym (passed_on (passed_both (λ n. not (eqb c.args.self.number 6)) p (rw (ne_eqb _ 6 c.if-self-eq-OUT_OF_ORDER.false))) _ refl)
