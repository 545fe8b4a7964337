-- `columns::Search::passing_change` meets its contract: the count ends at the first field that does not pass; under refusal 8 the last
-- does not.
use mathlib.Core.Path.{◌≡◌, sym, refl}
use mathlib.Core.Bool.{not, ◌&&◌}
use mathlib.Core.List.{List}
use Prim.Native.Nat.{ℕ, suc}
use borrow.Author.Tests.{eq-eqb, ne_eqb}
use lib.Dec.{eqb}
use Rattle.paper.specs.Limits.{max_inst}
use Rattle.paper.specs.Text.{Bytes, number_of, Name, name_of}
use Rattle.paper.specs.Sheet.{Sheet}
use Rattle.paper.specs.Refusals.{passing, within, name_within, change_passing}
use Rattle.fields.specs.Fields.{fields_behind}
use Rattle.columns.specs.Columns.{Passed}
use Rattle.columns.proofs.LawsPassing.{shown_first, shown_second, passed_both, passed_on}
use Rattle.columns.proofs.Search.passing_change.Goals as goal

-- the last name
abbrev to_passing : ℕ → Sheet → List Bytes → ℕ
to_passing number S fs = passing name_of (λ to. name_within number S to && not (eqb number 8)) fs λ to fs. 0

-- the three fields before it pass
after_three : (number : ℕ) (S : Sheet) {s : Bytes} {at a b c inst slot n : ℕ} {from : Name} → Passed number_of (within number (suc max_inst)) s at inst a
    → Passed number_of (within number S.slots) s a slot b → Passed name_of (name_within number S) s b from c
    → to_passing number S (fields_behind s c) ≡ n → suc (suc (suc n)) ≡ change_passing number S (fields_behind s at)
unfolding change_passing
after_three number S inst slot from e = sym (passed_on inst _ (passed_on slot _ (passed_on from _ e)))

pub returns-in_default : goal.returns-in_default
unfolding change_passing
returns-in_default c = sym (c.in_default.ensures.stops _)

pub returns-in_default-passing_number : goal.returns-in_default-passing_number
unfolding change_passing
returns-in_default-passing_number c = sym (passed_on c.in-Some.ensures.0 _ (c.in_default-passing_number.ensures.stops _))

pub returns-in_default-passing_name : goal.returns-in_default-passing_name
unfolding change_passing
returns-in_default-passing_name c =
    sym (passed_on c.in-Some.ensures.0 _ (passed_on c.in-Some-passing_number.ensures.0 _ (c.in_default-passing_name.ensures.stops _)))

pub returns-in_default-passing_name-2 : goal.returns-in_default-passing_name-2
returns-in_default-passing_name-2 c =
    after_three _ _ c.in-Some.ensures.0 c.in-Some-passing_number.ensures.0 c.in-Some-passing_name.ensures
    ((shown_first _ c.in_default-passing_name-2.ensures).stops _)

pub returns-then-self-eq-TYPES_DIFFER : goal.returns-then-self-eq-TYPES_DIFFER
returns-then-self-eq-TYPES_DIFFER c =
    let number = c.args.self.number in
    after_three _ _ c.in-Some.ensures.0 c.in-Some-passing_number.ensures.0 c.in-Some-passing_name.ensures
    ((shown_second (λ n. not (eqb number 8)) c.in-Some-passing_name-2.ensures (rw (eq-eqb number 8 c.if-self-eq-TYPES_DIFFER.true))).stops _)

pub returns-else-self-eq-TYPES_DIFFER : goal.returns-else-self-eq-TYPES_DIFFER
returns-else-self-eq-TYPES_DIFFER c =
    let number = c.args.self.number in
    after_three _ _ c.in-Some.ensures.0 c.in-Some-passing_number.ensures.0 c.in-Some-passing_name.ensures
    (passed_on (passed_both (λ n. not (eqb number 8)) c.in-Some-passing_name-2.ensures (rw (ne_eqb number 8 c.if-self-eq-TYPES_DIFFER.false))) _ refl)
