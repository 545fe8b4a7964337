-- `records::typed_line` meets its contract: one number is a `T`; beyond its limit it is refusal 5, and below `least` 6, for there
-- the order is broken (`Least`); anything else is refusal 3.
use borrow.Author.Tests.{leb-false, ltb-false}
use Rattle.records.specs.Records.{typed_line}
use Rattle.records.proofs.LawsTold.{clear_of, judged_by, ill_formed, breaks, passes, handed_on, in_place, typed_tested, typed_says, typed_bad}
use Rattle.records.proofs.typed_line.Goals as goal

pub returns-in_default : goal.returns-in_default
unfolding typed_line
returns-in_default c = record { by_index = λ so p h m. ill_formed so _ (typed_bad _ _ c.in_default.ensures); clear = tt }

pub returns-in_err-lowest : goal.returns-in_err-lowest
unfolding typed_line
returns-in_err-lowest c =
    rw (handed_on _ c.from_residual.ensures.1) (record {
      by_index = λ so p h m. breaks so (typed_says c.in-Some.ensures) (judged_by (typed_tested _ (p _) h m) c.lowest.ensures) _ c.in_err-lowest.was;
      clear = tt;
    })

pub returns : goal.returns
unfolding typed_line
returns c =
    let w = c.in-Some.ensures in
    let clear = clear_of c.lowest.ensures c.in_ok-lowest.was in record {
      by_index = λ so p h m. passes so (typed_says w) (judged_by (typed_tested _ (p _) h m) c.lowest.ensures) c.in_ok-lowest.was w.ends.place;
      clear = (in_place w.ends clear, record { name_below = leb-false _ _ clear.within; name_ascends = ltb-false _ _ clear.ordered });
    }
