-- `records::pair_line` meets its contract: two numbers are the step, to which of refusals 5 to 8 only 5 applies (`Paired`);
-- anything else is refusal 3.
use Rattle.records.specs.Records.{pair_line}
use Rattle.records.proofs.LawsTold.{clear_of, judged_by, ill_formed, breaks, passes, handed_on, in_place, pair_tested, pair_says, pair_bad, pair_within}
use Rattle.records.proofs.pair_line.Goals as goal

pub returns-in_default : goal.returns-in_default
unfolding pair_line
returns-in_default c = record { result_value = λ so step p h. ill_formed so _ (pair_bad _ _ step c.in_default.ensures); clear = tt }

pub returns-in_err-lowest : goal.returns-in_err-lowest
unfolding pair_line
returns-in_err-lowest c =
    rw (handed_on _ c.from_residual.ensures.1) (record {
      result_value = λ so step p h. breaks so (pair_says step c.in-Some.ensures) (judged_by (pair_tested step _ _ (p _) h) c.lowest.ensures) _ c.in_err-lowest.was;
      clear = tt;
    })

pub returns : goal.returns
unfolding pair_line
returns c =
    let w = c.in-Some.ensures in
    let clear = clear_of c.lowest.ensures c.in_ok-lowest.was in record {
      result_value = λ so step p h. passes so (pair_says step w) (judged_by (pair_tested step _ _ (p _) h) c.lowest.ensures) c.in_ok-lowest.was w.ends.place;
      clear = (in_place w.ends clear, pair_within _ _ _ _ clear.within);
    }
