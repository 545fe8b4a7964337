-- `records::function_line` meets its contract: five numbers are an `F`, to which of refusals 6 to 9 none applies; anything else is
-- refusal 3. Where it passes each value is within its limit.
use Rattle.paper.specs.Refusals.{blank, so_far_of}
use Rattle.records.specs.Records.{function_line}
use Rattle.records.proofs.LawsTold.{clear_of, judged_by, ill_formed, breaks, passes, handed_on, in_place, function_tested, function_says, function_bad, function_within}
use Rattle.records.proofs.function_line.Goals as goal

pub returns-in_default : goal.returns-in_default
unfolding function_line
returns-in_default c = record { result_value = λ so p. ill_formed so _ (function_bad _ _ c.in_default.ensures); clear = tt }

pub returns-in_err-lowest : goal.returns-in_err-lowest
unfolding function_line
returns-in_err-lowest c =
    let w = c.in-Some.ensures in
    rw (handed_on _ c.from_residual.ensures.1) (record {
      result_value = λ so p.
          breaks so (function_says w) (judged_by (function_tested _ _ _ _ _ (p _ _ _ _ _) (c.function_beyond-beyond.ensures (so_far_of so))) c.lowest.ensures) _ c.in_err-lowest.was;
      clear = tt;
    })

pub returns : goal.returns
unfolding function_line
returns c =
    let w = c.in-Some.ensures in
    let clear = clear_of c.lowest.ensures c.in_ok-lowest.was in record {
      result_value = λ so p.
          passes so (function_says w) (judged_by (function_tested _ _ _ _ _ (p _ _ _ _ _) (c.function_beyond-beyond.ensures (so_far_of so))) c.lowest.ensures) c.in_ok-lowest.was w.ends.place;
      clear = (in_place w.ends clear, function_within blank _ _ _ _ _ (c.function_beyond-beyond.ensures blank) clear.within);
    }
