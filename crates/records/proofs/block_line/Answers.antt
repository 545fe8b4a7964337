-- `records::block_line` meets its contract: at most 8 numbers are a `B`, to which of refusals 6 to 9 none applies; anything else is
-- refusal 3. Where it passes each is below `F`'s count of blocks.
use mathlib.Core.Path.{◌∙◌}
use Rattle.records.specs.Records.{block_line}
use Rattle.records.proofs.LawsSearch.{any_list}
use Rattle.records.proofs.LawsTold.{clear_of, judged_by, ill_formed, breaks, passes, handed_on, in_place, block_tested, block_says, block_bad, block_within}
use Rattle.records.proofs.block_line.Goals as goal

pub returns-in_default : goal.returns-in_default
unfolding block_line
returns-in_default c = record { by_index = λ so p h. ill_formed so _ (block_bad _ _ c.in_default.ensures); clear = tt }

pub returns-in_err-lowest : goal.returns-in_err-lowest
unfolding block_line
returns-in_err-lowest c =
    rw (handed_on _ c.from_residual.ensures.1) (record {
      by_index = λ so p h. breaks so (block_says c.in-Some.ensures) (judged_by (block_tested _ (p _) h (c.any_beyond-beyond.ensures ∙ any_list _ _)) c.lowest.ensures) _ c.in_err-lowest.was;
      clear = tt;
    })

pub returns : goal.returns
unfolding block_line
returns c =
    let w = c.in-Some.ensures in
    let clear = clear_of c.lowest.ensures c.in_ok-lowest.was in record {
      by_index = λ so p h. passes so (block_says w) (judged_by (block_tested _ (p _) h (c.any_beyond-beyond.ensures ∙ any_list _ _)) c.lowest.ensures) c.in_ok-lowest.was w.ends.place;
      clear = (in_place w.ends clear, block_within w.few w.room (c.any_beyond-beyond.ensures ∙ any_list _ _) clear.within);
    }
