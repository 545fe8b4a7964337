-- `records::change_line` meets its contract: within the limits a name fits nine bits and its mark is that of `T`, so that the tests
-- are those of refusals 5 and 8; beyond a limit 5 is the lowest, whatever the marks.
use native.Mathlib.Omega.{arith}
use Rattle.records.specs.Records.{change_line}
use Rattle.records.proofs.LawsTold.{clear_of, judged_by, ill_formed, breaks, passes, handed_on, in_place}
use Rattle.records.proofs.LawsSteps.{change_tested, change_clear, change_within}
use Rattle.records.proofs.change_line.Goals as goal

pub returns-in_default : goal.returns-in_default
unfolding change_line
returns-in_default c = record { result_value = λ so p h t. ill_formed so _ c.in_default.ensures; clear = tt }

pub overflow_cast-result : goal.overflow_cast-result
overflow_cast-result c = omega (arith, (change_clear c.requires.2 _ _ _ _ c.name_beyond.ensures c.name_beyond-2.ensures (clear_of c.lowest.ensures c.in_ok-lowest.was).within).inst_most)

pub name_word-requires : goal.name_word-requires
name_word-requires c = (change_clear c.requires.2 _ _ _ _ c.name_beyond.ensures c.name_beyond-2.ensures (clear_of c.lowest.ensures c.in_ok-lowest.was).within).from_fits

pub name_word-requires-2 : goal.name_word-requires-2
name_word-requires-2 c = (change_clear c.requires.2 _ _ _ _ c.name_beyond.ensures c.name_beyond-2.ensures (clear_of c.lowest.ensures c.in_ok-lowest.was).within).to_fits

pub returns-in_err-lowest : goal.returns-in_err-lowest
unfolding change_line
returns-in_err-lowest c =
    rw (handed_on _ c.from_residual.ensures.1) (record {
      result_value = λ so p h t.
          breaks so c.in-Some.ensures.says (judged_by
          (change_tested c.requires.2 _ _ _ _ c.name_beyond.ensures c.name_beyond-2.ensures (p _) h t c.is_typed.ensures c.is_typed-2.ensures)
          c.lowest.ensures) _ c.in_err-lowest.was;
      clear = tt;
    })

pub returns : goal.returns
unfolding change_line
returns c =
    let g = c.in-Some.ensures in
    let clear = clear_of c.lowest.ensures c.in_ok-lowest.was in
    let w = change_clear c.requires.2 _ _ _ _ c.name_beyond.ensures c.name_beyond-2.ensures clear.within in record {
      result_value = λ so p h t.
          rw (c.name_word.ensures, c.name_word-2.ensures, w.from_means, w.to_means)
          (passes so g.says (judged_by
          (change_tested c.requires.2 _ _ _ _ c.name_beyond.ensures c.name_beyond-2.ensures (p _) h t c.is_typed.ensures c.is_typed-2.ensures)
          c.lowest.ensures) c.in_ok-lowest.was g.ends.place);
      clear = (in_place g.ends clear, change_within w c.name_word.ensures c.name_word-2.ensures);
    }
