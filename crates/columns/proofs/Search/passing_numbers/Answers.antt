use Rattle.columns.proofs.LawsNumbers.{counting_none, counting_bad, counting_done, counting_falls, counting_more}
use Rattle.columns.proofs.Search.passing_numbers.Goals as goal

pub loop-i-init : goal.loop-i-init
loop-i-init c = counting_none _ _ c.requires

pub returns-in_default : goal.returns-in_default
returns-in_default c = counting_bad c.loop-i.invariant c.in_default.ensures

pub returns-then-self-v : goal.returns-then-self-v
returns-then-self-v c =
    let w = c.in-Some.ensures in
    counting_falls c.loop-i.invariant w.0 c.if-self-v.true

pub loop-i-preserved : goal.loop-i-preserved
loop-i-preserved c =
    let w = c.in-Some.ensures in
    counting_more c.loop-i.invariant w.0 c.if-self-v.false w.1

pub returns : goal.returns
returns c = counting_done c.loop-i.invariant c.loop-i-test.false
