-- `checker::answer` meets its contract: a refusal is said as the reader gives it; a sheet that is loaded is said of as the paper does.
use native.Mathlib.Omega.{arith}
use Rattle.checker.proofs.Laws.{answered_from, loaded_words, few_steps, said_of_loaded, refused_answer}
use Rattle.checker.proofs.answer.Goals as goal

pub write_faults-requires : goal.write_faults-requires
write_faults-requires c =
    let l = c.load.ensures in
    let e = c.in-Ok.is in
    (loaded_words l e, few_steps l e, omega arith, omega (arith, l.same_length), omega arith)

pub returns-in-Ok : goal.returns-in-Ok
returns-in-Ok c =
    let l = c.load.ensures in
    let e = c.in-Ok.is in
    answered_from c.write_faults.ensures (said_of_loaded l e c.args.rule) l.same_length

pub returns-in-Err : goal.returns-in-Err
returns-in-Err c =
    let l = c.load.ensures in
    refused_answer l c.args.rule c.in-Err.is l.same_length
