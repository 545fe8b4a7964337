-- `write_states` meets its contract: nothing for a sheet that is refused or lacks an allocation, else the lines that are written
-- from the analysed words.
use native.Mathlib.Omega.{arith}
use Rattle.checker.proofs.Laws.{loaded_words, nothing_missing}
use Rattle.states.proofs.LawsCall.{refused_none, text_full, text_missing, holds_states, same_text, written_none, written_text}
use Rattle.states.proofs.write_states.Goals as goal

pub returns-in_default : goal.returns-in_default
returns-in_default c = let l = c.load.ensures in
    written_none (refused_none c.args.rule l c.in_default.is) l.same_length

pub find_missing-requires : goal.find_missing-requires
find_missing-requires c = loaded_words c.load.ensures c.in-Ok.is

pub returns-in_default-find_missing : goal.returns-in_default-find_missing
returns-in_default-find_missing c = let l = c.load.ensures in
    written_none (text_missing c.args.rule l c.in-Ok.is c.find_missing.ensures c.in_default-find_missing.is) l.same_length

pub analyze-requires : goal.analyze-requires
analyze-requires c = let l = c.load.ensures in
    (loaded_words l c.in-Ok.is, nothing_missing c.find_missing.ensures c.in-None.is, omega (arith, l.same_length), omega arith)

pub write_blocks-requires : goal.write_blocks-requires
write_blocks-requires c = let l = c.load.ensures in
    let given = c.requires in
    (holds_states (loaded_words l c.in-Ok.is) c.analyze.ensures.0 (omega (arith, l.same_length, given.1)), omega (arith, given.0))

pub returns : goal.returns
returns c = let l = c.load.ensures in
    let loads = loaded_words l c.in-Ok.is in
    let full = nothing_missing c.find_missing.ensures c.in-None.is in
    written_text (text_full c.args.rule l c.in-Ok.is full) (rw (← same_text loads c.analyze.ensures.0) c.write_blocks.ensures.0) c.write_blocks.ensures.1 c.requires.0 (omega (arith, l.same_length, c.analyze.ensures.0.kept.same_length)) c.analyze.ensures.0.same_length
