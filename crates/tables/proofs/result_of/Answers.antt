-- `result_of` meets its contract: the words hold block b's state and the sheet's steps of b, and `effects` runs these from it; where
-- no allocation is missing, a loaded sheet's steps can be run.
use Rattle.loaded.specs.Laws.{runnable_most}
use Rattle.tables.specs.Allowed.{loaded_runnable}
use Rattle.tables.proofs.LawsResult.{result_is}
use Rattle.tables.proofs.result_of.Goals as goal

pub effects-requires : goal.effects-requires
effects-requires c =
    rw (c.first_step-first.ensures, c.step_total-count.ensures) (runnable_most (loaded_runnable c.requires.0.loaded _ c.requires.2 c.requires.1))

pub returns : goal.returns
returns c =
    result_is _ c.requires.0 c.requires.2 c.load-s.ensures (rw (c.first_step-first.ensures, c.step_total-count.ensures) at c.effects.ensures) (loaded_runnable c.requires.0.loaded _ c.requires.2 c.requires.1)
