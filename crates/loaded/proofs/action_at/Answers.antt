-- `action_at` meets its contract: one case for each tag; every tag above 5 is no step's (`last_tag`).
use Rattle.loaded.specs.Actions.{action_at, action_of}
use Rattle.loaded.proofs.LawsPacking.{last_tag}
use Rattle.loaded.proofs.action_at.Goals as goal

pub returns-in-0 : goal.returns-in-0
unfolding action_at action_of
returns-in-0 c = rw c.in-0.is

pub returns-in-1 : goal.returns-in-1
unfolding action_at action_of
returns-in-1 c = rw c.in-1.is

pub returns-in-2 : goal.returns-in-2
unfolding action_at action_of
returns-in-2 c = rw c.in-2.is

pub returns-in-3 : goal.returns-in-3
unfolding action_at action_of
returns-in-3 c = rw c.in-3.is

pub returns-in-4 : goal.returns-in-4
unfolding action_at action_of
returns-in-4 c = rw c.in-4.is

pub returns-in-5 : goal.returns-in-5
unfolding action_at action_of
returns-in-5 c = rw (c.in-5.is, c.mask_of.ensures)

pub returns-in_default : goal.returns-in_default
unfolding action_at
returns-in_default c =
    let r = c.in_default.in_default-own.rest in
    last_tag _ _ _ _ _ _ _ r.0.0.0.0.0.1 r.0.0.0.0.1 r.0.0.0.1 r.0.0.1 r.0.1 r.1
