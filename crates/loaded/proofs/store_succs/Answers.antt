use mathlib.Core.Path.{◌≡◌, sym}
use native.Mathlib.Omega.{arith}
use Rattle.std.proofs.lemmas.List.{get_or-take, length-take-le}
use lib.ListN.{length, take}
use Rattle.lists.specs.Over.{over_none, over_step}
use Rattle.loaded.proofs.store_succs.Goals as goal

pub loop-i-init : goal.loop-i-init
loop-i-init c = sym (over_none _ _ _)

pub loop-i-preserved : goal.loop-i-preserved
loop-i-preserved c =
    let few : length (take c.args.count c.args.succs) ≡ c.args.count = length-take-le _ _ (omega arith) in
    over_step _ _ _ _ 0 _ _ (omega arith) c.loop-i.invariant (get_or-take c.args.count c.args.succs c.loop-i.i 0 (omega arith))
