use mathlib.Core.Path.{◌≡◌, sym}
use native.Mathlib.Omega.{arith}
use Rattle.std.proofs.lemmas.List.{get_or-take, length-take-le}
use Prim.Native.Nat.{◌<◌}
use lib.ListN.{length, take, length-set}
use Rattle.lists.specs.Over.{over_none, over_step}
use Rattle.records.specs.Parts.{no_codes}
use Rattle.records.proofs.pack.Goals as goal

pub loop-i-init : goal.loop-i-init
loop-i-init c = (c.well_formed.0.1.0.1, sym (over_none _ _ _))

pub operand_word-requires : goal.operand_word-requires
operand_word-requires c =
    let few : length (take c.args.g.count c.args.g.operands) ≡ c.args.g.count = length-take-le _ _ (omega arith) in
    let h : c.loop-i.i < c.args.g.count = omega arith in
    rw (get_or-take c.args.g.count c.args.g.operands c.loop-i.i no_codes h) (c.requires.0, c.requires.3 c.loop-i.i h)

pub loop-i-preserved : goal.loop-i-preserved
loop-i-preserved c =
    let few : length (take c.args.g.count c.args.g.operands) ≡ c.args.g.count = length-take-le _ _ (omega arith) in
    let e = get_or-take c.args.g.count c.args.g.operands c.loop-i.i no_codes (omega arith) in
    (simp length-set c.loop-i.invariant.0, over_step _ _ _ _ 0 _ _ (omega arith) c.loop-i.invariant.1 (rw e at c.operand_word.ensures))

pub returns : goal.returns
returns c =
    let few : length (take c.args.g.count c.args.g.operands) ≡ c.args.g.count = length-take-le _ _ (omega arith) in
    let e : c.loop-i.i ≡ c.args.g.count = omega arith in rw (← e) c.loop-i.invariant.1
