use native.Mathlib.Omega.{arith}
use mathlib.Core.List.{List}
use Prim.Native.Nat.{ℕ, ◌+◌, ◌-◌}
use lib.ListN.{take, drop}
use Rattle.lists.specs.Sets.{then}
use Rattle.writer.proofs.LawsLeft.{all_left, less_left, none_left}
use Rattle.writer.proofs.LawsLines.{operands_next, operands_all, operands_end, length_part}
use Rattle.writer.proofs.write_operands.Goals as goal

pub loop-w-init : goal.loop-w-init
loop-w-init c = (omega arith, c.requires.2, length_part _ _ _ c.requires.0, all_left _ _ _ _ (operands_all _ _ _))

pub loop-w-preserved : goal.loop-w-preserved
loop-w-preserved c = let inv = c.loop-w.invariant in (
  omega arith,
  inv.1,
  inv.2,
  less_left _ _ inv.3 (operands_next _ _ c.loop-w-test.true) (then c.write_name-a.ensures.0 c.write_register-next.ensures.0),
)

pub returns : goal.returns
returns c =
    let inv = c.loop-w.invariant in
    let part : List ℕ = take (c.args.from + c.args.n - c.args.from) (drop c.args.from c.args.words.now) in
    (none_left _ inv.3 (operands_end part _ (omega (arith, c.loop-w-test.false, c.loop-w.auto.w-index-end))), omega (arith, inv.0, inv.2, c.loop-w.auto.w-index-end))
