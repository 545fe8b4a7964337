-- `records::pack` meets its contract: from `from` on the words of the first `i` operands stand, one more each turn.
use mathlib.Core.Path.{◌≡◌}
use lib.ListN.{length, get_or}
use Rattle.lists.specs.Over.{over}
use Rattle.records.specs.Parts.{no_codes, word}
use Rattle.records.proofs.pack.Given as goal

abbrev pub invariant-loop-i : goal.invariant-loop-i
invariant-loop-i l = (length l.out ≡ 16) × (l.out ≡ over l.from l.i (λ k x. word l.typed (get_or l.fn.g.operands k no_codes)) l.initial.out)
