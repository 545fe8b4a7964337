-- The premises of the theorems can be met: a loop that spills a reference, lists its slot at a safepoint, reloads and uses it is
-- accepted, so its two programs read the same on every walk, however often the loop is walked.
use Rattle.std.specs.Prelude.{◌≡◌, refl, [], ◌∷◌, ℕ, suc, zero, ◌<◌}
use Rattle.std.proofs.Common.{arith}
use Rattle.paper.specs.Text.{Name, virtual as v}
use Rattle.paper.specs.Sheet.{spill, reload, change, safepoint, Sheet, succs_of, steps_of, reference_typed}
use Rattle.paper.specs.Walks.{In, here, there}
use Rattle.paper.specs.Programs.{EqualReads}
use Rattle.walks.specs.Choices.{in_nil}
use Rattle.walks.specs.Bounds.{Closed}
use Rattle.walks.specs.Honest.{Typed}
use Rattle.walks.specs.Computed.{computed, defines, uses}
use Rattle.walks.proofs.Theorems.{accepted_reads_equal}

abbrev pub again : Sheet
again = record {
  regs = 1;
  slots = 1;
  vregs = 1;
  blocks = 1;
  entry = 0;
  typed = 0 ∷ [];
  body = record { succs = 0 ∷ []; steps = defines (v 0) 0 ∷ spill 0 0 ∷ safepoint 2 (0 ∷ []) ∷ reload 0 0 ∷ uses (v 0) 0 ∷ [] } ∷ [];
}

again_closed : Closed again
again_closed = record { entry_in = omega arith; succs_in = inside }
  where
    inside : (b s : ℕ) → In s (succs_of again b) → s < 1
    inside zero s (here e) = omega arith
    inside zero s (there i) = absurd (in_nil i)
    inside (suc b) s i = absurd (in_nil i)

again_typed : Typed again
again_typed = record { changes = changes }
  where
    changes : (b inst k : ℕ) (from to : Name) → In (change inst k from to) (steps_of again b) → reference_typed again from ≡ reference_typed again to
    changes zero inst k from to (here e) = cc
    changes zero inst k from to (there (here e)) = cc
    changes zero inst k from to (there (there (here e))) = cc
    changes zero inst k from to (there (there (there (here e)))) = cc
    changes zero inst k from to (there (there (there (there (here e))))) = cc
    changes zero inst k from to (there (there (there (there (there i))))) = absurd (in_nil i)
    changes (suc b) inst k from to i = absurd (in_nil i)

pub again_reads : EqualReads again
unfolding computed
again_reads = accepted_reads_equal again again_closed again_typed refl
