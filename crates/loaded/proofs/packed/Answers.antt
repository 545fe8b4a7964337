-- `packed` meets its contract: one case for each kind of step; `Packs` keeps the two numbers of its first word below 64.
use mathlib.Core.List.{[], ◌∷◌}
use mathlib.Core.Path.{◌≡◌, refl, ap}
use Prim.Native.Nat.{ℕ, ◌+◌, ◌*◌}
use denote.Enum.Declared.{tag_of as numbered}
use Rattle.loaded.specs.Actions.{packed, tag_of}
use Rattle.loaded.specs.contracts.CopyKind.{the_type}
use Rattle.loaded.specs.declared.CopyKind.{CopyKind}
use Rattle.loaded.specs.declared.CopyKind.TheVariants.{Spill, Reload, Move}
use Rattle.loaded.proofs.packed.Goals as goal

-- a kind's number is its tag
tag_is : (kind : CopyKind) → numbered the_type kind ≡ tag_of kind
unfolding tag_of
tag_is Spill = refl
tag_is Reload = refl
tag_is Move = refl

pub returns-in-Copy : goal.returns-in-Copy
unfolding packed
returns-in-Copy c =
    rw (c.in-Copy.is, c.first_word.ensures) (ap (λ (t : ℕ). (t + c.in-Copy.into * 8 + c.in-Copy.from * 512) ∷ 0 ∷ 0 ∷ 0 ∷ []) (tag_is c.in-Copy.kind))

pub returns-in-Change : goal.returns-in-Change
unfolding packed
returns-in-Change c = rw (c.in-Change.is, c.first_word-in-Change.ensures)

pub returns-in-Operation : goal.returns-in-Operation
unfolding packed
returns-in-Operation c = rw (c.in-Operation.is, c.first_word-in-Operation.ensures)

pub returns-in-Safepoint : goal.returns-in-Safepoint
unfolding packed
returns-in-Safepoint c = rw (c.in-Safepoint.is, c.first_word-in-Safepoint.ensures)
