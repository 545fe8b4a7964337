-- `add_typed` meets its contract: a name in order is marked behind all others, and the next is in order from one more on.
use mathlib.Core.Path.{refl}
use Rattle.loaded.proofs.LawsHeader.{typed_stored}
use Rattle.loaded.proofs.add_typed.Goals as goal

pub returns : goal.returns
returns c = typed_stored _ c.requires.0 _ c.requires.1 c.requires.2 c.requires.3 _ refl
