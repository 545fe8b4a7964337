-- `store_function` meets its contract: nine words over blank ones are `F`'s header, with no typed name, block or step yet.
use mathlib.Core.Path.{refl}
use Rattle.loaded.proofs.LawsHeader.{function_stored}
use Rattle.loaded.proofs.store_function.Goals as goal

pub returns : goal.returns
returns c = function_stored _ c.requires.0 _ _ _ _ _ c.requires.1 _ refl
