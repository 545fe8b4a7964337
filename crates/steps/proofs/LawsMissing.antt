-- Operands with no allocation: whether there is one.
use Rattle.std.proofs.Common.{◌≡◌, refl, eqb, ◌||◌, List, [], ◌∷◌, map, ℕ, ◌/◌}
use borrow.Author.Tests.{eq-eqb, ne_eqb}
use Rattle.std.specs.List.{list_any}
use Rattle.lists.specs.Split.{by_equal}
use Rattle.paper.specs.Report.{unallocated, first_list}
use Rattle.loaded.specs.Actions.{no_register, register_of, operand_of}
use Rattle.steps.specs.Faults.{some_in}

pub any_missing : (words : List ℕ) → list_any (λ word. eqb (word / 1024) no_register) words ≡ some_in (unallocated (map operand_of words))
unfolding operand_of register_of unallocated some_in
any_missing [] = refl
any_missing (word ∷ words) = by_equal (word / 1024) no_register
    (λ e. rw (eq-eqb _ _ e))
    (λ d. rw (ne_eqb _ _ d) (any_missing words))

-- the second list counts where the first is empty
pub some_first : {A : Type 0} (a b : List A) → some_in (first_list a b) ≡ (some_in a || some_in b)
unfolding some_in first_list
some_first [] b = refl
some_first (x ∷ a) b = refl
