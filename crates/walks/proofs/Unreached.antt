-- A line `N b` stands in the house report exactly when no allocation is missing, b is a block, and no walk comes to it: the run visits
-- the blocks that walks come to, and no other.
use Rattle.std.specs.Prelude.{◌≡◌, refl, ◌↔◌, ℕ, ◌<◌}
use Rattle.std.proofs.Common.{sym, arith}
use Rattle.std.proofs.Math.Path.{subst}
use mathlib.Core.List.{List, [], ◌∷◌, map}
use Rattle.std.proofs.Math.Option.{Option, none, some}
use Rattle.paper.specs.Sheet.{Sheet, steps_of}
use Rattle.paper.specs.Steps.{State}
use Rattle.paper.specs.Runs.{analysis}
use Rattle.paper.specs.Report.{Line, faults_from, Entry, fault_entry, unreached_entry, block_entries, find_errors, first_list, missing_allocations, entries}
use Rattle.paper.specs.Walks.{In, here, there, HouseWalk}
use Rattle.paper.specs.declared.Rule.TheVariants.{House}
use Rattle.walks.specs.Choices.{in_nil}
use Rattle.walks.specs.Bounds.{Closed}
use Rattle.walks.proofs.House.{house_reached, house_unreached}
use Rattle.walks.specs.Entries.{no_fault_entry, reached_entries, unreached_entries, in_block, block_in}

-- a block of a sheet that misses no allocation, and no walk comes to it
pub record Unwalked (S : Sheet) (b : ℕ) : Type 0 where
  pub allocated : missing_allocations S ≡ []
  pub block : b < S.blocks
  pub far : ¬ HouseWalk S b

-- a line that is no fault's stands in neither list, or in the second where the first is empty
behind_none : (b : ℕ) (ls : List Line) (es : List Entry) → In (unreached_entry b) (first_list (map fault_entry ls) es) → (ls ≡ []) × In (unreached_entry b) es
unfolding first_list
behind_none b [] es i = (refl, i)
behind_none b (l ∷ ls) es i = absurd (no_fault_entry b (l ∷ ls) i)

module _ (S : Sheet) (C : Closed S) (b : ℕ) where
  -- of block c's lines it is the line of a block that no walk comes to
  named_in : (c : ℕ) → In (unreached_entry b) (block_entries House S c) → (b ≡ c) × (¬ HouseWalk S c)
  named_in c i = at ((analysis House S).table c) refl
    where
      own : In (unreached_entry b) (unreached_entry c ∷ []) → b ≡ c
      own (here e) = cc
      own (there j) = absurd (in_nil j)

      at : (t : Option State) → (analysis House S).table c ≡ t → (b ≡ c) × (¬ HouseWalk S c)
      at none e = (own (subst (In (unreached_entry b)) (unreached_entries House S c e) i), house_unreached S C c e)
      at (some s) e = absurd (no_fault_entry b (faults_from House S c 0 (steps_of S c) s) (subst (In (unreached_entry b)) (reached_entries House S c s e) i))

  named_here : ¬ HouseWalk S b → In (unreached_entry b) (block_entries House S b)
  named_here far = at ((analysis House S).table b) refl
    where
      at : (t : Option State) → (analysis House S).table b ≡ t → In (unreached_entry b) (block_entries House S b)
      at none e = subst (In (unreached_entry b)) (sym (unreached_entries House S b e)) (here refl)
      at (some s) e = absurd (far (house_reached S C b s e))

  named : In (unreached_entry b) (entries House S) → Unwalked S b
  unfolding entries find_errors
  named i =
      let p = behind_none b (missing_allocations S) (find_errors House S) i in
      let c = in_block (block_entries House S) (unreached_entry b) S.blocks 0 p.1 in
      let n = named_in c.block c.holds in
      record { allocated = p.0; block = omega (arith, n.0, c.below); far = subst (λ (d : ℕ). ¬ HouseWalk S d) (sym n.0) n.1 }

  unwalked : Unwalked S b → In (unreached_entry b) (entries House S)
  unfolding entries find_errors first_list
  unwalked u =
      subst (λ (ls : List Line). In (unreached_entry b) (first_list (map fault_entry ls) (find_errors House S))) (sym u.allocated)
      (block_in (block_entries House S) (unreached_entry b) S.blocks 0 b (omega arith) (omega (arith, u.block)) (named_here u.far))

  pub unreached_exactly : In (unreached_entry b) (entries House S) ↔ Unwalked S b
  unreached_exactly = (named, unwalked)
