-- The search for the first step that has an operand with no allocation, and its lines.
use Rattle.std.proofs.Common.{Some, None}
use mathlib.Core.Path.{◌≡◌, refl, sym, ap, ◌∙◌}
use mathlib.Core.Bool.{true, false, true≢false}
use mathlib.Core.List.{List, [], ◌∷◌, map}
use Prim.Native.Nat.{ℕ, suc, ◌+◌, ◌-◌, ◌≤◌, ◌<◌}
use native.Mathlib.Numerals.{add-one}
use native.Mathlib.Omega.{arith}
use Rattle.paper.specs.Sheet.{Step, Sheet, steps_of}
use Rattle.paper.specs.Text.{Name}
use Rattle.paper.specs.Report.{Line, fault_entry, inst_of, first_list, unallocated, missing_names, missing_from, missing_blocks, entries, names_lines}
use Rattle.paper.specs.declared.Rule.{Rule}
use Rattle.layout.specs.Layout.{defs_from}
use Rattle.loaded.specs.Actions.{operands, step_of, action_at, steps_at}
use Rattle.steps.specs.Faults.{some_in}
use Rattle.loaded.specs.declared.Action.TheVariants.{Operation}
use Rattle.loaded.specs.Loaded.{sheet_of}
use Rattle.report.specs.declared.Position.{Position}
use Rattle.faults.specs.Errors.{names_at}
use Rattle.faults.specs.Missing.{step_lines, missing_lines, MissingIs, MissingOf}
use Rattle.faults.specs.declared.Missing.{Missing}

-- the first list that has something in it

first_of_some : {A : Type 0} (xs ys : List A) → some_in xs ≡ true → first_list xs ys ≡ xs
unfolding first_list some_in
first_of_some [] ys e = absurd (true≢false (sym e))
first_of_some (x ∷ xs) ys e = refl

none_in : {A : Type 0} (xs : List A) → some_in xs ≡ false → xs ≡ []
unfolding some_in
none_in [] e = refl
none_in (x ∷ xs) e = absurd (true≢false e)

some_mapped : {A B : Type 0} (f : A → B) (xs : List A) → some_in (map f xs) ≡ some_in xs
unfolding some_in
some_mapped f [] = refl
some_mapped f (x ∷ xs) = refl

-- the search

steps_cons : (words : List ℕ) (first i n : ℕ) → i < n
    → steps_at words (first + i) (n - i) ≡ step_of words (action_at words (first + i)) ∷ steps_at words (first + (i + 1)) (n - (i + 1))
unfolding steps_at
steps_cons words first i n h =
    let e : n - i ≡ suc (n - (i + 1)) = omega arith in
    let f : first + i + 1 ≡ first + (i + 1) = omega arith in
    rw (e, f)

-- what is missing in the n steps from `first` on, from the i-th on
abbrev pub left : List ℕ → (block first i n : ℕ) → List Line
left words block first i n = missing_from block i (steps_at words (first + i) (n - i))

module _ (words : List ℕ) (block first i n : ℕ) (h : i < n) where
  abbrev here : Step
  here = step_of words (action_at words (first + i))

  turn : left words block first i n ≡ first_list (step_lines block i here) (left words block first (i + 1) n)
  unfolding missing_from step_lines names_lines
  turn = rw (steps_cons words first i n h, add-one)

  pub missing_here : some_in (missing_names here) ≡ true → left words block first i n ≡ step_lines block i here
  unfolding step_lines names_lines
  missing_here e = turn ∙ first_of_some _ _ (some_mapped _ (missing_names here) ∙ e)

  pub missing_later : some_in (missing_names here) ≡ false → left words block first i n ≡ left words block first (i + 1) n
  unfolding step_lines names_lines first_list
  missing_later e =
      turn
      ∙ ap (λ xs. first_list (names_lines block i (inst_of here) xs) (left words block first (i + 1) n)) (none_in (missing_names here) e)

pub missing_ended : (words : List ℕ) (block first i n : ℕ) → n ≤ i → left words block first i n ≡ []
unfolding missing_from steps_at
missing_ended words block first i n h = let e : n - i ≡ 0 = omega arith in rw e

module _ (S : Sheet) (b n : ℕ) (h : b < n) where
  block_turn : missing_blocks S b (n - b) ≡ first_list (missing_from b 0 (steps_of S b)) (missing_blocks S (b + 1) (n - (b + 1)))
  unfolding missing_blocks
  block_turn = let e : n - b ≡ suc (n - (b + 1)) = omega arith in rw (e, add-one)

  pub block_here : {ls : List Line} → missing_from b 0 (steps_of S b) ≡ ls → some_in ls ≡ true → missing_blocks S b (n - b) ≡ ls
  block_here {ls} e s = block_turn ∙ rw e (first_of_some ls _ s)

  pub block_later : missing_from b 0 (steps_of S b) ≡ [] → missing_blocks S b (n - b) ≡ missing_blocks S (b + 1) (n - (b + 1))
  unfolding first_list
  block_later e = block_turn ∙ rw e

pub blocks_ended : (S : Sheet) (b n : ℕ) → n ≤ b → missing_blocks S b (n - b) ≡ []
unfolding missing_blocks
blocks_ended S b n h = let e : n - b ≡ 0 = omega arith in rw e

pub blocks_start : (S : Sheet) (n : ℕ) → missing_blocks S 0 n ≡ missing_blocks S 0 (n - 0)
blocks_start S n = let f : n - 0 ≡ n = omega arith in rw f

pub some_lines : {words : List ℕ} {ls : List Line} (missing : Missing) → MissingIs words ls (Some missing) → some_in ls ≡ true
unfolding missing_lines step_lines names_lines
some_lines {words} missing m = rw m.lines (some_mapped _ (missing_names (step_of words (action_at words missing.k))) ∙ m.within.3)

pub no_lines_found : {words : List ℕ} {ls : List Line} → MissingIs words ls None → ls ≡ []
unfolding missing_lines
no_lines_found m = m.lines

-- the step that was found

pub entries_missing : (rule : Rule) (words : List ℕ) (missing : Missing) → MissingOf words (Some missing)
    → entries rule (sheet_of words) ≡ map fault_entry (step_lines missing.block missing.place (step_of words (action_at words missing.k)))
unfolding entries missing_lines step_lines names_lines
entries_missing rule words missing m =
    let names = missing_names (step_of words (action_at words missing.k)) in
    rw m.lines (first_of_some _ _ (some_mapped fault_entry _ ∙ some_mapped _ names ∙ m.within.3))

module _ (words : List ℕ) (inst at n m : ℕ) where
  uses_none : some_in (unallocated (operands at n words)) ≡ false
      → missing_names (step_of words (Operation inst at n m)) ≡ unallocated (operands (at + defs_from) m words)
  unfolding step_of missing_names first_list
  uses_none e = rw (none_in (unallocated (operands at n words)) e)

  abbrev position : (block place : ℕ) → Position
  position block place = record { block = block; place = place; inst = inst }

  pub some_defs : some_in (unallocated (operands at n words)) ≡ false → some_in (missing_names (step_of words (Operation inst at n m))) ≡ true
      → some_in (unallocated (operands (at + defs_from) m words)) ≡ true
  some_defs e s = rw (← uses_none e) s

  pub lines_of_uses : (block place : ℕ) → some_in (unallocated (operands at n words)) ≡ true
      → map fault_entry (step_lines block place (step_of words (Operation inst at n m))) ≡ names_at (position block place) (unallocated (operands at n words))
  unfolding names_at step_lines step_of missing_names inst_of
  lines_of_uses block place e = rw (first_of_some (unallocated (operands at n words)) (unallocated (operands (at + defs_from) m words)) e)

  pub lines_of_defs : (block place : ℕ) → some_in (unallocated (operands at n words)) ≡ false
      → map fault_entry (step_lines block place (step_of words (Operation inst at n m)))
      ≡ names_at (position block place) (unallocated (operands (at + defs_from) m words))
  unfolding names_at step_lines step_of inst_of
  lines_of_defs block place e = ap (λ (names : List Name). map fault_entry (names_lines block place inst names)) (uses_none e)
