-- The report's lines and the faults among them: a block that has a state has its faults' lines, one that has none a line of its own,
-- and the faults are those of the blocks that have a state.
use Rattle.std.specs.Prelude.{◌≡◌, refl, ◌⊎◌}
use Rattle.std.proofs.Common.{sym, ◌∙◌, subst, inl, inr, arith}
use Rattle.std.proofs.Math.Path.{ap}
use mathlib.Core.List.{List, [], ◌∷◌, ◌++◌, map}
use Rattle.std.proofs.Math.Option.{Option, none, some}
use Prim.Native.Nat.{ℕ, suc, zero, ◌+◌, ◌≤◌, ◌<◌}
use Rattle.paper.specs.Sheet.{Sheet, steps_of}
use Rattle.paper.specs.Steps.{State}
use Rattle.paper.specs.Runs.{analysis, entered, checked_from}
use Rattle.paper.specs.Report.{Line, faults_from, block_faults, Entry, fault_entry, unreached_entry, entries_at, block_entries, by_block, find_errors, first_list, missing_allocations, entries, faults_in, faults}
use Rattle.paper.specs.Walks.{In, here, there}
use Rattle.paper.specs.declared.Rule.{Rule}
use Rattle.lists.specs.Split.{by_equal}
use Rattle.walks.specs.Choices.{in_nil, in_left, in_right, in_append}

-- the faults among lines

pub faults_of_faults : (ls : List Line) → faults_in (map fault_entry ls) ≡ ls
unfolding faults_in
faults_of_faults [] = refl
faults_of_faults (l ∷ ls) = ap (λ (t : List Line). l ∷ t) (faults_of_faults ls)

pub faults_append : (es fs : List Entry) → faults_in (es ++ fs) ≡ faults_in es ++ faults_in fs
unfolding faults_in
faults_append [] fs = refl
faults_append (fault_entry l ∷ es) fs = ap (λ (t : List Line). l ∷ t) (faults_append es fs)
faults_append (unreached_entry b ∷ es) fs = faults_append es fs

faults_by_block : (f : ℕ → List Entry) (b n : ℕ) → faults_in (by_block f b n) ≡ by_block (λ c. faults_in (f c)) b n
unfolding by_block faults_in
faults_by_block f b zero = refl
faults_by_block f b (suc n) = faults_append (f b) (by_block f (suc b) n) ∙ ap (λ (t : List Line). faults_in (f b) ++ t) (faults_by_block f (suc b) n)

faults_first : (ls : List Line) (es : List Entry) → faults_in (first_list (map fault_entry ls) es) ≡ first_list ls (faults_in es)
unfolding first_list faults_in
faults_first [] es = refl
faults_first (l ∷ ls) es = ap (λ (t : List Line). l ∷ t) (faults_of_faults ls)

pub in_faults : (l : Line) (es : List Entry) → In (fault_entry l) es → In l (faults_in es)
unfolding faults_in
in_faults l [] i = absurd (in_nil i)
in_faults l (fault_entry k ∷ es) (here e) = let same : l ≡ k = cc in here same
in_faults l (fault_entry k ∷ es) (there i) = there (in_faults l es i)
in_faults l (unreached_entry b ∷ es) (here e) = let z : ◌≡◌ {A = ℕ} 0 1 = cc in absurd (omega arith)
in_faults l (unreached_entry b ∷ es) (there i) = in_faults l es i

-- a line that says that a block is unreached is no fault's
pub no_fault_entry : (b : ℕ) (ls : List Line) → ¬ In (unreached_entry b) (map fault_entry ls)
no_fault_entry b [] i = in_nil i
no_fault_entry b (l ∷ ls) (here e) = let z : ◌≡◌ {A = ℕ} 0 1 = cc in omega arith
no_fault_entry b (l ∷ ls) (there i) = no_fault_entry b ls i

module _ (rule : Rule) (S : Sheet) where
  -- a block's lines, by its state
  pub reached_entries : (b : ℕ) (s : State) → (analysis rule S).table b ≡ some s
      → block_entries rule S b ≡ map fault_entry (faults_from rule S b 0 (steps_of S b) s)
  unfolding block_entries entries_at block_faults checked_from entered
  reached_entries b s e =
      ap (entries_at rule S b) e ∙ ap (λ (t : Option State). map fault_entry (faults_from rule S b 0 (steps_of S b) (entered rule S t))) e

  pub unreached_entries : (b : ℕ) → (analysis rule S).table b ≡ none → block_entries rule S b ≡ unreached_entry b ∷ []
  unfolding block_entries entries_at
  unreached_entries b e = rw e

  -- and its faults
  abbrev pub faults_of : ℕ → List Line
  faults_of b = faults_in (block_entries rule S b)

  pub reached_faults : (b : ℕ) (s : State) → (analysis rule S).table b ≡ some s → faults_of b ≡ faults_from rule S b 0 (steps_of S b) s
  reached_faults b s e = ap faults_in (reached_entries b s e) ∙ faults_of_faults _

  pub unreached_faults : (b : ℕ) → (analysis rule S).table b ≡ none → faults_of b ≡ []
  unfolding faults_in
  unreached_faults b e = ap faults_in (unreached_entries b e)

  -- all faults: those of missing allocations, or the blocks'
  pub all_faults : faults rule S ≡ first_list (missing_allocations S) (by_block faults_of 0 S.blocks)
  unfolding faults entries find_errors
  all_faults =
      faults_first (missing_allocations S) (find_errors rule S)
      ∙ ap (first_list (missing_allocations S)) (faults_by_block (block_entries rule S) 0 S.blocks)

-- where a line of many blocks stands

module _ {A : Type 0} (f : ℕ → List A) (a : A) where
  -- a line of so many blocks is one block's
  pub record OfBlock (b n : ℕ) : Type 0 where
    pub block : ℕ
    pub from : b ≤ block
    pub below : block < b + n
    pub holds : In a (f block)

  pub in_block : (n b : ℕ) → In a (by_block f b n) → OfBlock b n
  unfolding by_block
  in_block zero b i = absurd (in_nil i)
  in_block (suc n) b i = go (in_append (f b) (by_block f (suc b) n) i) (in_block n (suc b))
    where
      go : In a (f b) ⊎ In a (by_block f (suc b) n) → (In a (by_block f (suc b) n) → OfBlock (suc b) n) → OfBlock b (suc n)
      go (inl j) rec = record { block = b; from = omega arith; below = omega arith; holds = j }
      go (inr j) rec = let r = rec j in record { block = r.block; from = omega (arith, r.from); below = omega (arith, r.below); holds = r.holds }

  pub block_in : (n b c : ℕ) → b ≤ c → c < b + n → In a (f c) → In a (by_block f b n)
  unfolding by_block
  block_in zero b c l u i = absurd (omega arith)
  block_in (suc n) b c l u i =
      by_equal b c (λ e. in_left (by_block f (suc b) n) (subst (λ (d : ℕ). In a (f d)) (sym e) i))
      λ d. in_right (f b) (block_in n (suc b) c (omega (arith, d)) (omega arith) i)
