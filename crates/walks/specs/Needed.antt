-- Why refusal 8 and untyped real names are needed, by computed sheets. Without refusal 8 a sheet is accepted whose programs read
-- different values, and one is accepted though a check fails on a walk.
use Rattle.std.specs.Prelude.{◌≡◌, refl, Bool, true, List, [], ◌∷◌, ℕ, suc}
use Rattle.std.proofs.Common.{arith}
use Rattle.paper.specs.Text.{Name, real, virtual as v}
use Rattle.paper.specs.Sheet.{Step, spill, reload, change, safepoint, Block, Sheet}
use Rattle.paper.specs.Steps.{entry_state}
use Rattle.paper.specs.Report.{faults}
use Rattle.paper.specs.Walks.{here, there, start, then, Passes, Acceptance}
use Rattle.paper.specs.Programs.{World, original_run, allocated_run, EqualReads}
use Rattle.paper.specs.declared.Rule.TheVariants.{House}
use Rattle.walks.specs.Choices.{some_not_none}
use Rattle.walks.specs.Computed.{computed, defines, uses}

-- v7 is reference-typed, v0 is not
abbrev pub sheet_of : List Block → ℕ → Sheet
sheet_of body blocks = record { regs = 1; slots = 1; vregs = 8; blocks = blocks; entry = 0; typed = 7 ∷ []; body = body }

-- an operation gives 0, and the collector adds 1
abbrev pub counting : World
counting = record { Value = ℕ; results = λ place values def. 0; collect = λ place value. suc value }

-- A change from v7 to v0: the safepoint takes slot 0 for a reference and moves it, but the original does not move v0.
abbrev pub retyped : Sheet
retyped = sheet_of (record { succs = []; steps = defines (v 7) 0 ∷ spill 0 0 ∷ change 2 0 (v 7) (v 0) ∷ safepoint 3 (0 ∷ []) ∷ reload 0 0 ∷ uses (v 0) 0 ∷ [] } ∷ []) 1

-- One branch brings v0 marked, by such a change, the other unmarked; their meet is marked and passes the safepoint.
abbrev pub half_marked : Sheet
half_marked =
    sheet_of (
    record { succs = 1 ∷ 2 ∷ []; steps = [] }
    ∷ record { succs = 3 ∷ []; steps = defines (v 7) 0 ∷ spill 0 0 ∷ change 2 0 (v 7) (v 0) ∷ [] }
    ∷ record { succs = 3 ∷ []; steps = defines (v 0) 0 ∷ spill 0 0 ∷ [] }
    ∷ record { succs = []; steps = safepoint 3 (0 ∷ []) ∷ [] }
    ∷ []
    ) 4

pub retyped_accepted : faults House retyped ≡ []
unfolding computed
retyped_accepted = refl

pub half_marked_accepted : faults House half_marked ≡ []
unfolding computed
half_marked_accepted = refl

-- the two programs read 0 and 1
pub retyped_reads_differ : ¬ EqualReads retyped
unfolding computed
retyped_reads_differ reads =
    let e : ◌≡◌ {A = List (List ℕ)} ([] ∷ [] ∷ [] ∷ [] ∷ [] ∷ (0 ∷ []) ∷ []) ([] ∷ [] ∷ [] ∷ [] ∷ [] ∷ (1 ∷ []) ∷ []) = reads counting (λ n. 0) (λ l. 0) (λ i h. refl) 0 start in
    let z : ◌≡◌ {A = ℕ} 0 1 = cc in
    omega arith

-- the safepoint is kind 6 on the walk through block 2
pub half_marked_walk_fails : ¬ Acceptance half_marked
unfolding computed
half_marked_walk_fails E =
    let p = E.passes 3 (then {b = 2} (then {b = 0} start (there (here refl))) (here refl)) in
    some_not_none p.1.1.0 refl

-- Were every name reference-typed, real ones too: the safepoint leaves r0 unmarked where it is, but the original moves it.
abbrev pub every_name : Name → Bool
every_name n = true

abbrev pub over_a_safepoint : List Step
over_a_safepoint = safepoint 3 [] ∷ uses (real 0) 0 ∷ []

pub typed_real_passes : Passes every_name over_a_safepoint (entry_state House retyped)
unfolding computed
typed_real_passes = (refl, (refl, tt))

pub typed_real_original : original_run counting every_name 0 over_a_safepoint (λ n. 0) ≡ [] ∷ (1 ∷ []) ∷ []
unfolding computed
typed_real_original = refl

pub typed_real_allocated : allocated_run counting 0 over_a_safepoint (λ l. 0) ≡ [] ∷ (0 ∷ []) ∷ []
unfolding computed
typed_real_allocated = refl
