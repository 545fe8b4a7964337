-- A group of operands judged by what is kept of it: limits, repeats and real names, as document 01 has them of all operands.
use mathlib.Core.Path.{◌≡◌, refl, sym, ap, ap₂, ◌∙◌}
use mathlib.Core.Bool.{Bool, true, false, ◌&&◌, ◌||◌, or_assoc, true≢false}
use mathlib.Core.List.{List, [], ◌∷◌, map}
use Rattle.std.specs.List.{list_any}
use mathlib.Core.Option.{Option, none, some}
use Prim.Native.Nat.{ℕ, ◌-◌, ◌≤◌}
use native.Mathlib.Decide.{ℕ_discrete}
use native.Mathlib.Omega.{arith}
use borrow.Author.Tests.{lt-ltb, le-ltb, ltb-false}
use lib.Dec.{leb, ltb}
use lib.ListN.{length, take}
use lib.Seq.{take_all}
use Rattle.lists.specs.Split.{by_test, by_order, or_left, or_right}
use Rattle.paper.specs.Text.{Name, real, virtual, name_same}
use Rattle.paper.specs.Sheet.{Operand, operation, Sheet}
use Rattle.paper.specs.Cells.{pick}
use Rattle.paper.specs.Refusals.{step_record, any, repeats, names, allocated, elsewhere, name_beyond, reg_beyond, operand_beyond, step_beyond, step_out_of_order, beyond_limit, out_of_order, real_elsewhere, types_differ, so_far_of, first_holding}
use Rattle.loaded.specs.declared.Counts.{Counts}
use Rattle.records.specs.declared.Place.{Place}
use Rattle.std.specs.Prelude.{Ok, Err}
use Rattle.std.specs.declared.result.Result.{Result}
use Rattle.records.specs.declared.Breach.{Breach}
use Rattle.records.specs.declared.OperandCodes.{OperandCodes}
use Rattle.records.specs.declared.Operands.{Operands}
use Rattle.records.specs.Records.{holding, judged_of, name_of_code, register_of_code, Placed, Counted}
use Rattle.records.specs.Parts.{counted, name_code, register_code, operand_meant, operand_of_codes, held, OperandsKept, group_over, OperationWithin, below}
use Rattle.records.proofs.LawsTold.{clear_of, Tested}

pub operand_limit : (n r : ℕ) (counts : Counts) {b : Bool} → b ≡ name_beyond (counted counts) (name_of_code n)
    → (b || (ltb r 100000 && leb counts.regs r)) ≡ operand_beyond (counted counts) (operand_of_codes n r)
unfolding operand_beyond reg_beyond register_of_code
operand_limit n r counts e = by_test (ltb r 100000) (λ t. rw (e, t)) λ t. rw (e, t)

-- a search through a group

any_meant : (test : Operand → Bool) (cs : List OperandCodes) → list_any (λ c. test (operand_meant c)) cs ≡ any test (map operand_meant cs)
unfolding any
any_meant test [] = refl
any_meant test (c ∷ cs) = rw (any_meant test cs)

pub held_any : (g : Operands) (test : Operand → Bool) → list_any (λ c. test (operand_meant c)) (take g.count g.operands) ≡ any test (held g)
unfolding held
held_any g test = any_meant test (take g.count g.operands)

-- names and registers by their numbers

codes_names : (cs : List OperandCodes) → names (map operand_meant cs) ≡ map name_of_code (map name_code cs)
unfolding names
codes_names [] = refl
codes_names (c ∷ cs) = ap (λ t. name_of_code c.name ∷ t) (codes_names cs)

codes_registers : (cs : List OperandCodes) → allocated (map operand_meant cs) ≡ below 100000 (map register_code cs)
unfolding allocated below register_of_code
codes_registers [] = refl
codes_registers (c ∷ cs) = by_test (ltb c.register 100000) (λ t. rw (t, codes_registers cs)) λ t. rw (t, codes_registers cs)

name_code_one : (x y : ℕ) → name_of_code x ≡ name_of_code y → x ≡ y
unfolding name_of_code
name_code_one x y e =
    by_order x 100000
    (λ p. by_order y 100000
    (λ q. let f = rw (lt-ltb x 100000 p, lt-ltb y 100000 q) at e in cc)
    λ q. let f = rw (lt-ltb x 100000 p, le-ltb y 100000 q) at e in absurd (let z : ◌≡◌ {A = ℕ} 0 1 = cc in omega arith))
    λ p. by_order y 100000
    (λ q. let f = rw (le-ltb x 100000 p, lt-ltb y 100000 q) at e in absurd (let z : ◌≡◌ {A = ℕ} 0 1 = cc in omega arith))
    λ q. let f = rw (le-ltb x 100000 p, le-ltb y 100000 q) at e in let k : x - 100000 ≡ y - 100000 = cc in omega arith

same_name : (x y : ℕ) → pick (name_same (name_of_code x) (name_of_code y)) true false ≡ pick (ℕ_discrete x y) true false
same_name x y = go (name_same (name_of_code x) (name_of_code y)) (ℕ_discrete x y)
  where
    go : (d : Dec (name_of_code x ≡ name_of_code y)) (f : Dec (x ≡ y)) → pick d true false ≡ pick f true false
    go (yes p) (yes q) = refl
    go (yes p) (no n) = absurd (n (name_code_one x y p))
    go (no n) (yes q) = absurd (n (ap name_of_code q))
    go (no n) (no m) = refl

any_name : (x : ℕ) (l : List ℕ) → any (λ y. pick (name_same (name_of_code x) y) true false) (map name_of_code l) ≡ any (λ y. pick (ℕ_discrete x y) true false) l
unfolding any
any_name x [] = refl
any_name x (y ∷ l) = rw (same_name x y, any_name x l)

repeats_names : (l : List ℕ) → repeats name_same (map name_of_code l) ≡ repeats ℕ_discrete l
unfolding repeats
repeats_names [] = refl
repeats_names (x ∷ l) = rw (any_name x l, repeats_names l)

module _ {us : List Operand} {g : Operands} (k : OperandsKept us g) where
  held_names : repeats name_same (names (held g)) ≡ repeats ℕ_discrete (map name_code (take g.count g.operands))
  unfolding held
  held_names = rw (codes_names (take g.count g.operands)) (repeats_names (map name_code (take g.count g.operands)))

  held_registers : repeats ℕ_discrete (allocated (held g)) ≡ repeats ℕ_discrete (below 100000 (map register_code (take g.count g.operands)))
  unfolding held
  held_registers = rw (codes_registers (take g.count g.operands))

  -- eight operands or fewer are all held
  pub held_all : g.count ≤ 8 → us ≡ held g
  held_all h = sym (take_all 8 us (omega (arith, k.counted))) ∙ k.kept

  group_limit : (test : Operand → Bool) → (ltb 8 (length us) || any test us) ≡ (ltb 8 g.count || any test (held g))
  group_limit test =
      by_order 8 g.count (λ p. rw (k.counted, lt-ltb 8 g.count p)) λ p. rw k.counted (ap (λ t. ltb 8 g.count || any test t) (held_all p))

-- limits by the counts

pub name_limit : {S : Sheet} {counts : Counts} → Counted S counts → (n : Name) → name_beyond S n ≡ name_beyond (counted counts) n
unfolding name_beyond
name_limit h (real n) = rw h.regs
name_limit h (virtual n) = rw h.vregs

reg_none : (S T : Sheet) → reg_beyond S none ≡ reg_beyond T none
unfolding reg_beyond
reg_none S T = refl

reg_some : (S T : Sheet) (r : ℕ) → S.regs ≡ T.regs → reg_beyond S (some r) ≡ reg_beyond T (some r)
unfolding reg_beyond
reg_some S T r e = rw e

operand_limits : {S : Sheet} {counts : Counts} → Counted S counts → (u : Operand) → operand_beyond S u ≡ operand_beyond (counted counts) u
unfolding operand_beyond
operand_limits {S} {counts} h u = ap₂ (λ a b. a || b) (name_limit h u.name) (reg u.reg)
  where
    reg : (r : Option ℕ) → reg_beyond S r ≡ reg_beyond (counted counts) r
    reg none = reg_none S (counted counts)
    reg (some r) = reg_some S (counted counts) r h.regs

any_limits : {S : Sheet} {counts : Counts} → Counted S counts → (us : List Operand) → any (operand_beyond S) us ≡ any (operand_beyond (counted counts)) us
unfolding any
any_limits h [] = refl
any_limits h (u ∷ us) = ap₂ (λ a b. a || b) (operand_limits h u) (any_limits h us)

-- an operation

module _ (counts : Counts) (g : Operands) (f : group_over counts g ≡ false) where
  pub group_few : g.count ≤ 8
  unfolding group_over
  group_few = ltb-false 8 g.count (or_left _ _ f)

  pub group_within : any (operand_beyond (counted counts)) (held g) ≡ false
  unfolding group_over
  group_within = or_right (ltb 8 g.count) _ f

-- the tests of inst, uses and defs
module _ (inst : ℕ) (gu gd : Bool) (b : (ltb 65535 inst || (gu || gd)) ≡ false) where
  pub inst_pass : inst ≤ 65535
  inst_pass = ltb-false 65535 inst (or_left _ _ b)

  pub uses_pass : gu ≡ false
  uses_pass = or_left gu gd (or_right (ltb 65535 inst) _ b)

  pub defs_pass : gd ≡ false
  defs_pass = or_right gu gd (or_right (ltb 65535 inst) _ b)

-- an operation that passes is within its limits
pub unbroken : (counts : Counts) (place : Place) (inst : ℕ) (uses defs : Operands) {gu gd : Bool} (disorder elsewhere differ : Bool) → gu ≡ group_over counts uses
    → gd ≡ group_over counts defs → (j : Result (Unit {0}) Breach) → j ≡ judged_of (first_holding (holding place (ltb 65535 inst || (gu || gd)) disorder elsewhere differ))
    → OperationWithin counts place inst uses defs j
unbroken counts place inst uses defs {gu} {gd} disorder elsewhere differ eu ed (Ok passes) l =
    let c = clear_of l refl in
    record {
      placed = c.placed;
      room = c.room;
      inst_most = inst_pass inst gu gd c.within;
      uses_within = sym eu ∙ uses_pass inst gu gd c.within;
      defs_within = sym ed ∙ defs_pass inst gu gd c.within;
    }
unbroken counts place inst uses defs disorder elsewhere differ eu ed (Err breach) l = tt

module _ {us ds : List Operand} {uses defs : Operands} (ku : OperandsKept us uses) (kd : OperandsKept ds defs) (inst : ℕ) (counts : Counts) {gu gd : Bool}
    (eu : gu ≡ group_over counts uses) (ed : gd ≡ group_over counts defs) {so : Option Sheet} {place : Place}
    (p : Placed so (step_record (operation inst us ds)) place) (h : Counted (so_far_of so) counts) where
  operation_limit : (ltb 65535 inst || (gu || gd)) ≡ beyond_limit (so_far_of so) (step_record (operation inst us ds))
  unfolding beyond_limit step_beyond group_over
  operation_limit =
      let limit : Operand → Bool = operand_beyond (counted counts) in
      rw (any_limits h us, any_limits h ds)
      (sym (ap (λ t. ltb 65535 inst || t) (sym (or_assoc (ltb 8 (length us)) (any limit us) (ltb 8 (length ds) || any limit ds)))
      ∙ ap₂ (λ x y. ltb 65535 inst || (x || y)) (group_limit ku limit ∙ sym eu) (group_limit kd limit ∙ sym ed)))

  -- beyond a limit
  pub operation_beyond : (ltb 65535 inst || (gu || gd)) ≡ true → Tested so (step_record (operation inst us ds)) place (ltb 65535 inst || (gu || gd)) false false false
  operation_beyond b = record {
    placed = p;
    limit = operation_limit;
    order = λ z. absurd (true≢false (sym b ∙ z));
    home = λ z. absurd (true≢false (sym b ∙ z));
    types = λ z. absurd (true≢false (sym b ∙ z));
  }

  module _ (b : (ltb 65535 inst || (gu || gd)) ≡ false) where
    all_uses : us ≡ held uses
    all_uses = held_all ku (group_few counts uses (sym eu ∙ uses_pass inst gu gd b))

    all_defs : ds ≡ held defs
    all_defs = held_all kd (group_few counts defs (sym ed ∙ defs_pass inst gu gd b))

    pub operation_tested : {ru rd rr lu ld : Bool} → ru ≡ repeats ℕ_discrete (map name_code (take uses.count uses.operands))
        → rd ≡ repeats ℕ_discrete (map name_code (take defs.count defs.operands)) → rr ≡ repeats ℕ_discrete (below 100000 (map register_code (take defs.count defs.operands)))
        → lu ≡ any (λ u. elsewhere u.name u.reg) (held uses) → ld ≡ any (λ u. elsewhere u.name u.reg) (held defs)
        → Tested so (step_record (operation inst us ds)) place (ltb 65535 inst || (gu || gd)) (ru || (rd || rr)) (lu || ld) false
    unfolding out_of_order step_out_of_order real_elsewhere types_differ
    operation_tested eru erd err elu eld = record {
      placed = p;
      limit = operation_limit;
      order = λ z. rw (all_uses, all_defs, held_names ku, held_names kd, held_registers kd, eru, erd, err);
      home = λ z. rw (all_uses, all_defs, elu, eld);
      types = λ z. refl;
    }
