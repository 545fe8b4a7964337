-- Of a well-formed line that a refusal's condition does not hold of, every field passes.
use Rattle.std.proofs.Math.Path.{◌≡◌, refl, sym, ap, subst}
use Rattle.std.proofs.Common.{◌∙◌, true≢false, arith, take_all}
use Rattle.std.specs.Prelude.{Bool, cond, ◌&&◌, ◌||◌, eqb, ltb}
use Rattle.std.proofs.Math.Bool.{true, false}
use mathlib.Core.List.{List, [], ◌∷◌, ◌++◌, append_assoc}
use Rattle.std.proofs.Math.Option.{Option, none, some, map}
use Prim.Native.Nat.{ℕ, zero, suc, ◌≤◌}
use Rattle.std.proofs.Math.Decide.{ℕ_discrete}
use borrow.Author.Tests.{ne_eqb, leb-true, lt-ltb, ltb-false, leb-false, eqb-true, eqb-false, not-false}
use Rattle.std.proofs.Math.Dec.{leb}
use Rattle.std.proofs.Math.ListN.{length}
use Rattle.lists.specs.Split.{by_test, and_left, and_right, or_left, or_right}
use Rattle.paper.specs.Text.{Bytes, number_of, Name, name_same, name_of}
use Rattle.paper.specs.Cells.{pick}
use Rattle.paper.specs.Sheet.{Operand, Step, change, operation, safepoint, Sheet}
use Rattle.paper.specs.Limits.{max_regs, max_slots, max_vregs, max_blocks, max_succs, max_operands, max_inst}
use Rattle.columns.specs.Bounds.{before_others}
use Rattle.paper.specs.Refusals.{Record, function_record, typed_record, step_record, Read, ◌>>=◌, next, ended, numbers_of, function_of, typed_of, block_of, two_numbers_of, change_of, allocation_of, operands_of, counted_operands_of, operation_of, safepoint_of, any, name_beyond, reg_beyond, operand_beyond, step_beyond, beyond_limit, ascending_from, ascending, repeats, names, allocated, step_out_of_order, out_of_order, is_reg, elsewhere, real_elsewhere, onward, passing, within, name_within, reg_within, rising, same_name, same_reg, new_name, new_reg, at_home, numbers_passing, function_passing, typed_passing, block_passing, pair_passing, change_passing, operands_passing, group_passing, operation_passing, safepoint_passing}

-- the condition of the number does not hold
pub record Clear (number : ℕ) (S : Sheet) (r : Record) : Type 0 where
  pub limit : number ≡ 5 → beyond_limit S r ≡ false
  pub order : number ≡ 6 → out_of_order S r ≡ false
  pub home : number ≡ 7 → real_elsewhere r ≡ false

-- reading, taken apart
pub bound : {A B Q : Type 0} (o : Option A) (f : A → Option B) {b : B} → (o >>= f) ≡ some b → ((a : A) → o ≡ some a → f a ≡ some b → Q) → Q
bound none f e k = absurd (let z : ◌≡◌ {A = ℕ} 0 1 = cc in omega arith)
bound (some a) f e k = k a refl e

pub done : {A : Type 0} (fs : List Bytes) {a b : A} → ended fs a ≡ some b → (fs ≡ []) × (a ≡ b)
unfolding ended
done [] e = (refl, cc)
done (f ∷ fs) e = absurd (let z : ◌≡◌ {A = ℕ} 0 1 = cc in omega arith)

-- a field that is read and passes counts, and then those behind it
module _ {A : Type 0} (read : Bytes → Option A) (test : A → Bool) where
  passes : (fs : List Bytes) (more : A → List Bytes → ℕ) {x : Read A} → next read fs ≡ some x → test x.value ≡ true
      → more x.value x.rest ≡ length x.rest → passing read test fs more ≡ length fs
  unfolding next passing onward
  passes [] more e t m = absurd (let z : ◌≡◌ {A = ℕ} 0 1 = cc in omega arith)
  passes (f ∷ fs) more {x} e t m = go (read f) e
    where
      go : (o : Option A) → before_others fs o ≡ some x
          → onward test more (before_others fs o) ≡ suc (length fs)
      go none e = absurd (let z : ◌≡◌ {A = ℕ} 0 1 = cc in omega arith)
      go (some a) e =
          let z : ◌≡◌ {A = Read A} (record { value = a; rest = fs }) x = cc in
          let t' : test a ≡ true = subst (λ (y : Read A). test y.value ≡ true) (sym z) t in
          let m' : more a fs ≡ length fs = subst (λ (y : Read A). more y.value y.rest ≡ length y.rest) (sym z) m in
          rw (t', m')

none_left : (fs : List Bytes) → fs ≡ [] → 0 ≡ length fs
none_left fs e = rw e

pub mapped : {A B Q : Type 0} {f : A → B} (o : Option A) {b : B} → map f o ≡ some b → ((a : A) → o ≡ some a → b ≡ f a → Q) → Q
mapped none e k = absurd (let z : ◌≡◌ {A = ℕ} 0 1 = cc in omega arith)
mapped (some a) e k = k a refl (cc)

pub chosen : {A Q : Type 0} {a b : A} (t : Bool) → cond t (some a) none ≡ some b → (t ≡ true → a ≡ b → Q) → Q
chosen true e k = k refl (cc)
chosen false e k = absurd (let z : ◌≡◌ {A = ℕ} 0 1 = cc in omega arith)

numbers_length : (fs : List Bytes) {ns : List ℕ} → numbers_of fs ≡ some ns → length ns ≡ length fs
unfolding numbers_of
numbers_length [] {ns} e = let z : [] ≡ ns = cc in ap length (sym z)
numbers_length (f ∷ fs) {ns} e = bound (number_of f) _ e λ n a e. mapped (numbers_of fs) e λ more b q. ap length q ∙ ap suc (numbers_length fs b)

-- a condition that fails, taken apart
ahead : {P : Type 0} (x y : Bool) → (P → (x || y) ≡ false) → P → x ≡ false
ahead x y h p = or_left x y (h p)

behind : {P : Type 0} (x y : Bool) → (P → (x || y) ≡ false) → P → y ≡ false
behind x y h p = or_right x y (h p)

both : {x y : Bool} → x ≡ true → y ≡ true → (x && y) ≡ true
both e f = rw (e, f)

operands_length : (n : ℕ) (fs : List Bytes) (us : List Operand) (rest : List Bytes) → operands_of n fs ≡ some (record { value = us; rest = rest })
    → length us ≡ n
unfolding operands_of
operands_length zero fs us rest e =
    let z : ◌≡◌ {A = Read (List Operand)} (record { value = []; rest = fs }) (record { value = us; rest = rest }) = cc in
    ap (λ (x : Read (List Operand)). length x.value) (sym z)
operands_length (suc n) fs us rest e =
    bound (next name_of fs) _ e λ name a e.
    bound (next allocation_of name.rest) _ e λ reg b e.
    bound (operands_of n reg.rest) _ e λ others d e.
    let u : Operand = record { name = name.value; reg = reg.value } in
    let z : ◌≡◌ {A = Read (List Operand)} (record { value = u ∷ others.value; rest = others.rest }) (record { value = us; rest = rest }) = cc in
    ap (λ (x : Read (List Operand)). length x.value) (sym z) ∙ ap suc (operands_length n reg.rest others.value others.rest d)

-- operands that a refusal's condition does not hold of, behind earlier ones
record Fine (number : ℕ) (S : Sheet) (defs : Bool) (earlier us : List Operand) : Type 0 where
  pub limit : number ≡ 5 → any (operand_beyond S) us ≡ false
  pub new : number ≡ 6 → repeats name_same (names (earlier ++ us)) ≡ false
  pub apart : number ≡ 6 → defs ≡ true → repeats ℕ_discrete (allocated (earlier ++ us)) ≡ false
  pub home : number ≡ 7 → any (λ u. elsewhere u.name u.reg) us ≡ false

one_more : {number : ℕ} {S : Sheet} {defs : Bool} {earlier us : List Operand} {u : Operand} → Fine number S defs earlier (u ∷ us)
    → Fine number S defs (earlier ++ (u ∷ [])) us
unfolding any
one_more {number} {S} {defs} {earlier} {us} {u} f =
    let e : (earlier ++ (u ∷ [])) ++ us ≡ earlier ++ (u ∷ us) = append_assoc earlier (u ∷ []) us in
    record {
      limit = λ five. or_right (operand_beyond S u) _ (f.limit five);
      new = λ six. rw e (f.new six);
      apart = λ six d. rw e (f.apart six d);
      home = λ seven. or_right (elsewhere u.name u.reg) _ (f.home seven);
    }

operand_inside : (S : Sheet) (u : Operand) (us : List Operand) → any (operand_beyond S) (u ∷ us) ≡ false
    → (name_beyond S u.name || reg_beyond S u.reg) ≡ false
unfolding any operand_beyond
operand_inside S u us e = or_left _ _ e

-- a name that is not repeated is not among those before it
names_among : (test : Name → Bool) (earlier : List Operand) (u : Operand) (us : List Operand) → any test (names (earlier ++ (u ∷ us))) ≡ false
    → test u.name ≡ false
unfolding any names
names_among test [] u us e = or_left (test u.name) _ e
names_among test (y ∷ earlier) u us e = names_among test earlier u us (or_right (test y.name) _ e)

fresh_name : (earlier : List Operand) (u : Operand) (us : List Operand) → repeats name_same (names (earlier ++ (u ∷ us))) ≡ false
    → any (same_name u.name) earlier ≡ false
unfolding any names repeats same_name
fresh_name [] u us e = refl
fresh_name (y ∷ earlier) u us e =
    let here : any (λ n. pick (name_same y.name n) true false) (names (earlier ++ (u ∷ us))) ≡ false = or_left _ _ e in
    rw (names_among (λ n. pick (name_same y.name n) true false) earlier u us here)
    (fresh_name earlier u us (or_right (any (λ n. pick (name_same y.name n) true false) (names (earlier ++ (u ∷ us)))) _ e))

-- nor is a register
regs_among : (test : ℕ → Bool) (earlier : List Operand) (name : Name) (r : ℕ) (us : List Operand)
    → any test (allocated (earlier ++ (record { name = name; reg = some r } ∷ us))) ≡ false → test r ≡ false
unfolding any allocated
regs_among test [] name r us e = or_left (test r) _ e
regs_among test (y ∷ earlier) name r us e = go y.reg (regs_among test earlier name r us) e
  where
    go : (o : Option ℕ) → (any test (allocated (earlier ++ (record { name = name; reg = some r } ∷ us))) ≡ false → test r ≡ false)
        → any test (allocated (record { name = y.name; reg = o } ∷ (earlier ++ (record { name = name; reg = some r } ∷ us)))) ≡ false → test r ≡ false
    go none more e = more e
    go (some k) more e = more (or_right (test k) _ e)

no_reg : (earlier : List Operand) → any (same_reg none) earlier ≡ false
unfolding any same_reg
no_reg [] = refl
no_reg (y ∷ earlier) = no_reg earlier

differs : (a b : ℕ) → pick (ℕ_discrete a b) true false ≡ false → eqb a b ≡ false
differs a b e = go (ℕ_discrete a b) e
  where
    go : (d : Dec (a ≡ b)) → pick d true false ≡ false → eqb a b ≡ false
    go (yes p) f = absurd (true≢false f)
    go (no n) f = ne_eqb a b n

fresh_reg : (earlier : List Operand) (name : Name) (r : ℕ) (us : List Operand)
    → repeats ℕ_discrete (allocated (earlier ++ (record { name = name; reg = some r } ∷ us))) ≡ false → any (same_reg (some r)) earlier ≡ false
unfolding any allocated repeats same_reg is_reg
fresh_reg [] name r us e = refl
fresh_reg (y ∷ earlier) name r us e = go y.reg (fresh_reg earlier name r us) e
  where
    go : (o : Option ℕ)
        → (repeats ℕ_discrete (allocated (earlier ++ (record { name = name; reg = some r } ∷ us))) ≡ false → any (same_reg (some r)) earlier ≡ false)
        → repeats ℕ_discrete (allocated (record { name = y.name; reg = o } ∷ (earlier ++ (record { name = name; reg = some r } ∷ us)))) ≡ false
        → (is_reg r o || any (same_reg (some r)) earlier) ≡ false
    go none more e = more e
    go (some k) more e =
        let here : any (λ n. pick (ℕ_discrete k n) true false) (allocated (earlier ++ (record { name = name; reg = some r } ∷ us))) ≡ false = or_left _ _ e in
        rw (differs k r (regs_among (λ n. pick (ℕ_discrete k n) true false) earlier name r us here))
        (more (or_right (any (λ n. pick (ℕ_discrete k n) true false) (allocated (earlier ++ (record { name = name; reg = some r } ∷ us)))) _ e))

-- the tests
module _ (number : ℕ) where
  name_new : (earlier : List Operand) (u : Operand) (us : List Operand) → (number ≡ 6 → repeats name_same (names (earlier ++ (u ∷ us))) ≡ false)
      → new_name number earlier u.name ≡ true
  unfolding new_name
  name_new earlier u us h = by_test (eqb number 6) (λ t. rw (t, fresh_name earlier u us (h (eqb-true _ _ t)))) λ t. rw t

  reg_new : (defs : Bool) (earlier : List Operand) (u : Operand) (us : List Operand)
      → (number ≡ 6 → defs ≡ true → repeats ℕ_discrete (allocated (earlier ++ (u ∷ us))) ≡ false) → new_reg number defs earlier u.reg ≡ true
  unfolding new_reg
  reg_new defs earlier u us h =
      by_test (eqb number 6 && defs)
      (λ t. rw (t, go u.reg (h (eqb-true _ _ (and_left _ _ t)) (and_right (eqb number 6) _ t))))
      λ t. rw t
    where
      go : (o : Option ℕ) → repeats ℕ_discrete (allocated (earlier ++ (record { name = u.name; reg = o } ∷ us))) ≡ false → any (same_reg o) earlier ≡ false
      go none e = no_reg earlier
      go (some r) e = fresh_reg earlier u.name r us e

  home_of : (name : Name) (reg : Option ℕ) → (number ≡ 7 → elsewhere name reg ≡ false) → at_home number name reg ≡ true
  unfolding at_home
  home_of name reg h = by_test (eqb number 7) (λ t. rw (t, h (eqb-true _ _ t))) λ t. rw t

  below : (limit n : ℕ) → (number ≡ 5 → leb limit n ≡ false) → within number limit n ≡ true
  unfolding within
  below limit n h =
      by_test (eqb number 5)
      (λ t. rw t (lt-ltb n limit (leb-false limit n (h (eqb-true _ _ t)))))
      λ t. rw t

  most : (limit n : ℕ) → (number ≡ 5 → ltb limit n ≡ false) → within number (suc limit) n ≡ true
  unfolding within
  most limit n h =
      by_test (eqb number 5)
      (λ t. rw t (lt-ltb n (suc limit) (let k = ltb-false limit n (h (eqb-true _ _ t)) in omega arith)))
      λ t. rw t

  positive : (n : ℕ) → (number ≡ 5 → eqb n 0 ≡ false) → within number n 0 ≡ true
  unfolding within
  positive n h =
      by_test (eqb number 5)
      (λ t. rw t (lt-ltb 0 n (let k = eqb-false n 0 (h (eqb-true _ _ t)) in omega arith)))
      λ t. rw t

  name_inside : (S : Sheet) (name : Name) → (number ≡ 5 → name_beyond S name ≡ false) → name_within number S name ≡ true
  unfolding name_within
  name_inside S name h = by_test (eqb number 5) (λ t. rw (t, h (eqb-true _ _ t))) λ t. rw t

  reg_inside : (S : Sheet) (reg : Option ℕ) → (number ≡ 5 → reg_beyond S reg ≡ false) → reg_within number S reg ≡ true
  unfolding reg_within
  reg_inside S reg h = by_test (eqb number 5) (λ t. rw (t, h (eqb-true _ _ t))) λ t. rw t

  up : (least n : ℕ) → (number ≡ 6 → leb least n ≡ true) → rising number least n ≡ true
  unfolding rising
  up least n h = by_test (eqb number 6) (λ t. rw t (h (eqb-true _ _ t))) λ t. rw t

  module _ (S : Sheet) where
    pub function_passes : (fs : List Bytes) {r : Record} → function_of fs ≡ some r → Clear number S r → function_passing number fs ≡ length fs
    unfolding function_of function_passing beyond_limit
    function_passes fs {r} e c =
        bound (next number_of fs) _ e λ regs a e.
        bound (next number_of regs.rest) _ e λ slots b e.
        bound (next number_of slots.rest) _ e λ vregs c' e.
        bound (next number_of vregs.rest) _ e λ blocks d e.
        bound (next number_of blocks.rest) _ e λ entry g e.
        let q = done entry.rest e in
        let all : number ≡ 5 → beyond_limit S (function_record regs.value slots.value vregs.value blocks.value entry.value) ≡ false =
        λ five. ap (beyond_limit S) q.1 ∙ c.limit five in
        let behind_regs = behind (ltb max_regs regs.value) _ all in
        let behind_slots = behind (ltb max_slots slots.value) _ behind_regs in
        let behind_vregs = behind (ltb max_vregs vregs.value) _ behind_slots in
        let behind_blocks = behind (ltb max_blocks blocks.value) _ behind_vregs in
        passes number_of _ fs _ a (most max_regs _ (ahead _ _ all))
        (passes number_of _ regs.rest _ b (most max_slots _ (ahead _ _ behind_regs))
        (passes number_of _ slots.rest _ c' (most max_vregs _ (ahead _ _ behind_slots))
        (passes number_of _ vregs.rest _ d
        (both (most max_blocks _ (ahead _ _ behind_vregs)) (positive _ (ahead _ _ behind_blocks)))
        (passes number_of _ blocks.rest _ g (below _ _ (behind (eqb blocks.value 0) _ behind_blocks)) (none_left entry.rest q.0)))))

    pub typed_passes : (fs : List Bytes) {r : Record} → typed_of fs ≡ some r → Clear number S r → (number ≡ 6 → ⊥) → typed_passing number S fs ≡ length fs
    unfolding typed_of typed_passing beyond_limit
    typed_passes fs {r} e c six =
        bound (next number_of fs) _ e λ n a e.
        let q = done n.rest e in
        let all : number ≡ 5 → beyond_limit S (typed_record n.value) ≡ false = λ five. ap (beyond_limit S) q.1 ∙ c.limit five in
        passes number_of _ fs _ a (both (below _ _ all) (rw (ne_eqb number 6 six))) (none_left n.rest q.0)

    pub pair_passes : (first second : ℕ) (step : ℕ → ℕ → Step) → ((a b : ℕ) → step_beyond S (step a b) ≡ (leb first a || leb second b))
        → (fs : List Bytes) {r : Record} → two_numbers_of step fs ≡ some r → Clear number S r → pair_passing number first second fs ≡ length fs
    unfolding two_numbers_of pair_passing beyond_limit
    pair_passes first second step h fs {r} e c =
        bound (next number_of fs) _ e λ x a e.
        bound (next number_of x.rest) _ e λ y b e.
        let q = done y.rest e in
        let all : number ≡ 5 → (leb first x.value || leb second y.value) ≡ false =
        λ five. sym (h x.value y.value) ∙ ap (beyond_limit S) q.1 ∙ c.limit five in
        passes number_of _ fs _ a (below _ _ (ahead _ _ all))
        (passes number_of _ x.rest _ b (below _ _ (behind (leb first x.value) _ all)) (none_left y.rest q.0))

    pub change_passes : (fs : List Bytes) {r : Record} → change_of fs ≡ some r → Clear number S r → (number ≡ 8 → ⊥) → change_passing number S fs ≡ length fs
    unfolding change_of change_passing beyond_limit step_beyond
    change_passes fs {r} e c eight =
        bound (next number_of fs) _ e λ inst a e.
        bound (next number_of inst.rest) _ e λ slot b e.
        bound (next name_of slot.rest) _ e λ from d e.
        bound (next name_of from.rest) _ e λ to g e.
        let q = done to.rest e in
        let all : number ≡ 5 → step_beyond S (change inst.value slot.value from.value to.value) ≡ false =
        λ five. ap (beyond_limit S) q.1 ∙ c.limit five in
        let behind_inst = behind (ltb max_inst inst.value) _ all in
        let behind_slot = behind (leb S.slots slot.value) _ behind_inst in
        passes number_of _ fs _ a (most max_inst _ (ahead _ _ all))
        (passes number_of _ inst.rest _ b (below _ _ (ahead _ _ behind_inst))
        (passes name_of _ slot.rest _ d (name_inside S _ (ahead _ _ behind_slot))
        (passes name_of _ from.rest _ g
        (both (name_inside S _ (behind (name_beyond S from.value) _ behind_slot)) (rw (ne_eqb number 8 eight)))
        (none_left to.rest q.0))))

    -- numbers to the line's end
    numbers_pass : (limit least : ℕ) (fs : List Bytes) {ns : List ℕ} → numbers_of fs ≡ some ns → (number ≡ 5 → any (leb limit) ns ≡ false)
        → (number ≡ 6 → ascending_from least ns ≡ true) → numbers_passing number limit least fs ≡ length fs
    unfolding numbers_of numbers_passing any ascending_from passing onward next
    numbers_pass limit least [] e h k = refl
    numbers_pass limit least (f ∷ fs) {ns} e h k =
        bound (number_of f) _ e λ n a e.
        mapped (numbers_of fs) e λ more b q.
        let h' : number ≡ 5 → (leb limit n || any (leb limit) more) ≡ false = λ five. ap (any (leb limit)) (sym q) ∙ h five in
        let k' : number ≡ 6 → (leb least n && ascending_from (suc n) more) ≡ true = λ six. ap (ascending_from least) (sym q) ∙ k six in
        rw (a, both (below limit n (ahead _ _ h')) (up least n (λ six. and_left _ _ (k' six))))
        (ap suc (numbers_pass limit (suc n) fs b (behind (leb limit n) _ h') (λ six. and_right (leb least n) _ (k' six))))

    pub block_passes : (fs : List Bytes) {r : Record} → block_of fs ≡ some r → Clear number S r → (number ≡ 6 → ⊥) → block_passing number S fs ≡ length fs
    unfolding block_of block_passing beyond_limit
    block_passes fs {r} e c six =
        bound (numbers_of fs) _ e λ succs a e.
        chosen (leb (length succs) max_succs) e λ few q.
        let z : length fs ≤ max_succs = omega (arith, leb-true (length succs) max_succs few, numbers_length fs a) in
        rw (take_all max_succs fs z) (numbers_pass S.blocks 0 fs a (λ five. ap (beyond_limit S) q ∙ c.limit five) (λ e. absurd (six e)))

    -- operands
    operands_pass : (defs : Bool) (n : ℕ) (earlier us : List Operand) (fs rest : List Bytes) (more : List Bytes → ℕ)
        → operands_of n fs ≡ some (record { value = us; rest = rest }) → Fine number S defs earlier us → more rest ≡ length rest
        → operands_passing number S defs n earlier fs more ≡ length fs
    unfolding operands_of operands_passing any
    operands_pass defs zero earlier us fs rest more e f m =
        let z : ◌≡◌ {A = Read (List Operand)} (record { value = []; rest = fs }) (record { value = us; rest = rest }) = cc in
        subst (λ (l : List Bytes). more l ≡ length l) (sym (ap (λ (x : Read (List Operand)). x.rest) z)) m
    operands_pass defs (suc n) earlier us fs rest more e f m =
        bound (next name_of fs) _ e λ name a e.
        bound (next allocation_of name.rest) _ e λ reg b e.
        bound (operands_of n reg.rest) _ e λ others d e.
        let u : Operand = record { name = name.value; reg = reg.value } in
        let z : ◌≡◌ {A = Read (List Operand)} (record { value = u ∷ others.value; rest = others.rest }) (record { value = us; rest = rest }) = cc in
        let g : Fine number S defs earlier (u ∷ others.value) = subst (Fine number S defs earlier) (sym (ap (λ (x : Read (List Operand)). x.value) z)) f in
        let m' : more others.rest ≡ length others.rest = subst (λ (l : List Bytes). more l
        ≡ length l) (sym (ap (λ (x : Read (List Operand)). x.rest) z)) m in
        let beyond : number ≡ 5 → (name_beyond S name.value || reg_beyond S reg.value)
        ≡ false = λ five. operand_inside S u others.value (g.limit five) in
        passes name_of _ fs _ a (both (name_inside S _ (ahead _ _ beyond)) (name_new earlier u others.value g.new))
        (passes allocation_of _ name.rest _ b
        (both (reg_inside S _ (behind (name_beyond S name.value) _ beyond))
        (both (reg_new defs earlier u others.value g.apart) (home_of name.value reg.value (λ seven. or_left _ _ (g.home seven)))))
        (operands_pass defs n (earlier ++ (u ∷ [])) others.value reg.rest others.rest more d (one_more g) m'))

    group_pass : (defs : Bool) (us : List Operand) (fs rest : List Bytes) (more : List Bytes → ℕ)
        → counted_operands_of fs ≡ some (record { value = us; rest = rest }) → (number ≡ 5 → ltb max_operands (length us) ≡ false) → Fine number S defs [] us
        → more rest ≡ length rest → group_passing number S defs fs more ≡ length fs
    unfolding counted_operands_of group_passing
    group_pass defs us fs rest more e few f m =
        bound (next number_of fs) _ e λ n a e.
        passes number_of _ fs _ a (most max_operands _ (λ five. rw (operands_length n.value n.rest us rest e) at (few five)))
        (operands_pass defs n.value [] us n.rest rest more e f m)

    pub operation_passes : (fs : List Bytes) {r : Record} → operation_of fs ≡ some r → Clear number S r → operation_passing number S fs ≡ length fs
    unfolding operation_of operation_passing beyond_limit step_beyond out_of_order step_out_of_order real_elsewhere
    operation_passes fs {r} e c =
        bound (next number_of fs) _ e λ inst a e.
        bound (counted_operands_of inst.rest) _ e λ uses b e.
        bound (counted_operands_of uses.rest) _ e λ defs d e.
        let q = done defs.rest e in
        let all : number ≡ 5 → step_beyond S (operation inst.value uses.value defs.value)
        ≡ false = λ five. ap (beyond_limit S) q.1 ∙ c.limit five in
        let behind_inst = behind (ltb max_inst inst.value) _ all in
        let behind_n = behind (ltb max_operands (length uses.value)) _ behind_inst in
        let behind_uses = behind (any (operand_beyond S) uses.value) _ behind_n in
        let behind_m = behind (ltb max_operands (length defs.value)) _ behind_uses in
        let order : number ≡ 6 → step_out_of_order (operation inst.value uses.value defs.value)
        ≡ false = λ six. ap (out_of_order S) q.1 ∙ c.order six in
        let behind_names = behind (repeats name_same (names uses.value)) _ order in
        let home : number ≡ 7 → real_elsewhere (step_record (operation inst.value uses.value defs.value))
        ≡ false = λ seven. ap real_elsewhere q.1 ∙ c.home seven in
        passes number_of _ fs _ a (most max_inst _ (ahead _ _ all))
        (group_pass false uses.value inst.rest uses.rest _ b (ahead _ _ behind_inst)
        (record { limit = ahead _ _ behind_n; new = ahead _ _ order; apart = λ six d. absurd (true≢false (sym d)); home = ahead _ _ home })
        (group_pass true defs.value uses.rest defs.rest _ d (ahead _ _ behind_uses)
        (record {
          limit = behind_m;
          new = ahead _ _ behind_names;
          apart = λ six d. behind (repeats name_same (names defs.value)) _ behind_names six;
          home = behind (any (λ u. elsewhere u.name u.reg) uses.value) _ home;
        })
        (none_left defs.rest q.0)))

    pub safepoint_passes : (fs : List Bytes) {r : Record} → safepoint_of fs ≡ some r → Clear number S r → safepoint_passing number S fs ≡ length fs
    unfolding safepoint_of safepoint_passing beyond_limit step_beyond out_of_order step_out_of_order ascending
    safepoint_passes fs {r} e c =
        bound (next number_of fs) _ e λ inst a e.
        bound (numbers_of inst.rest) _ e λ slots b e.
        let q : step_record (safepoint inst.value slots) ≡ r = cc in
        let all : number ≡ 5 → step_beyond S (safepoint inst.value slots) ≡ false = λ five. ap (beyond_limit S) q ∙ c.limit five in
        passes number_of _ fs _ a (most max_inst _ (ahead _ _ all))
        (numbers_pass S.slots 0 inst.rest b (behind (ltb max_inst inst.value) _ all)
        (λ six. not-false (ascending_from 0 slots) (ap (out_of_order S) q ∙ c.order six)))
