-- Operands: those that stand before one are read again, and a group is counted operand by operand.
use mathlib.Core.Path.{◌≡◌, refl, sym, ap, ◌∙◌}
use mathlib.Core.Bool.{Bool, true, false, not, ◌&&◌}
use mathlib.Core.List.{List, [], ◌∷◌, ◌++◌, append-nil, append_assoc}
use mathlib.Core.Option.{Option, none, some, map}
use Prim.Native.Nat.{ℕ, suc, ◌+◌, ◌-◌, ◌*◌, ◌≤◌, ◌<◌}
use native.Mathlib.Omega.{arith}
use borrow.Author.Tests.{eq-eqb, ne_eqb, lt-ltb, le-ltb, eqb-true}
use lib.Dec.{eqb, leb, ltb}
use Rattle.lists.specs.Split.{by_order, and_left, and_right}
use Rattle.paper.specs.Text.{Bytes, number_of, Name, real, virtual, name_same, name_of}
use Rattle.paper.specs.Sheet.{Operand}
use Rattle.paper.specs.Cells.{pick}
use Rattle.paper.specs.Refusals.{Read, next, ◌>>=◌, allocation_of, operands_of, any, reg_beyond, is_reg, elsewhere, within, reg_within, same_name, same_reg, new_name, new_reg, at_home, operands_passing, group_passing}
use Rattle.fields.specs.Fields.{fields_behind}
use Rattle.records.specs.Records.{Behind, Next, name_of_code, register_of_code}
use Rattle.records.specs.Parts.{put_first, NextOperand, operand_of_codes, counted}
use Rattle.loaded.specs.declared.Counts.{Counts}
use Rattle.columns.specs.declared.Code.TheVariants as held
use Rattle.columns.specs.Columns.{Shown, Passed, Earlier, shares, name_test, register_test, GroupPassed, GroupShown}
use Rattle.columns.proofs.LawsPassing.{passed_on}

-- the codes of two names are the same where the names are
code_of_name : Name → ℕ
code_of_name (virtual n) = n
code_of_name (real n) = 100000 + n

code_back : (c : ℕ) → code_of_name (name_of_code c) ≡ c
unfolding name_of_code code_of_name
code_back c = by_order c 100000 (λ h. rw (lt-ltb c 100000 h)) λ h. rw (le-ltb c 100000 h) (omega arith)

pub name_shared : (code n r : ℕ) → eqb n code ≡ shares (held.Name code) (operand_of_codes n r)
unfolding shares same_name
name_shared code n r = go (name_same (name_of_code n) (name_of_code code))
  where
    go : (d : Dec (name_of_code n ≡ name_of_code code)) → eqb n code ≡ pick d true false
    go (yes e) = eq-eqb n code (sym (code_back n) ∙ ap code_of_name e ∙ code_back code)
    go (no f) = ne_eqb n code (λ e. f (ap name_of_code e))

pub register_shared : (code n r : ℕ) → (ltb code 100000 && eqb r code) ≡ shares (held.Register code) (operand_of_codes n r)
unfolding shares same_reg register_of_code is_reg
register_shared code n r =
    by_order code 100000
    (λ h. by_order r 100000 (λ k. rw (lt-ltb code 100000 h, lt-ltb r 100000 k))
    λ k. rw (lt-ltb code 100000 h, le-ltb r 100000 k, ne_eqb r code (λ e. omega arith)))
    λ h. rw (le-ltb code 100000 h)

-- reading those before again

put_one : (u : Operand) (o : Option (Read (List Operand)))
    → (o >>= λ more. some (record { value = u ∷ more.value; rest = more.rest })) ≡ map (put_first u) o
put_one u none = refl
put_one u (some x) = refl

pub name_unread : (s : Bytes) (at : ℕ) → next name_of (fields_behind s at) ≡ none → (n : ℕ) → operands_of (suc n) (fields_behind s at) ≡ none
unfolding operands_of
name_unread s at e n = rw e

module _ {s : Bytes} {at mid : ℕ} {name : Name} (w : Next name_of s at name mid) where
  pub register_unread : next allocation_of (fields_behind s mid) ≡ none → (n : ℕ) → operands_of (suc n) (fields_behind s at) ≡ none
  unfolding operands_of
  register_unread e n = rw (w.says, e)

  pub operand_read : {reg : Option ℕ} {after : ℕ} → Next allocation_of s mid reg after → NextOperand s at (record { name = name; reg = reg }) after
  unfolding operands_of
  operand_read {reg} {after} v = record {
    says = λ n. rw (w.says, v.says) (put_one (record { name = name; reg = reg }) (operands_of n (fields_behind s after)));
    behind = v.behind;
    further = omega (arith, w.further, v.further);
    line = v.line ∙ w.line;
  }

-- an operand off the front
record Off (u : Operand) (o : Option (Read (List Operand))) (us : List Operand) : Type 0 where
  pub others : List Operand
  pub rest : List Bytes
  pub says : o ≡ some (record { value = others; rest = rest })
  pub whole : us ≡ u ∷ others

taken_off : (u : Operand) (o : Option (Read (List Operand))) {us : List Operand} {rest : List Bytes}
    → map (put_first u) o ≡ some (record { value = us; rest = rest }) → Off u o us
taken_off u none e = absurd (let z : ◌≡◌ {A = ℕ} 0 1 = cc in omega arith)
taken_off u (some more) {us} {rest} e =
    let z : ◌≡◌ {A = Read (List Operand)} (put_first u more) (record { value = us; rest = rest }) = cc in
    record { others = more.value; rest = more.rest; says = refl; whole = ap (λ (x : Read (List Operand)). x.value) (sym z) }

-- what is left to search tells what the whole does
pub record Left (test : Operand → Bool) (s : Bytes) (i n : ℕ) (us : List Operand) : Type 0 where
  pub others : List Operand
  pub ahead : Earlier s i n others
  pub same : any test us ≡ any test others

pub left_whole : (test : Operand → Bool) {s : Bytes} {at n : ℕ} {us : List Operand} → Earlier s at n us → Left test s at n us
left_whole test e = record { others = _; ahead = e; same = refl }

module _ {test : Operand → Bool} {s : Bytes} {i : ℕ} {us : List Operand} where
  pub left_bad : {b : Bool} {n : ℕ} → Left test s i (suc n) us → operands_of (suc n) (fields_behind s i) ≡ none → b ≡ any test us
  left_bad l e = absurd (let z = sym e ∙ l.ahead.says in let w : ◌≡◌ {A = ℕ} 0 1 = cc in omega arith)

  pub left_none : Left test s i 0 us → false ≡ any test us
  unfolding operands_of any
  left_none l =
      let z : l.others ≡ [] =
      let w : ◌≡◌ {A = Read (List Operand)} (record { value = []; rest = fields_behind s i }) (record { value = l.others; rest = l.ahead.rest }) =
      let e = l.ahead.says in cc in
      ap (λ (x : Read (List Operand)). x.value) (sym w) in
      sym (l.same ∙ ap (any test) z)

  module _ {n : ℕ} {u : Operand} {after : ℕ} (next_one : NextOperand s i u after) where
    off : (l : Left test s i (suc n) us) → Off u (operands_of n (fields_behind s after)) l.others
    off l = taken_off u _ (sym (next_one.says n) ∙ l.ahead.says)

    pub left_found : Left test s i (suc n) us → test u ≡ true → true ≡ any test us
    unfolding any
    left_found l t = sym (l.same ∙ ap (any test) (off l).whole ∙ rw t)

    pub left_more : Left test s i (suc n) us → test u ≡ false → Left test s after n us
    unfolding any
    left_more l t =
        let o = off l in
        record { others = o.others; ahead = record { rest = o.rest; says = o.says }; same = l.same ∙ ap (any test) o.whole ∙ rw t }

-- the search, `done` operands behind `at`
pub record Searching (test : Operand → Bool) (s : Bytes) (at count done i : ℕ) : Type 0 where
  pub left : (us : List Operand) → Earlier s at count us → Left test s i (count - done) us
  pub behind : Behind s i

pub searching_none : {s : Bytes} {at : ℕ} (test : Operand → Bool) (count : ℕ) → Behind s at → Searching test s at count 0 at
searching_none {s} {at} test count b =
    record { left = λ us e. let z : count - 0 ≡ count = omega arith in rw z (left_whole test e); behind = b }

module _ {test : Operand → Bool} {s : Bytes} {at count done i : ℕ} (r : Searching test s at count done i) where
  pub searching_done : count ≤ done → (us : List Operand) → Earlier s at count us → false ≡ any test us
  searching_done h us e = let z : count - done ≡ 0 = omega arith in left_none (rw z at (r.left us e))

  module _ (h : done < count) where
    one_more : (us : List Operand) → Earlier s at count us → Left test s i (suc (count - (done + 1))) us
    one_more us e = let z : count - done ≡ suc (count - (done + 1)) = omega arith in rw z at (r.left us e)

    pub searching_bad : {b : Bool} → ((n : ℕ) → operands_of (suc n) (fields_behind s i) ≡ none) → (us : List Operand) → Earlier s at count us → b ≡ any test us
    searching_bad f us e = left_bad (one_more us e) (f (count - (done + 1)))

    module _ {u : Operand} {after : ℕ} (next_one : NextOperand s i u after) where
      pub searching_found : test u ≡ true → (us : List Operand) → Earlier s at count us → true ≡ any test us
      searching_found t us e = left_found next_one (one_more us e) t

      pub searching_more : test u ≡ false → Searching test s at count (done + 1) after
      searching_more t = record { left = λ us e. left_more next_one (one_more us e) t; behind = next_one.behind }

-- the tests of an operand

module _ (number : ℕ) (us : List Operand) (code : ℕ) where
  pub name_unasked : (number ≡ 6 → ⊥) → new_name number us (name_of_code code) ≡ true
  unfolding new_name
  name_unasked f = rw (ne_eqb number 6 f)

  pub name_earlier : {b : Bool} → number ≡ 6 → b ≡ any (shares (held.Name code)) us → new_name number us (name_of_code code) ≡ not b
  unfolding new_name shares
  name_earlier e q = rw (eq-eqb number 6 e, q)

module _ (number : ℕ) (counts : Counts) (defs : Bool) (us : List Operand) (name register : ℕ) where
  pub register_limit : number ≡ 5
      → (ltb register 100000 && leb counts.regs register) ≡ not (register_test number counts defs us (name_of_code name) (register_of_code register))
  unfolding reg_within new_reg at_home reg_beyond register_of_code
  register_limit e =
      rw (e)
      (by_order register 100000
      (λ h. rw (lt-ltb register 100000 h) (twice (leb counts.regs register)))
      λ h. rw (le-ltb register 100000 h))
    where
      twice : (b : Bool) → b ≡ not (not b && true)
      twice true = refl
      twice false = refl

  pub register_home : number ≡ 7
      → elsewhere (name_of_code name) (register_of_code register) ≡ not (register_test number counts defs us (name_of_code name) (register_of_code register))
  unfolding reg_within new_reg at_home
  register_home e = rw (e) (twice (elsewhere (name_of_code name) (register_of_code register)))
    where
      twice : (b : Bool) → b ≡ not (not b)
      twice true = refl
      twice false = refl

  pub register_earlier : (eqb number 6 && defs) ≡ true
      → any (shares (held.Register register)) us ≡ not (register_test number counts defs us (name_of_code name) (register_of_code register))
  unfolding reg_within new_reg at_home shares
  register_earlier e =
      let six : number ≡ 6 = eqb-true _ _ (and_left _ _ e) in
      rw (six, and_right (eqb number 6) _ e) (twice (any (same_reg (register_of_code register)) us))
    where
      twice : (b : Bool) → b ≡ not (not b && true)
      twice true = refl
      twice false = refl

  pub register_unasked : (number ≡ 5 → ⊥) → (number ≡ 7 → ⊥) → (eqb number 6 && defs) ≡ false
      → false ≡ not (register_test number counts defs us (name_of_code name) (register_of_code register))
  unfolding reg_within new_reg at_home
  register_unasked f g e = rw (ne_eqb number 5 f, ne_eqb number 7 g, e)

-- a group, operand by operand

abbrev put_all : List Operand → Read (List Operand) → Read (List Operand)
put_all us more = record { value = us ++ more.value; rest = more.rest }

put_none : (o : Option (Read (List Operand))) → o ≡ map (put_all []) o
put_none none = refl
put_none (some x) = refl

put_last : (us : List Operand) (u : Operand) (o : Option (Read (List Operand)))
    → map (put_all us) (map (put_first u) o) ≡ map (put_all (us ++ (u ∷ []))) o
put_last us u none = refl
put_last us u (some x) =
    ap (λ (l : List Operand). some (record { value = l; rest = x.rest })) (sym (append_assoc us (u ∷ []) x.value))

pub record Grouped (number : ℕ) (counts : Counts) (defs : Bool) (s : Bytes) (first n count i : ℕ) : Type 0 where
  pub us : List Operand
  pub so_far : (m : ℕ) → operands_of (count + m) (fields_behind s first) ≡ map (put_all us) (operands_of m (fields_behind s i))
  pub gives : (more : List Bytes → ℕ)
      → operands_passing number (counted counts) defs n [] (fields_behind s first) more
      ≡ 2 * count + operands_passing number (counted counts) defs (n - count) us (fields_behind s i) more
  pub behind : Behind s i
  pub few : count ≤ n

pub grouped_none : (number : ℕ) (counts : Counts) (defs : Bool) (s : Bytes) (first n : ℕ) → Behind s first → Grouped number counts defs s first n 0 first
grouped_none number counts defs s first n b =
    let z : n - 0 ≡ n = omega arith in
    record {
      us = [];
      so_far = λ m. let e : 0 + m ≡ m = omega arith in rw e (put_none (operands_of m (fields_behind s first)));
      gives = λ more. rw z (omega arith);
      behind = b;
      few = omega arith;
    }

module _ {number : ℕ} {counts : Counts} {defs : Bool} {s : Bytes} {first n count i : ℕ} (g : Grouped number counts defs s first n count i) where
  pub those_before : Earlier s first count g.us
  unfolding operands_of
  those_before =
      let e : count + 0 ≡ count = omega arith in
      record { rest = fields_behind s i; says = rw (e, append-nil) at (g.so_far 0) }

  module _ {at : ℕ} (p : Passed number_of (within number 9) s at n first) (small : n < 100000) where
    -- what the group gives where the operands give a number
    whole : (more : List Bytes → ℕ) {k : ℕ}
        → operands_passing number (counted counts) defs n [] (fields_behind s first) more ≡ k
        → group_passing number (counted counts) defs (fields_behind s at) more ≡ suc k
    unfolding group_passing
    whole more e = passed_on p _ e

    pub grouped_done : n ≤ count → GroupPassed number counts defs s at (1 + 2 * n) i
    unfolding operands_passing
    grouped_done h =
        let z : n - count ≡ 0 = omega arith in
        let e : count ≡ n = omega (arith, g.few) in
        record {
          goes_on = λ more. whole more {k = 2 * count + more (fields_behind s i)} (g.gives more ∙ rw z refl) ∙ (rw e (omega arith));
          behind = g.behind;
          few = omega arith;
        }

    module _ (h : count < n) where
      one_left : n - count ≡ suc (n - (count + 1))
      one_left = omega arith

      pub name_stops : Shown name_of (name_test number counts g.us) s i → GroupShown number counts defs s at (1 + 2 * count)
      unfolding operands_passing
      name_stops e = record {
        stops = λ more. whole more (g.gives more ∙ ap (λ (k : ℕ). 2 * count + k) {y = 0} (rw one_left (e.stops _))) ∙ (omega arith);
        few = omega arith;
      }

      module _ (c : ℕ) {mid : ℕ} (name : Passed name_of (name_test number counts g.us) s i (name_of_code c) mid) where
        pub register_stops : Shown allocation_of (register_test number counts defs g.us (name_of_code c)) s mid → GroupShown number counts defs s at (2 + 2 * count)
        unfolding operands_passing
        register_stops e = record {
          stops = λ more. whole more (g.gives more ∙ ap (λ (k : ℕ). 2 * count + k) {y = 1} (rw one_left (passed_on name _ (e.stops _)))) ∙ (omega arith);
          few = omega arith;
        }

        pub grouped_more : (r : ℕ) {after : ℕ} → Passed allocation_of (register_test number counts defs g.us (name_of_code c)) s mid (register_of_code r) after
            → Grouped number counts defs s first n (count + 1) after
        unfolding operands_passing operands_of
        grouped_more r {after} reg =
            let u = operand_of_codes c r in
            record {
              us = g.us ++ (u ∷ []);
              so_far = λ m.
                  let e : count + 1 + m ≡ count + suc m = omega arith in
                  let o = operands_of m (fields_behind s after) in
                  rw e (g.so_far (suc m) ∙ rw ((operand_read name.field reg.field).says m) (put_last g.us u o));
              gives = λ more.
                  let us = g.us ++ (u ∷ []) in
                  let S = counted counts in
                  let k : ℕ = operands_passing number S defs (n - (count + 1)) us (fields_behind s after) more in
                  g.gives more ∙ ap (λ (k : ℕ). 2 * count + k) {y = suc (suc k)} (rw one_left (passed_on name _ (passed_on reg _ refl))) ∙ (omega arith);
              behind = reg.field.behind;
              few = omega arith;
            }
