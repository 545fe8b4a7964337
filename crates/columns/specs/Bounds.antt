-- No more fields pass than there are, so a field that is named is at most one behind the line's last.
use Rattle.std.specs.Prelude.{Bool, ◌&&◌, eqb, get_or, take, drop}
use Rattle.std.proofs.Common.{length-drop}
use Rattle.std.proofs.Math.Bool.{true, false, cond}
use mathlib.Core.List.{List, [], ◌∷◌}
use Rattle.std.proofs.Math.Option.{Option, none, some, map}
use Prim.Native.Nat.{ℕ, zero, suc, ◌+◌, ◌-◌, ◌≤◌, ◌<◌}
use native.Mathlib.Omega.{arith}
use Rattle.std.proofs.Math.ListN.{length}
use Rattle.lists.specs.Split.{by_test}
use Rattle.paper.specs.Text.{Bytes, tab, number_of, name_of, onto_first, parts, fields}
use Rattle.paper.specs.Sheet.{Operand, Sheet}
use Rattle.paper.specs.Limits.{max_succs}
use Rattle.paper.specs.Refusals.{Read, next, one_byte, allocation_of, onward, passing, within, rising, numbers_passing, function_passing, typed_passing, block_passing, pair_passing, change_passing, operands_passing, group_passing, operation_passing, safepoint_passing, field_by_letter, field_shown, names_field, field_of}
use Rattle.fields.specs.Fields.{until, ends_line, line_at, fields_behind}

-- what the first field was read as, before the others
abbrev pub before_others : {A : Type 0} → List Bytes → Option A → Option (Read A)
before_others fs o = map (λ a. record { value = a; rest = fs }) o

-- the test of one of several numbers
abbrev pub number_test : (number limit least : ℕ) → ℕ → Bool
number_test number limit least = λ n. within number limit n && rising number least n

passing_most : {A : Type 0} (read : Bytes → Option A) (test : A → Bool) (fs : List Bytes) (more : A → List Bytes → ℕ)
    → ((a : A) (rest : List Bytes) → more a rest ≤ length rest) → passing read test fs more ≤ length fs
unfolding passing onward next
passing_most read test [] more h = omega arith
passing_most {A} read test (f ∷ fs) more h = go (read f)
  where
    go : (o : Option A) → onward test more (before_others fs o) ≤ suc (length fs)
    go none = omega arith
    go (some a) = by_test (test a) (λ t. rw t (omega (arith, h a fs))) λ t. rw t (omega arith)

none_more : {A : Type 0} (a : A) (rest : List Bytes) → 0 ≤ length rest
none_more a rest = omega arith

module _ (number : ℕ) where
  pub numbers_most : (limit least : ℕ) (fs : List Bytes) → numbers_passing number limit least fs ≤ length fs
  unfolding numbers_passing passing onward next
  numbers_most limit least [] = omega arith
  numbers_most limit least (f ∷ fs) = go _ (number_of f) (λ n. numbers_most limit (suc n) fs)
    where
      go : (test : ℕ → Bool) (o : Option ℕ) → ((n : ℕ) → numbers_passing number limit (suc n) fs ≤ length fs)
          → onward test (λ n rest. numbers_passing number limit (suc n) fs) (before_others fs o) ≤ suc (length fs)
      go test none h = omega arith
      go test (some n) h = by_test (test n) (λ t. rw t (omega (arith, h n))) λ t. rw t (omega arith)

  pub function_most : (fs : List Bytes) → function_passing number fs ≤ length fs
  unfolding function_passing
  function_most fs =
      passing_most number_of _ fs _ λ regs fs.
      passing_most number_of _ fs _ λ slots fs.
      passing_most number_of _ fs _ λ vregs fs.
      passing_most number_of _ fs _ λ blocks fs. passing_most number_of _ fs _ none_more

  pub pair_most : (first second : ℕ) (fs : List Bytes) → pair_passing number first second fs ≤ length fs
  unfolding pair_passing
  pair_most first second fs = passing_most number_of _ fs _ λ a fs. passing_most number_of _ fs _ none_more

  module _ (S : Sheet) where
    pub typed_most : (fs : List Bytes) → typed_passing number S fs ≤ length fs
    unfolding typed_passing
    typed_most fs = passing_most number_of _ fs _ none_more

    take_most : (n : ℕ) (fs : List Bytes) → length (take n fs) ≤ length fs
    take_most zero fs = omega arith
    take_most (suc n) [] = omega arith
    take_most (suc n) (f ∷ fs) = omega (arith, take_most n fs)

    pub block_most : (fs : List Bytes) → block_passing number S fs ≤ length fs
    unfolding block_passing
    block_most fs = omega (arith, numbers_most S.blocks 0 (take max_succs fs), take_most max_succs fs)

    pub change_most : (fs : List Bytes) → change_passing number S fs ≤ length fs
    unfolding change_passing
    change_most fs =
        passing_most number_of _ fs _ λ inst fs.
        passing_most number_of _ fs _ λ slot fs. passing_most name_of _ fs _ λ from fs. passing_most name_of _ fs _ none_more

    operands_most : (defs : Bool) (n : ℕ) (us : List Operand) (fs : List Bytes) (more : List Bytes → ℕ) → ((rest : List Bytes) → more rest ≤ length rest)
        → operands_passing number S defs n us fs more ≤ length fs
    unfolding operands_passing
    operands_most defs zero us fs more h = h fs
    operands_most defs (suc n) us fs more h =
        passing_most name_of _ fs _ λ name fs. passing_most allocation_of _ fs _ λ reg fs. operands_most defs n _ fs more h

    group_most : (defs : Bool) (fs : List Bytes) (more : List Bytes → ℕ) → ((rest : List Bytes) → more rest ≤ length rest)
        → group_passing number S defs fs more ≤ length fs
    unfolding group_passing
    group_most defs fs more h = passing_most number_of _ fs _ λ n fs. operands_most defs n [] fs more h

    pub operation_most : (fs : List Bytes) → operation_passing number S fs ≤ length fs
    unfolding operation_passing
    operation_most fs =
        passing_most number_of _ fs _ λ inst fs. group_most false fs _ λ fs. group_most true fs _ λ fs. omega arith

    pub safepoint_most : (fs : List Bytes) → safepoint_passing number S fs ≤ length fs
    unfolding safepoint_passing
    safepoint_most fs = passing_most number_of _ fs _ λ inst fs. numbers_most S.slots 0 fs

    two_more : (n m : ℕ) → n ≤ m → 2 + n ≤ 2 + m
    two_more n m h = omega arith

    pub by_letter_most : (letter : ℕ) (fs : List Bytes) → field_by_letter number S letter fs ≤ 2 + length fs
    unfolding field_by_letter
    by_letter_most letter fs =
        one (eqb letter 70) (two_more _ _ (function_most fs))
        (one (eqb letter 84) (two_more _ _ (typed_most fs))
        (one (eqb letter 66) (two_more _ _ (block_most fs))
        (one (eqb letter 83) (two_more _ _ (pair_most _ _ fs))
        (one (eqb letter 76) (two_more _ _ (pair_most _ _ fs))
        (one (eqb letter 77) (two_more _ _ (pair_most _ _ fs))
        (one (eqb letter 67) (two_more _ _ (change_most fs))
        (one (eqb letter 79) (two_more _ _ (operation_most fs)) (one (eqb letter 80) (two_more _ _ (safepoint_most fs)) (omega arith)))))))))
      where
        one : (b : Bool) {m n : ℕ} → m ≤ 2 + length fs → n ≤ 2 + length fs → cond b m n ≤ 2 + length fs
        one true h k = h
        one false h k = k

    -- "the first one missing or too many": at most one behind the last
    pub field_most : (fs : List Bytes) → field_of number S fs ≤ suc (length fs)
    unfolding field_of field_shown
    field_most fs = go (names_field number) fs
      where
        go : (b : Bool) (fs : List Bytes) → cond b (field_shown number S fs) 0 ≤ suc (length fs)
        go true [] = omega arith
        go true (letter ∷ fs) = omega (arith, by_letter_most (one_byte letter) fs)
        go false fs = omega arith

-- a line has at most one field more than bytes

onto_most : (b : ℕ) (ps : List Bytes) → length (onto_first b ps) ≤ suc (length ps)
unfolding onto_first
onto_most b [] = omega arith
onto_most b (p ∷ ps) = omega arith

pub fields_most : (line : Bytes) → length (fields line) ≤ suc (length line)
unfolding fields parts
fields_most [] = omega arith
fields_most (b ∷ bs) = go (eqb b tab) (fields_most bs)
  where
    go : (t : Bool) → length (parts tab ([] ∷ []) bs) ≤ suc (length bs)
        → length (cond t ([] ∷ parts tab ([] ∷ []) bs) (onto_first b (parts tab ([] ∷ []) bs))) ≤ suc (suc (length bs))
    go true h = omega arith
    go false h = omega (arith, onto_most b (parts tab ([] ∷ []) bs))

until_most : (stops : ℕ → Bool) (l : Bytes) → length (until stops l) ≤ length l
unfolding until
until_most stops [] = omega arith
until_most stops (b ∷ bs) = by_test (stops b) (λ t. rw t (omega arith)) λ t. rw t (omega (arith, until_most stops bs))

pub line_most : (s : Bytes) (at : ℕ) → length (line_at s at) ≤ length s - at
unfolding line_at
line_most s at = omega (arith, until_most ends_line (drop at s), length-drop at s)

pub behind_most : (s : Bytes) (at : ℕ) → at < length s → length (fields_behind s at) ≤ length s
unfolding fields_behind
behind_most s at h =
    by_test (eqb (get_or s at 0) tab)
    (λ t. rw t (omega (arith, fields_most (line_at s (at + 1)), line_most s (at + 1))))
    λ t. rw t (omega arith)

-- wherever the place stands, there are few fields behind it
pub behind_few : (s : Bytes) (at : ℕ) → length (fields_behind s at) ≤ suc (length s)
unfolding fields_behind
behind_few s at =
    by_test (eqb (get_or s at 0) tab)
    (λ t. rw t (omega (arith, fields_most (line_at s (at + 1)), line_most s (at + 1))))
    λ t. rw t (omega arith)

-- what passes is few
pub ruleset few_pass = (behind_few, numbers_most, function_most, typed_most, block_most, pair_most, change_most, operation_most, safepoint_most)
