-- The field that is named shows the fault by itself: it depends on the fields up to it alone, and where nothing is wrong every field
-- passes.
use Rattle.std.specs.Prelude.{◌≡◌, Bool, cond, eqb, length, take}
use Rattle.std.proofs.Math.Path.{refl}
use Rattle.std.proofs.Common.{sym, ap, ◌∙◌, arith, take_all}
use Rattle.std.proofs.Math.Bool.{true, false}
use mathlib.Core.List.{List, [], ◌∷◌}
use Rattle.std.proofs.Math.Option.{Option, none, some}
use Prim.Native.Nat.{ℕ, zero, suc, ◌+◌, ◌-◌, ◌<◌}
use Rattle.lists.specs.Split.{by_test}
use Rattle.paper.specs.Text.{Bytes, number_of, name_of}
use Rattle.paper.specs.Sheet.{Operand, Sheet}
use Rattle.paper.specs.Limits.{max_succs}
use Rattle.columns.specs.Bounds.{before_others, number_test}
use Rattle.paper.specs.Refusals.{next, allocation_of, onward, passing, numbers_passing, function_passing, typed_passing, block_passing, pair_passing, change_passing, operands_passing, group_passing, operation_passing, safepoint_passing, field_by_letter}

-- how far fields pass depends on those up to the first that does not
pub record Steady (count : List Bytes → ℕ) : Type 0 where
  pub steady : (fs gs : List Bytes) → count fs < length fs → take (suc (count fs)) gs ≡ take (suc (count fs)) fs → count gs ≡ count fs

-- two lists that begin alike
pub same_first : {A : Type 0} {x y : A} {xs ys : List A} → y ∷ ys ≡ x ∷ xs → (y ≡ x) × (ys ≡ xs)
same_first e = (cc, cc)

pub not_begun : {A Q : Type 0} {x : A} {xs : List A} → [] ≡ x ∷ xs → Q
not_begun {A} {Q} {x} {xs} e = absurd (let z : 0 ≡ suc (length xs) = ap length e in omega arith)

none_steady : Steady (λ fs. 0)
none_steady = record { steady = λ fs gs h e. refl }

passing_steady : {A : Type 0} (read : Bytes → Option A) (test : A → Bool) (more : A → List Bytes → ℕ) → ((a : A) → Steady (more a))
    → Steady (λ fs. passing read test fs more)
unfolding passing onward next
passing_steady {A} read test more m = record { steady = go }
  where
    at : (f : Bytes) (o : Option A) → read f ≡ o → (fs gs : List Bytes)
        → onward test more (before_others fs o) < suc (length fs)
        → take (onward test more (before_others fs o)) gs
        ≡ take (onward test more (before_others fs o)) fs
        → onward test more (before_others gs o) ≡ onward test more (before_others fs o)
    at f none q fs gs h e = refl
    at f (some a) q fs gs h e =
        by_test (test a)
        (λ t.
        let h' : suc (more a fs) < suc (length fs) = rw t at h in
        let e' : take (suc (more a fs)) gs ≡ take (suc (more a fs)) fs = rw t at e in
        rw t (ap suc ((m a).steady fs gs (omega arith) e')))
        λ t. rw t

    go : (fs gs : List Bytes) → passing read test fs more < length fs → take (suc (passing read test fs more)) gs ≡ take (suc (passing read test fs more)) fs
        → passing read test gs more ≡ passing read test fs more
    go [] gs h e = absurd (omega arith)
    go (f ∷ fs) [] h e = not_begun e
    go (f ∷ fs) (g ∷ gs) h e =
        let s = same_first e in
        let b : read g ≡ read f = ap read s.0 in
        rw b (at f (read f) refl fs gs h s.1)

steady_same : {count other : List Bytes → ℕ} → ((fs : List Bytes) → count fs ≡ other fs) → Steady other → Steady count
steady_same {count} {other} same o = record {
  steady = λ fs gs h e. same gs ∙ o.steady fs gs (rw (same fs) at h) (rw (same fs) at e) ∙ sym (same fs);
}

module _ (number limit : ℕ) where
  numbers_step : (most least : ℕ) (fs : List Bytes) → numbers_passing number limit least (take (suc most) fs)
      ≡ passing number_of (number_test number limit least) fs λ n rest. numbers_passing number limit (suc n) (take most rest)
  unfolding numbers_passing passing onward next
  numbers_step most least [] = refl
  numbers_step most least (f ∷ fs) = go (number_of f)
    where
      go : (o : Option ℕ)
          → onward (number_test number limit least) (λ n rest. numbers_passing number limit (suc n) (take most fs)) (before_others (take most fs) o)
          ≡ onward (number_test number limit least) (λ n rest. numbers_passing number limit (suc n) (take most rest)) (before_others fs o)
      go none = refl
      go (some n) = refl

  few_steady : (most least : ℕ) → Steady (λ fs. numbers_passing number limit least (take most fs))
  unfolding numbers_passing
  few_steady zero least = none_steady
  few_steady (suc most) least = steady_same (numbers_step most least) (passing_steady number_of _ _ λ n. few_steady most (suc n))

  -- of all that is left as many pass as of a part that is long enough
  numbers_steady : (least : ℕ) → Steady (λ fs. numbers_passing number limit least fs)
  numbers_steady least = record {
    steady = λ fs gs h e.
        let m : ℕ = length fs + length gs in
        let a : take m fs ≡ fs = take_all m fs (omega arith) in
        let b : take m gs ≡ gs = take_all m gs (omega arith) in
        let at = (few_steady m least).steady fs gs in
        rw (a, b) at at h e;
  }

module _ (number : ℕ) where
  function_steady : Steady (function_passing number)
  unfolding function_passing
  function_steady =
      passing_steady number_of _ _ λ regs.
      passing_steady number_of _ _ λ slots.
      passing_steady number_of _ _ λ vregs. passing_steady number_of _ _ λ blocks. passing_steady number_of _ _ λ entry. none_steady

  pair_steady : (first second : ℕ) → Steady (pair_passing number first second)
  unfolding pair_passing
  pair_steady first second = passing_steady number_of _ _ λ a. passing_steady number_of _ _ λ b. none_steady

  module _ (S : Sheet) where
    typed_steady : Steady (typed_passing number S)
    unfolding typed_passing
    typed_steady = passing_steady number_of _ _ λ n. none_steady

    block_steady : Steady (block_passing number S)
    unfolding block_passing
    block_steady = few_steady number S.blocks max_succs 0

    change_steady : Steady (change_passing number S)
    unfolding change_passing
    change_steady =
        passing_steady number_of _ _ λ inst.
        passing_steady number_of _ _ λ slot. passing_steady name_of _ _ λ from. passing_steady name_of _ _ λ to. none_steady

    operands_steady : (defs : Bool) (n : ℕ) (us : List Operand) (more : List Bytes → ℕ) → Steady more
        → Steady (λ fs. operands_passing number S defs n us fs more)
    unfolding operands_passing
    operands_steady defs zero us more m = m
    operands_steady defs (suc n) us more m =
        passing_steady name_of _ _ λ name. passing_steady allocation_of _ _ λ reg. operands_steady defs n _ more m

    group_steady : (defs : Bool) (more : List Bytes → ℕ) → Steady more → Steady (λ fs. group_passing number S defs fs more)
    unfolding group_passing
    group_steady defs more m = passing_steady number_of _ _ λ n. operands_steady defs n [] more m

    operation_steady : Steady (operation_passing number S)
    unfolding operation_passing
    operation_steady = passing_steady number_of _ _ λ inst. group_steady false _ (group_steady true _ none_steady)

    safepoint_steady : Steady (safepoint_passing number S)
    unfolding safepoint_passing
    safepoint_steady = passing_steady number_of _ _ λ inst. numbers_steady number S.slots 0

-- the same of the field that is named, the letter being 1
pub record FieldSteady (field : List Bytes → ℕ) : Type 0 where
  pub steady : (fs gs : List Bytes) → field fs < 2 + length fs → take (field fs - 1) gs ≡ take (field fs - 1) fs → field gs ≡ field fs

counted_steady : {count : List Bytes → ℕ} → Steady count → FieldSteady (λ fs. 2 + count fs)
counted_steady {count} c = record {
  steady = λ fs gs h e. let z : 2 + count fs - 1 ≡ suc (count fs) = omega arith in ap (λ (n : ℕ). 2 + n) (c.steady fs gs (omega arith) (rw z at e));
}

either_steady : (b : Bool) {one other : List Bytes → ℕ} → FieldSteady one → FieldSteady other → FieldSteady (λ fs. cond b (one fs) (other fs))
either_steady true x y = x
either_steady false x y = y

pub letter_steady : (number : ℕ) (S : Sheet) (letter : ℕ) → FieldSteady (field_by_letter number S letter)
unfolding field_by_letter
letter_steady number S letter =
    either_steady (eqb letter 70) (counted_steady (function_steady number))
    (either_steady (eqb letter 84) (counted_steady (typed_steady number S))
    (either_steady (eqb letter 66) (counted_steady (block_steady number S))
    (either_steady (eqb letter 83) (counted_steady (pair_steady number _ _))
    (either_steady (eqb letter 76) (counted_steady (pair_steady number _ _))
    (either_steady (eqb letter 77) (counted_steady (pair_steady number _ _))
    (either_steady (eqb letter 67) (counted_steady (change_steady number S))
    (either_steady (eqb letter 79) (counted_steady (operation_steady number S))
    (either_steady (eqb letter 80) (counted_steady (safepoint_steady number S)) (record { steady = λ fs gs h e. refl })))))))))
