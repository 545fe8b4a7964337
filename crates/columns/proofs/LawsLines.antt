-- A line by its letter; and of the sheet so far the counts alone matter.
use mathlib.Core.Path.{◌≡◌, refl, sym, ap}
use mathlib.Core.Bool.{Bool, true, false, not, ◌&&◌}
use mathlib.Core.List.{List, []}
use mathlib.Core.Option.{Option, none, some}
use Prim.Native.Nat.{ℕ, zero, suc, ◌+◌, ◌<◌}
use native.Mathlib.Omega.{arith}
use borrow.Author.Tests.{ne_eqb}
use lib.Dec.{eqb}
use Rattle.paper.specs.Text.{Bytes, fields, number_of, Name, real, virtual, name_of}
use Rattle.paper.specs.Sheet.{Operand, Sheet}
use Rattle.paper.specs.Refusals.{Read, next, one_byte, allocation_of, name_beyond, reg_beyond, onward, passing, within, name_within, reg_within, new_name, new_reg, at_home, typed_passing, block_passing, change_passing, operands_passing, group_passing, operation_passing, safepoint_passing, field_by_letter, field_shown}
use Rattle.fields.specs.Fields.{line_at, field_at, fields_behind}
use Rattle.fields.specs.Cursor.{fields_at}
use Rattle.records.specs.Records.{Behind, Counted}
use Rattle.records.specs.Parts.{counted}
use Rattle.records.specs.Letters.{letter_ends, behind_letter}
use Rattle.loaded.specs.declared.Counts.{Counts}
use Rattle.columns.specs.Columns.{Opening}

-- by its letter

module _ {s : Bytes} {at letter : ℕ} (o : Opening s at letter) where
  some_letter : 0 < letter → one_byte (field_at s at) ≡ 0 → ⊥
  some_letter d z = omega (arith, d, o.is_letter, z)

  pub behind_its_letter : 0 < letter → Behind s (at + 1)
  behind_its_letter d = behind_letter s at o.inside (some_letter d) o.last o.size

  module _ (number : ℕ) (S : Sheet) where
    -- what is counted behind a letter tells the line's field
    pub by_its_letter : 0 < letter → {n : ℕ} → n ≡ field_by_letter number S letter (fields_behind s (at + 1))
        → n ≡ field_shown number S (fields (line_at s at))
    unfolding field_shown
    by_its_letter d e = rw (fields_at s at, ← o.is_letter, letter_ends s at o.inside (some_letter d)) e

    pub by_no_letter : (letter ≡ 70 → ⊥) → (letter ≡ 84 → ⊥) → (letter ≡ 66 → ⊥) → (letter ≡ 83 → ⊥) → (letter ≡ 76 → ⊥)
        → (letter ≡ 77 → ⊥) → (letter ≡ 67 → ⊥) → (letter ≡ 79 → ⊥) → (letter ≡ 80 → ⊥) → 1 ≡ field_shown number S (fields (line_at s at))
    unfolding field_shown field_by_letter
    by_no_letter a b c d e f g h i =
        rw (
          fields_at s at,
          ← o.is_letter,
          ne_eqb _ _ a,
          ne_eqb _ _ b,
          ne_eqb _ _ c,
          ne_eqb _ _ d,
          ne_eqb _ _ e,
          ne_eqb _ _ f,
          ne_eqb _ _ g,
          ne_eqb _ _ h,
          ne_eqb _ _ i,
        )

-- the counts alone

passing_same : {A : Type 0} (read : Bytes → Option A) {test test' : A → Bool} (fs : List Bytes) {more more' : A → List Bytes → ℕ}
    → ((a : A) → test a ≡ test' a) → ((a : A) (rest : List Bytes) → more a rest ≡ more' a rest) → passing read test fs more ≡ passing read test' fs more'
unfolding passing onward
passing_same {A} read {test} {test'} fs {more} {more'} t m = go (next read fs)
  where
    go : (o : Option (Read A)) → onward test more o ≡ onward test' more' o
    go none = refl
    go (some x) = rw (t x.value, m x.value x.rest)

module _ (number : ℕ) {S : Sheet} {counts : Counts} (k : Counted S counts) where
  name_counted : (name : Name) → name_within number S name ≡ name_within number (counted counts) name
  unfolding name_within name_beyond
  name_counted (real n) = rw k.regs
  name_counted (virtual n) = rw k.vregs

  reg_counted : (reg : Option ℕ) → reg_within number S reg ≡ reg_within number (counted counts) reg
  unfolding reg_within reg_beyond
  reg_counted none = refl
  reg_counted (some r) = rw k.regs

  pub typed_counted : (fs : List Bytes) → typed_passing number (counted counts) fs ≡ typed_passing number S fs
  unfolding typed_passing
  typed_counted fs = rw k.vregs

  pub block_counted : (fs : List Bytes) → block_passing number (counted counts) fs ≡ block_passing number S fs
  unfolding block_passing
  block_counted fs = rw k.blocks

  pub safepoint_counted : (fs : List Bytes) → safepoint_passing number (counted counts) fs ≡ safepoint_passing number S fs
  unfolding safepoint_passing
  safepoint_counted fs = rw k.slots

  pub change_counted : (fs : List Bytes) → change_passing number (counted counts) fs ≡ change_passing number S fs
  unfolding change_passing
  change_counted fs =
      passing_same number_of fs (λ inst. refl) λ inst fs.
      passing_same number_of fs (λ slot. ap (λ n. within number n slot) (sym k.slots)) λ slot fs.
      passing_same name_of fs (λ from. sym (name_counted from)) λ from fs.
      passing_same name_of fs (λ to. ap (λ (b : Bool). b && not (eqb number 8)) (sym (name_counted to))) λ to fs. refl

  operands_counted : (defs : Bool) (n : ℕ) (us : List Operand) (fs : List Bytes) {more more' : List Bytes → ℕ} → ((rest : List Bytes) → more rest ≡ more' rest)
      → operands_passing number (counted counts) defs n us fs more ≡ operands_passing number S defs n us fs more'
  unfolding operands_passing
  operands_counted defs zero us fs m = m fs
  operands_counted defs (suc n) us fs m =
      passing_same name_of fs (λ name. ap (λ (b : Bool). b && new_name number us name) (sym (name_counted name))) λ name fs.
      passing_same allocation_of fs (λ reg. ap (λ (b : Bool). b && (new_reg number defs us reg && at_home number name reg)) (sym (reg_counted reg))) λ reg fs.
      operands_counted defs n _ fs m

  group_counted : (defs : Bool) (fs : List Bytes) {more more' : List Bytes → ℕ} → ((rest : List Bytes) → more rest ≡ more' rest)
      → group_passing number (counted counts) defs fs more ≡ group_passing number S defs fs more'
  unfolding group_passing
  group_counted defs fs m = passing_same number_of fs (λ n. refl) λ n fs. operands_counted defs n [] fs m

  pub operation_counted : (fs : List Bytes) → operation_passing number (counted counts) fs ≡ operation_passing number S fs
  unfolding operation_passing
  operation_counted fs =
      passing_same number_of fs (λ inst. refl) λ inst fs. group_counted false fs λ fs. group_counted true fs λ fs. refl
