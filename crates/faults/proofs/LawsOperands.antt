-- Operands with no allocation, counted one after the other, and their lines.
use Rattle.std.proofs.Common.{eqb, filter, suc, take}
use Rattle.std.proofs.lemmas.List.{take_more}
use Rattle.lists.specs.Split.{by_equal}
use mathlib.Core.Path.{◌≡◌, refl, sym, ap, ◌∙◌}
use mathlib.Core.List.{List, [], ◌∷◌, ◌++◌, map, map-append}
use mathlib.Core.Option.{Option, none, some}
use Prim.Native.Nat.{ℕ, ◌+◌, ◌/◌, ◌<◌}
use native.Mathlib.Omega.{arith}
use borrow.Author.Tests.{eq-eqb, ne_eqb}
use lib.ListN.{length, get_or}
use Rattle.lists.specs.Sets.{Wrote, then}
use Rattle.paper.specs.Sheet.{Operand}
use Rattle.paper.specs.Report.{unallocated, entry_text, lines_text, names_lines}
use Rattle.cells.specs.Packed.{name_of_word}
use Rattle.loaded.specs.Actions.{no_register, register_of, operand_of}
use Rattle.report.specs.Lines.{fields_line}
use Rattle.report.specs.declared.Position.{Position}
use Rattle.faults.specs.Errors.{names_at}
use Rattle.faults.specs.Passes.{lines_append}
use Rattle.faults.proofs.LawsFields.{missing_fields, missing_text}
use Rattle.faults.proofs.LawsPasses.{one_line}

one_append : (u : Operand) (xs ys : List Operand) (o : Option ℕ) → u.reg ≡ o → unallocated (xs ++ ys) ≡ unallocated xs ++ unallocated ys
    → unallocated ((u ∷ xs) ++ ys) ≡ unallocated (u ∷ xs) ++ unallocated ys
unfolding unallocated
one_append u xs ys none e h = rw e (ap (λ t. u.name ∷ t) h)
one_append u xs ys (some r) e h = rw e h

unallocated_append : (xs ys : List Operand) → unallocated (xs ++ ys) ≡ unallocated xs ++ unallocated ys
unfolding unallocated
unallocated_append [] ys = refl
unallocated_append (u ∷ xs) ys = one_append u xs ys u.reg refl (unallocated_append xs ys)

module _ (w : ℕ) where
  one_missing : w / 1024 ≡ no_register → unallocated (operand_of w ∷ []) ≡ name_of_word w ∷ []
  unfolding operand_of register_of unallocated
  one_missing e = rw (eq-eqb _ _ e)

  none_missing : (w / 1024 ≡ no_register → ⊥) → unallocated (operand_of w ∷ []) ≡ []
  unfolding operand_of register_of unallocated
  none_missing e = rw (ne_eqb _ _ e)

-- an operand's line, where it has no allocation
module _ (p : Position) (w : ℕ) where
  pub line_missing : w / 1024 ≡ no_register → lines_text (names_at p (unallocated (operand_of w ∷ []))) ≡ fields_line p (missing_fields w)
  unfolding names_at names_lines entry_text
  line_missing e = rw (one_missing w e) (one_line _ ∙ sym (missing_text p w))

  pub no_line_missing : (w / 1024 ≡ no_register → ⊥) → lines_text (names_at p (unallocated (operand_of w ∷ []))) ≡ []
  unfolding names_at names_lines lines_text
  no_line_missing e = rw (none_missing w e)

-- the operands of words, counted
pub counted : (words : List ℕ) → length (filter (λ word. eqb (word / 1024) no_register) words) ≡ length (unallocated (map operand_of words))
unfolding operand_of register_of unallocated
counted [] = refl
counted (word ∷ words) = by_equal (word / 1024) no_register
    (λ e. rw (eq-eqb _ _ e) (ap suc (counted words)))
    (λ d. rw (ne_eqb _ _ d) (counted words))

-- a loop's turn over them, which writes their lines
module _ (words : List ℕ) (i : ℕ) (h : i < length words) where
  missing_more : unallocated (map operand_of (take (i + 1) words))
      ≡ unallocated (map operand_of (take i words)) ++ unallocated (operand_of (get_or words i 0) ∷ [])
  missing_more =
      rw (take_more words i 0 h, map-append)
      (unallocated_append (map operand_of (take i words)) (operand_of (get_or words i 0) ∷ []))

  pub wrote_more : {l l₁ l₂ : List ℕ} {at j k : ℕ} (p : Position)
      → Wrote l at (lines_text (names_at p (unallocated (map operand_of (take i words))))) l₁ j
      → Wrote l₁ j (lines_text (names_at p (unallocated (operand_of (get_or words i 0) ∷ [])))) l₂ k
      → Wrote l at (lines_text (names_at p (unallocated (map operand_of (take (i + 1) words))))) l₂ k
  unfolding names_at names_lines
  wrote_more p before one = rw (missing_more, map-append, map-append, lines_append) (then before one)

pub wrote_none : (l : List ℕ) (at : ℕ) (p : Position) → Wrote l at (lines_text (names_at p (unallocated []))) l at
unfolding names_at names_lines lines_text unallocated
wrote_none l at p = record { list = refl; next = omega arith }
