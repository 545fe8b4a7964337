-- `sheet::read_line` meets its contract: one case for each letter, whose fields its reader reads as the paper does
-- (`read_by_letter`), and one for any other first field, refusal 3 (`no_letter`).
use mathlib.Core.Path.{◌≡◌, refl, sym, ◌∙◌}
use native.Mathlib.Omega.{arith}
use Rattle.paper.specs.Refusals.{one_byte, by_letter, record_of}
use Rattle.records.specs.Letters.{behind_letter}
use Rattle.sheet.proofs.LawsLetters.{read_by_letter, no_letter, other_letter}
use Prim.Native.Nat.{ℕ, ◌+◌, ◌<◌}
use mathlib.Core.List.{List}
use lib.ListN.{length}
use Rattle.paper.specs.Text.{fields}
use Rattle.fields.specs.Fields.{line_at, field_at, fields_behind}
use Rattle.records.specs.Records.{Behind}
use Rattle.loaded.specs.Actions.{copy_step}
use Rattle.sheet.specs.Reading.{SheetText, LineRead, Progress}
use Rattle.std.specs.declared.result.Result.{Result}
use Rattle.records.specs.declared.Breach.{Breach}
use Rattle.sheet.proofs.read_line.Goals as goal

-- what each letter's reader asks
ready : {s words : List ℕ} {at x : ℕ} → SheetText s → at < length s → Progress words → x ≡ one_byte (field_at s at)
    → (letter : ℕ) → x ≡ letter → (letter ≡ 0 → ⊥) → Behind s (at + 1) × Progress words
ready t h p e letter is some = (behind_letter _ _ h (λ z. some (sym is ∙ (e ∙ z))) t.last t.size, p)

-- what it gives is what the line gives
lined : {s : List ℕ} {at x : ℕ} → SheetText s → at < length s → x ≡ one_byte (field_at s at) → (letter : ℕ) → x ≡ letter → (letter ≡ 0 → ⊥)
    → {l l' : List ℕ} {r : Result ℕ Breach} → LineRead (by_letter letter (fields_behind s (at + 1))) s (at + 1) l l' r
    → LineRead (record_of (fields (line_at s at))) s at l l' r
lined t h e letter is some line = read_by_letter _ _ t h letter (sym e ∙ is) some _ refl line

pub read_function-requires : goal.read_function-requires
read_function-requires c = ready c.requires.0 c.requires.1 c.requires.2 c.letter.ensures 70 c.in-70.is λ z. omega arith

pub read_typed-requires : goal.read_typed-requires
read_typed-requires c = ready c.requires.0 c.requires.1 c.requires.2 c.letter.ensures 84 c.in-84.is λ z. omega arith

pub read_block-requires : goal.read_block-requires
read_block-requires c = ready c.requires.0 c.requires.1 c.requires.2 c.letter.ensures 66 c.in-66.is λ z. omega arith

pub read_copy-requires : goal.read_copy-requires
read_copy-requires c = ready c.requires.0 c.requires.1 c.requires.2 c.letter.ensures 83 c.in-83.is λ z. omega arith

pub read_copy-requires-in-76 : goal.read_copy-requires-in-76
read_copy-requires-in-76 c = ready c.requires.0 c.requires.1 c.requires.2 c.letter.ensures 76 c.in-76.is λ z. omega arith

pub read_copy-requires-in-77 : goal.read_copy-requires-in-77
read_copy-requires-in-77 c = ready c.requires.0 c.requires.1 c.requires.2 c.letter.ensures 77 c.in-77.is λ z. omega arith

pub read_change-requires : goal.read_change-requires
read_change-requires c = ready c.requires.0 c.requires.1 c.requires.2 c.letter.ensures 67 c.in-67.is λ z. omega arith

pub read_operation-requires : goal.read_operation-requires
read_operation-requires c = ready c.requires.0 c.requires.1 c.requires.2 c.letter.ensures 79 c.in-79.is λ z. omega arith

pub read_safepoint-requires : goal.read_safepoint-requires
read_safepoint-requires c = ready c.requires.0 c.requires.1 c.requires.2 c.letter.ensures 80 c.in-80.is λ z. omega arith

pub shape_of-words-in-70 : goal.shape_of-words-in-70
shape_of-words-in-70 c = c.read_function.ensures.same_length

pub returns-in-70 : goal.returns-in-70
unfolding by_letter
returns-in-70 c =
    lined c.requires.0 c.requires.1 c.letter.ensures 70 c.in-70.is (λ z. omega arith) c.read_function.ensures

pub shape_of-words-in-84 : goal.shape_of-words-in-84
shape_of-words-in-84 c = c.read_typed.ensures.same_length

pub returns-in-84 : goal.returns-in-84
unfolding by_letter
returns-in-84 c =
    lined c.requires.0 c.requires.1 c.letter.ensures 84 c.in-84.is (λ z. omega arith) c.read_typed.ensures

pub shape_of-words-in-66 : goal.shape_of-words-in-66
shape_of-words-in-66 c = c.read_block.ensures.same_length

pub returns-in-66 : goal.returns-in-66
unfolding by_letter
returns-in-66 c =
    lined c.requires.0 c.requires.1 c.letter.ensures 66 c.in-66.is (λ z. omega arith) c.read_block.ensures

pub shape_of-words-in-83 : goal.shape_of-words-in-83
shape_of-words-in-83 c = c.read_copy.ensures.same_length

pub returns-in-83 : goal.returns-in-83
unfolding by_letter copy_step
returns-in-83 c =
    lined c.requires.0 c.requires.1 c.letter.ensures 83 c.in-83.is (λ z. omega arith) c.read_copy.ensures

pub shape_of-words-in-76 : goal.shape_of-words-in-76
shape_of-words-in-76 c = c.read_copy-in-76.ensures.same_length

pub returns-in-76 : goal.returns-in-76
unfolding by_letter copy_step
returns-in-76 c =
    lined c.requires.0 c.requires.1 c.letter.ensures 76 c.in-76.is (λ z. omega arith) c.read_copy-in-76.ensures

pub shape_of-words-in-77 : goal.shape_of-words-in-77
shape_of-words-in-77 c = c.read_copy-in-77.ensures.same_length

pub returns-in-77 : goal.returns-in-77
unfolding by_letter copy_step
returns-in-77 c =
    lined c.requires.0 c.requires.1 c.letter.ensures 77 c.in-77.is (λ z. omega arith) c.read_copy-in-77.ensures

pub shape_of-words-in-67 : goal.shape_of-words-in-67
shape_of-words-in-67 c = c.read_change.ensures.same_length

pub returns-in-67 : goal.returns-in-67
unfolding by_letter
returns-in-67 c =
    lined c.requires.0 c.requires.1 c.letter.ensures 67 c.in-67.is (λ z. omega arith) c.read_change.ensures

pub shape_of-words-in-79 : goal.shape_of-words-in-79
shape_of-words-in-79 c = c.read_operation.ensures.same_length

pub returns-in-79 : goal.returns-in-79
unfolding by_letter
returns-in-79 c =
    lined c.requires.0 c.requires.1 c.letter.ensures 79 c.in-79.is (λ z. omega arith) c.read_operation.ensures

pub shape_of-words-in-80 : goal.shape_of-words-in-80
shape_of-words-in-80 c = c.read_safepoint.ensures.same_length

pub returns-in-80 : goal.returns-in-80
unfolding by_letter
returns-in-80 c =
    lined c.requires.0 c.requires.1 c.letter.ensures 80 c.in-80.is (λ z. omega arith) c.read_safepoint.ensures

pub returns-in_default : goal.returns-in_default
returns-in_default c =
    let n = c.in_default.in_default-own.rest in
    let n3 = n.0.0.0 in
    let n6 = n3.0.0.0 in
    no_letter _ _ c.requires.0 c.requires.1 _ (sym c.letter.ensures)
    (other_letter _ _ n6.0.0.1 n6.0.1 n6.1 n3.0.0.1 n3.0.1 n3.1 n.0.0.1 n.0.1 n.1)
    _
