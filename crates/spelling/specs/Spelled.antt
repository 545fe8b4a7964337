-- A record has one line: fields that are read as a record are that record's own texts, and a record's texts, where its numbers have at
-- most five digits, are read as that record or not at all (a ninth successor).
use Rattle.std.specs.Prelude.{◌≡◌, Bool, true, false, cond, ℕ, suc, zero, eqb, leb, length}
use Rattle.std.proofs.Math.Path.{refl}
use Rattle.std.proofs.Common.{sym, ap, ap₂, ◌∙◌, subst, arith, eqb-true}
use mathlib.Core.List.{List, [], ◌∷◌, ◌++◌, map, append-nil}
use Rattle.std.proofs.Math.Option
use Rattle.std.proofs.Math.Option.{Option, none, some}
use Rattle.lists.specs.Split.{by_test}
use Rattle.paper.specs.Text.{Bytes, hyphen, number_of, digits, Name, name_of, name_text}
use Rattle.paper.specs.Sheet.{Operand, Step, spill, reload, move, safepoint}
use Rattle.paper.specs.Limits.{max_succs}
use Rattle.paper.specs.Refusals.{Record, block_record, step_record, Read, ◌>>=◌, next, ended, one_byte, numbers_of, function_of, typed_of, block_of, two_numbers_of, change_of, allocation_of, operands_of, counted_operands_of, operation_of, safepoint_of, by_letter, record_of}
use Rattle.paper.specs.Writing.{allocation_text, operand_texts, letter_of, texts_of, record_text}
use Rattle.fields.specs.Spelling.{digits_of_number, text_of_name}
use Rattle.spelling.specs.Parted.{closed_line}

-- taking apart what was read

nothing_read : {A Q : Type 0} {a : A} → ◌≡◌ {A = Option A} none (some a) → Q
nothing_read e = absurd (let z : ◌≡◌ {A = ℕ} 0 1 = cc in omega arith)

module _ {A B Q : Type 0} where
  taken : (o : Option A) (f : A → Option B) (b : B) → (o >>= f) ≡ some b → ((a : A) → o ≡ some a → f a ≡ some b → Q) → Q
  taken none f b e k = nothing_read e
  taken (some a) f b e k = k a refl e

  mapped : (f : A → B) (o : Option A) (b : B) → Option.map f o ≡ some b → ((a : A) → o ≡ some a → b ≡ f a → Q) → Q
  mapped f none b e k = nothing_read e
  mapped f (some a) b e k = k a refl cc

  -- the next field is the text of what was read
  taken_text : (read : Bytes → Option A) (text : A → Bytes) → ((t : Bytes) (a : A) → read t ≡ some a → t ≡ text a)
      → (fs : List Bytes) (f : Read A → Option B) (b : B) → (next read fs >>= f) ≡ some b
      → ((a : A) (rest : List Bytes) → fs ≡ text a ∷ rest → f (record { value = a; rest = rest }) ≡ some b → Q) → Q
  unfolding next
  taken_text read text spelled [] f b e k = nothing_read e
  taken_text read text spelled (t ∷ fs) f b e k = go (read t) refl e
    where
      go : (o : Option A) → read t ≡ o → (Option.map (λ a. record { value = a; rest = fs }) o >>= f) ≡ some b → Q
      go none p q = nothing_read q
      go (some a) p q = k a fs (ap (λ (x : Bytes). x ∷ fs) (spelled t a p)) q

all_read : {A Q : Type 0} (fs : List Bytes) (a b : A) → ended fs a ≡ some b → (fs ≡ [] → b ≡ a → Q) → Q
unfolding ended
all_read [] a b e k = k refl cc
all_read (f ∷ fs) a b e k = nothing_read e

one_byte_text : (f : Bytes) (b : ℕ) → eqb (one_byte f) (suc b) ≡ true → f ≡ suc b ∷ []
unfolding one_byte
one_byte_text [] b e = absurd (omega (arith, eqb-true 0 (suc b) e))
one_byte_text (x ∷ []) b e = ap (λ (t : ℕ). t ∷ []) (eqb-true x (suc b) e)
one_byte_text (x ∷ y ∷ f) b e = absurd (omega (arith, eqb-true 0 (suc b) e))

allocation_spelled : (t : Bytes) (a : Option ℕ) → allocation_of t ≡ some a → t ≡ allocation_text a
unfolding allocation_of allocation_text
allocation_spelled t a e = go (eqb (one_byte t) hyphen) refl e
  where
    go : (b : Bool) → eqb (one_byte t) hyphen ≡ b → cond b (some none) (Option.map some (number_of t)) ≡ some a → t ≡ allocation_text a
    go true h q = let n : none ≡ a = cc in one_byte_text t 44 h ∙ ap allocation_text n
    go false h q = mapped some (number_of t) a q λ v p m. digits_of_number t v p ∙ ap allocation_text (sym m)

module _ {B Q : Type 0} (fs : List Bytes) where
  next_number : (f : Read ℕ → Option B) (b : B) → (next number_of fs >>= f) ≡ some b
      → ((n : ℕ) (rest : List Bytes) → fs ≡ digits n ∷ rest → f (record { value = n; rest = rest }) ≡ some b → Q) → Q
  next_number f b e k = taken_text number_of digits digits_of_number fs f b e k

  next_name : (f : Read Name → Option B) (b : B) → (next name_of fs >>= f) ≡ some b
      → ((n : Name) (rest : List Bytes) → fs ≡ name_text n ∷ rest → f (record { value = n; rest = rest }) ≡ some b → Q) → Q
  next_name f b e k = taken_text name_of name_text text_of_name fs f b e k

  next_allocation : (f : Read (Option ℕ) → Option B) (b : B) → (next allocation_of fs >>= f) ≡ some b
      → ((r : Option ℕ) (rest : List Bytes) → fs ≡ allocation_text r ∷ rest → f (record { value = r; rest = rest }) ≡ some b → Q) → Q
  next_allocation f b e k = taken_text allocation_of allocation_text allocation_spelled fs f b e k

numbers_spelled : (fs : List Bytes) (ns : List ℕ) → numbers_of fs ≡ some ns → fs ≡ map digits ns
unfolding numbers_of
numbers_spelled [] ns e = let n : [] ≡ ns = cc in ap (map digits) n
numbers_spelled (f ∷ fs) ns e =
    taken (number_of f) (λ n. Option.map (λ ns. n ∷ ns) (numbers_of fs)) ns e λ n p q.
    mapped (λ ns. n ∷ ns) (numbers_of fs) ns q λ ms p' m.
    rw m (ap₂ (λ (x : Bytes) (xs : List Bytes). x ∷ xs) (digits_of_number f n p) (numbers_spelled fs ms p'))

-- a group of operands, and what is left behind it
record Group (n : ℕ) (fs : List Bytes) (x : Read (List Operand)) : Type 0 where
  count : length x.value ≡ n
  texts : fs ≡ operand_texts x.value ++ x.rest

operands_spelled : (n : ℕ) (fs : List Bytes) (x : Read (List Operand)) → operands_of n fs ≡ some x → Group n fs x
unfolding operands_of operand_texts
operands_spelled zero fs x e = let q : record { value = []; rest = fs } ≡ x = cc in subst (Group zero fs) q (record { count = refl; texts = refl })
operands_spelled (suc n) fs x e =
    next_name fs _ x e λ name rest p e₁.
    next_allocation rest _ x e₁ λ reg rest₁ p₁ e₂.
    taken (operands_of n rest₁) _ x e₂ λ more q e₃.
    let here : record { value = record { name = name; reg = reg } ∷ more.value; rest = more.rest } ≡ x = cc in
    let g = operands_spelled n rest₁ more q in
    subst (Group (suc n) fs) here (record { count = ap suc g.count; texts = rw (p, p₁, g.texts) })

counted_spelled : (fs : List Bytes) (x : Read (List Operand)) → counted_operands_of fs ≡ some x
    → fs ≡ digits (length x.value) ∷ (operand_texts x.value ++ x.rest)
unfolding counted_operands_of
counted_spelled fs x e =
    next_number fs _ x e λ n rest p q.
    let g = operands_spelled n rest x q in
    rw (p, g.count, ← g.texts)

-- the fields behind a letter say the record's line
record Line (letter : ℕ) (fs : List Bytes) (r : Record) : Type 0 where
  letter_is : letter_of r ≡ letter
  texts : fs ≡ texts_of r

line_is : {letter : ℕ} {fs : List Bytes} {r q : Record} → r ≡ q → letter_of q ≡ letter → fs ≡ texts_of q → Line letter fs r
line_is {letter} {fs} {r} {q} e l t = subst (Line letter fs) (sym e) (record { letter_is = l; texts = t })

function_spelled : (fs : List Bytes) (r : Record) → function_of fs ≡ some r → Line 70 fs r
unfolding function_of letter_of texts_of
function_spelled fs r e =
    next_number fs _ r e λ a fs₁ p₁ e₁.
    next_number fs₁ _ r e₁ λ b fs₂ p₂ e₂.
    next_number fs₂ _ r e₂ λ c fs₃ p₃ e₃.
    next_number fs₃ _ r e₃ λ d fs₄ p₄ e₄.
    next_number fs₄ _ r e₄ λ f fs₅ p₅ e₅.
    all_read fs₅ _ r e₅ λ p₆ q. line_is q refl (rw (p₁, p₂, p₃, p₄, p₅, p₆))

typed_spelled : (fs : List Bytes) (r : Record) → typed_of fs ≡ some r → Line 84 fs r
unfolding typed_of letter_of texts_of
typed_spelled fs r e = next_number fs _ r e λ n fs₁ p₁ e₁. all_read fs₁ _ r e₁ λ p₂ q. line_is q refl (rw (p₁, p₂))

block_spelled : (fs : List Bytes) (r : Record) → block_of fs ≡ some r → Line 66 fs r
unfolding block_of letter_of texts_of
block_spelled fs r e = taken (numbers_of fs) _ r e λ ns p q. go ns p (leb (length ns) max_succs) q
  where
    go : (ns : List ℕ) → numbers_of fs ≡ some ns → (b : Bool) → cond b (some (block_record ns)) none ≡ some r → Line 66 fs r
    go ns p true q = let here : r ≡ block_record ns = cc in line_is here refl (numbers_spelled fs ns p)
    go ns p false q = nothing_read q

pair_spelled : (letter : ℕ) (step : ℕ → ℕ → Step) → ((a b : ℕ) → letter_of (step_record (step a b)) ≡ letter)
    → ((a b : ℕ) → texts_of (step_record (step a b)) ≡ digits a ∷ digits b ∷ [])
    → (fs : List Bytes) (r : Record) → two_numbers_of step fs ≡ some r → Line letter fs r
unfolding two_numbers_of
pair_spelled letter step l t fs r e =
    next_number fs _ r e λ a fs₁ p₁ e₁.
    next_number fs₁ _ r e₁ λ b fs₂ p₂ e₂.
    all_read fs₂ _ r e₂ λ p₃ q. line_is q (l a b) (rw (p₁, p₂, p₃, t a b))

change_spelled : (fs : List Bytes) (r : Record) → change_of fs ≡ some r → Line 67 fs r
unfolding change_of letter_of texts_of
change_spelled fs r e =
    next_number fs _ r e λ inst fs₁ p₁ e₁.
    next_number fs₁ _ r e₁ λ slot fs₂ p₂ e₂.
    next_name fs₂ _ r e₂ λ from fs₃ p₃ e₃.
    next_name fs₃ _ r e₃ λ to fs₄ p₄ e₄.
    all_read fs₄ _ r e₄ λ p₅ q. line_is q refl (rw (p₁, p₂, p₃, p₄, p₅))

operation_spelled : (fs : List Bytes) (r : Record) → operation_of fs ≡ some r → Line 79 fs r
unfolding operation_of letter_of texts_of
operation_spelled fs r e =
    next_number fs _ r e λ inst fs₁ p₁ e₁.
    taken (counted_operands_of fs₁) _ r e₁ λ uses p₂ e₂.
    taken (counted_operands_of uses.rest) _ r e₂ λ defs p₃ e₃.
    all_read defs.rest _ r e₃ λ p₄ q.
    line_is q refl (rw (p₁, counted_spelled fs₁ uses p₂, counted_spelled uses.rest defs p₃, p₄, append-nil))

safepoint_spelled : (fs : List Bytes) (r : Record) → safepoint_of fs ≡ some r → Line 80 fs r
unfolding safepoint_of letter_of texts_of
safepoint_spelled fs r e =
    next_number fs _ r e λ inst fs₁ p₁ e₁.
    taken (numbers_of fs₁) _ r e₁ λ ns p₂ e₂.
    let here : r ≡ step_record (safepoint inst ns) = cc in
    line_is here refl (rw (p₁, numbers_spelled fs₁ ns p₂))

spelled_line : (f : Bytes) (fs : List Bytes) (b : ℕ) (r : Record) → f ≡ suc b ∷ [] → Line (suc b) fs r → closed_line (f ∷ fs) ≡ record_text r
unfolding closed_line record_text
spelled_line f fs b r e l = rw (e, l.texts, l.letter_is)

-- the whole line, by its letter
pub record_spelled : (fs : List Bytes) (r : Record) → record_of fs ≡ some r → closed_line fs ≡ record_text r
unfolding record_of by_letter letter_of texts_of
record_spelled [] r e = nothing_read e
record_spelled (f ∷ fs) r e =
    by_test (eqb (one_byte f) 70) (λ h. line 69 h (function_spelled fs r (rw h at e)))
    λ h₁. by_test (eqb (one_byte f) 84) (λ h. line 83 h (typed_spelled fs r (rw (h₁, h) at e)))
    λ h₂. by_test (eqb (one_byte f) 66) (λ h. line 65 h (block_spelled fs r (rw (h₁, h₂, h) at e)))
    λ h₃. by_test (eqb (one_byte f) 83) (λ h. line 82 h (pair_spelled 83 spill (λ a b. refl) (λ a b. refl) fs r (rw (h₁, h₂, h₃, h) at e)))
    λ h₄. by_test (eqb (one_byte f) 76) (λ h. line 75 h (pair_spelled 76 reload (λ a b. refl) (λ a b. refl) fs r (rw (h₁, h₂, h₃, h₄, h) at e)))
    λ h₅. by_test (eqb (one_byte f) 77) (λ h. line 76 h (pair_spelled 77 move (λ a b. refl) (λ a b. refl) fs r (rw (h₁, h₂, h₃, h₄, h₅, h) at e)))
    λ h₆. by_test (eqb (one_byte f) 67) (λ h. line 66 h (change_spelled fs r (rw (h₁, h₂, h₃, h₄, h₅, h₆, h) at e)))
    λ h₇. by_test (eqb (one_byte f) 79) (λ h. line 78 h (operation_spelled fs r (rw (h₁, h₂, h₃, h₄, h₅, h₆, h₇, h) at e)))
    λ h₈. by_test (eqb (one_byte f) 80) (λ h. line 79 h (safepoint_spelled fs r (rw (h₁, h₂, h₃, h₄, h₅, h₆, h₇, h₈, h) at e)))
    λ h₉. nothing_read (rw (h₁, h₂, h₃, h₄, h₅, h₆, h₇, h₈, h₉) at e)
  where
    line : (b : ℕ) → eqb (one_byte f) (suc b) ≡ true → Line (suc b) fs r → closed_line (f ∷ fs) ≡ record_text r
    line b h l = spelled_line f fs b r (one_byte_text f b h) l
