-- The records of a sheet, one after another: a record more at the end of the sheet so far is a record more at the end of its text, and all
-- records of a sheet, added one by one, give that sheet.
use Rattle.std.specs.Prelude.{◌≡◌, refl, true, false, ℕ}
use Rattle.std.proofs.Common.{sym, ◌∙◌, true≢false}
use Rattle.std.proofs.Math.Path.{ap}
use mathlib.Core.List.{List, [], ◌∷◌, ◌++◌, map, append-nil, append_assoc}
use Rattle.std.proofs.Math.Option.{Option, none, some}
use Rattle.std.proofs.lemmas.Bool.{not-false}
use Rattle.paper.specs.Sheet.{Step, Block, Sheet}
use Rattle.paper.specs.Refusals.{Record, function_record, typed_record, block_record, step_record, empty, out_of_place, so_far_of, add_step, add_record}
use Rattle.paper.specs.Writing.{record_text, records_text, block_records, records_of}
use Rattle.loaded.specs.Blocks.{add_step_last}

map_append : {A B : Type 0} (f : A → B) (xs ys : List A) → map f (xs ++ ys) ≡ map f xs ++ map f ys
map_append f [] ys = refl
map_append f (x ∷ xs) ys = ap (λ (t : List _). f x ∷ t) (map_append f xs ys)

one_behind : {A B : Type 0} (f : A → B) (xs : List A) (x : A) → map f (xs ++ (x ∷ [])) ++ [] ≡ (map f xs ++ []) ++ (f x ∷ [])
one_behind f xs x = append-nil (map f (xs ++ (x ∷ []))) ∙ map_append f xs (x ∷ []) ∙ ap (λ (t : List _). t ++ (f x ∷ [])) (sym (append-nil (map f xs)))

pub text_append : (rs qs : List Record) → records_text (rs ++ qs) ≡ records_text rs ++ records_text qs
unfolding records_text
text_append [] qs = refl
text_append (r ∷ rs) qs = rw (text_append rs qs) (sym (append_assoc (record_text r) (records_text rs) (records_text qs)))

blocks_append : (Bs Cs : List Block) → block_records (Bs ++ Cs) ≡ block_records Bs ++ block_records Cs
unfolding block_records
blocks_append [] Cs = refl
blocks_append (B ∷ Bs) Cs =
    ap (λ (t : List Record). block_record B.succs ∷ t)
    (rw (blocks_append Bs Cs) (sym (append_assoc (map step_record B.steps) (block_records Bs) (block_records Cs))))

-- one record more

-- the records of the sheet so far
unfoldable pub so_far_records : Option Sheet → List Record
so_far_records none = []
so_far_records (some S) = records_of S

is_empty : {A : Type 0} (l : List A) → empty l ≡ true → l ≡ []
unfolding empty
is_empty [] e = refl
is_empty (x ∷ l) e = absurd (true≢false (sym e))

step_more : (x : Step) (Bs : List Block) → empty Bs ≡ false → block_records (add_step x Bs) ≡ block_records Bs ++ (step_record x ∷ [])
unfolding block_records add_step empty
step_more x [] e = absurd (true≢false e)
step_more x (B ∷ []) e =
    ap (λ (t : List Record). block_record B.succs ∷ t) (one_behind step_record B.steps x)
step_more x (B ∷ C ∷ Bs) e =
    ap (λ (t : List Record). block_record B.succs ∷ t)
    (ap (λ (t : List Record). map step_record B.steps ++ t) (step_more x (C ∷ Bs) refl)
    ∙ sym (append_assoc (map step_record B.steps) (block_records (C ∷ Bs)) (step_record x ∷ [])))

pub record_more : (so_far : Option Sheet) (r : Record) → out_of_place so_far r ≡ false
    → records_of (add_record (so_far_of so_far) r) ≡ so_far_records so_far ++ (r ∷ [])
unfolding so_far_records records_of block_records add_record out_of_place
record_more none (function_record a b c d e) h = refl
record_more none (typed_record n) h = absurd (true≢false h)
record_more none (block_record succs) h = absurd (true≢false h)
record_more none (step_record x) h = absurd (true≢false h)
record_more (some S) (function_record a b c d e) h = absurd (true≢false h)
record_more (some S) (typed_record n) h =
    let none_open : S.body ≡ [] = is_empty S.body (not-false (empty S.body) h) in
    ap (λ (t : List Record). function_record S.regs S.slots S.vregs S.blocks S.entry ∷ t)
    (rw none_open (one_behind typed_record S.typed n))
record_more (some S) (block_record succs) h =
    ap (λ (t : List Record). function_record S.regs S.slots S.vregs S.blocks S.entry ∷ t)
    (rw (blocks_append S.body (record { succs = succs; steps = [] } ∷ []))
    (sym (append_assoc (map typed_record S.typed) (block_records S.body) (block_record succs ∷ []))))
record_more (some S) (step_record x) h =
    ap (λ (t : List Record). function_record S.regs S.slots S.vregs S.blocks S.entry ∷ t)
    (rw (step_more x S.body h) (sym (append_assoc (map typed_record S.typed) (block_records S.body) (step_record x ∷ []))))

-- all records

unfoldable pub added : Option Sheet → List Record → Option Sheet
added so_far [] = so_far
added so_far (r ∷ rs) = added (some (add_record (so_far_of so_far) r)) rs

-- the sheet with more names and blocks
abbrev with : Sheet → List ℕ → List Block → Sheet
with S typed body = record { regs = S.regs; slots = S.slots; vregs = S.vregs; blocks = S.blocks; entry = S.entry; typed = typed; body = body }

module _ (S : Sheet) where
  typed_added : (typed ns : List ℕ) (rs : List Record) → added (some (with S typed [])) (map typed_record ns ++ rs) ≡ added (some (with S (typed ++ ns) [])) rs
  unfolding added add_record
  typed_added typed [] rs = ap (λ (t : List ℕ). added (some (with S t [])) rs) (sym (append-nil typed))
  typed_added typed (n ∷ ns) rs =
      typed_added (typed ++ (n ∷ [])) ns rs ∙ ap (λ (t : List ℕ). added (some (with S t [])) rs) (append_assoc typed (n ∷ []) ns)

  module _ (typed : List ℕ) where
    steps_added : (body : List Block) (succs : List ℕ) (steps xs : List Step) (rs : List Record)
        → added (some (with S typed (body ++ (record { succs = succs; steps = steps } ∷ [])))) (map step_record xs ++ rs)
        ≡ added (some (with S typed (body ++ (record { succs = succs; steps = steps ++ xs } ∷ [])))) rs
    unfolding added add_record
    steps_added body succs steps [] rs =
        ap (λ (t : List Step). added (some (with S typed (body ++ (record { succs = succs; steps = t } ∷ [])))) rs) (sym (append-nil steps))
    steps_added body succs steps (x ∷ xs) rs =
        ap (λ (t : List Block). added (some (with S typed t)) (map step_record xs ++ rs)) (add_step_last x body (record { succs = succs; steps = steps }))
        ∙ steps_added body succs (steps ++ (x ∷ [])) xs rs
        ∙ ap (λ (t : List Step). added (some (with S typed (body ++ (record { succs = succs; steps = t } ∷ [])))) rs) (append_assoc steps (x ∷ []) xs)

    blocks_added : (body Bs : List Block) → added (some (with S typed body)) (block_records Bs) ≡ some (with S typed (body ++ Bs))
    unfolding added add_record block_records
    blocks_added body [] = ap (λ (t : List Block). some (with S typed t)) (sym (append-nil body))
    blocks_added body (B ∷ Bs) =
        steps_added body B.succs [] B.steps (block_records Bs)
        ∙ blocks_added (body ++ (B ∷ [])) Bs
        ∙ ap (λ (t : List Block). some (with S typed t)) (append_assoc body (B ∷ []) Bs)

pub all_added : (S : Sheet) → added none (records_of S) ≡ some S
unfolding added add_record records_of
all_added S = typed_added S [] S.typed (block_records S.body) ∙ blocks_added S S.typed [] S.body
