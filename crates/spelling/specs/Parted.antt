-- A text and its lines, a line and its fields: put together again they are what was parted, and what was put together is parted so.
use Rattle.std.specs.Prelude.{◌≡◌, refl, true, false, not, List, [], ◌∷◌, ◌++◌, ℕ, suc, ◌-◌, ◌<◌, eqb, length, get_or}
use Rattle.std.proofs.Common.{sym, ap, ◌∙◌, true≢false, append_assoc, arith, eqb-true, length-append}
use Rattle.lists.specs.Split.{by_test, and_right}
use Rattle.paper.specs.Text.{Bytes, tab, line_feed, onto_first, parts, lines, fields}
use Rattle.paper.specs.Report.{behind_tabs}
use Rattle.fields.specs.Fields.{ends_field}
use Rattle.fields.specs.Told.{unbroken}

-- a line of these fields, with its line feed
unfoldable pub closed_line : List Bytes → Bytes
closed_line [] = []
closed_line (f ∷ fs) = f ++ behind_tabs fs

-- a text of these lines
unfoldable pub closed_lines : List Bytes → Bytes
closed_lines [] = []
closed_lines (l ∷ ls) = (l ++ (line_feed ∷ [])) ++ closed_lines ls

-- put together again

some_byte : (bs : Bytes) {Q : Type 0} → [] ≡ bs ++ (line_feed ∷ []) → Q
some_byte bs e = let n : length (bs ++ (line_feed ∷ [])) ≡ 0 = sym (ap length e) in absurd (omega (arith, length-append bs (line_feed ∷ [])))

pub joined_fields : (line : Bytes) → closed_line (fields line) ≡ line ++ (line_feed ∷ [])
unfolding closed_line behind_tabs fields parts onto_first
joined_fields [] = refl
joined_fields (b ∷ bs) =
    by_test (eqb b tab)
    (λ e. rw (e, eqb-true b tab e) (behind (fields bs) (joined_fields bs)))
    λ e. rw e (onto (fields bs) (joined_fields bs))
  where
    behind : (fs : List Bytes) → closed_line fs ≡ bs ++ (line_feed ∷ []) → behind_tabs fs ≡ tab ∷ (bs ++ (line_feed ∷ []))
    behind [] h = some_byte bs h
    behind (f ∷ fs) h = ap (λ (t : Bytes). tab ∷ t) h

    onto : (fs : List Bytes) → closed_line fs ≡ bs ++ (line_feed ∷ []) → closed_line (onto_first b fs) ≡ b ∷ (bs ++ (line_feed ∷ []))
    onto [] h = some_byte bs h
    onto (f ∷ fs) h = ap (λ (t : Bytes). b ∷ t) h

pub joined_lines : (text : Bytes) → 0 < length text → get_or text (length text - 1) 0 ≡ line_feed → closed_lines (lines text) ≡ text
unfolding closed_lines lines parts onto_first
joined_lines [] h e = absurd (omega arith)
joined_lines (b ∷ []) h e = rw e
joined_lines (b ∷ c ∷ bs) h e =
    let one_less : suc (suc (length bs)) - 1 ≡ suc (suc (length bs) - 1) = omega arith in
    let more : closed_lines (lines (c ∷ bs)) ≡ c ∷ bs = joined_lines (c ∷ bs) (omega arith) (rw one_less at e) in
    by_test (eqb b line_feed)
    (λ q. rw (q, eqb-true b line_feed q) (ap (λ (t : Bytes). line_feed ∷ t) more))
    λ q. rw q (onto (lines (c ∷ bs)) more)
  where
    onto : (ls : List Bytes) → closed_lines ls ≡ c ∷ bs → closed_lines (onto_first b ls) ≡ b ∷ c ∷ bs
    onto [] p = let z : ◌≡◌ {A = ℕ} 0 (suc (length bs)) = ap length p in absurd (omega arith)
    onto (l ∷ ls) p = ap (λ (t : Bytes). b ∷ t) p

-- parted as it was put together

-- the fields behind a letter, each behind a tab
unfoldable pub row : List Bytes → Bytes
row [] = []
row (f ∷ fs) = tab ∷ (f ++ row fs)

pub row_closed : (fs : List Bytes) → behind_tabs fs ≡ row fs ++ (line_feed ∷ [])
unfolding behind_tabs row
row_closed [] = refl
row_closed (f ∷ fs) = ap (λ (t : Bytes). tab ∷ t) (ap (λ (t : Bytes). f ++ t) (row_closed fs) ∙ sym (append_assoc f (row fs) (line_feed ∷ [])))

unfoldable pub Plain : List Bytes → Type 0
Plain [] = Unit {0}
Plain (f ∷ fs) = (unbroken f ≡ true) × Plain fs

no_tab : (b : ℕ) (bs : Bytes) → unbroken (b ∷ bs) ≡ true → eqb b tab ≡ false
unfolding unbroken ends_field
no_tab b bs e = by_test (eqb b tab) (λ y. absurd (true≢false (sym e ∙ rw y))) λ y. y

no_feed : (b : ℕ) (bs : Bytes) → unbroken (b ∷ bs) ≡ true → eqb b line_feed ≡ false
unfolding unbroken ends_field
no_feed b bs e =
    by_test (eqb b line_feed)
    (λ y. absurd (by_test (eqb b tab) (λ x. true≢false (sym e ∙ rw x)) λ x. true≢false (sym e ∙ rw (x, y))))
    λ y. y

tail_plain : (b : ℕ) (bs : Bytes) → unbroken (b ∷ bs) ≡ true → unbroken bs ≡ true
unfolding unbroken
tail_plain b bs e = and_right (not (ends_field b)) (unbroken bs) e

field_onto : (f rest : Bytes) (gs : List Bytes) → unbroken f ≡ true → fields rest ≡ [] ∷ gs → fields (f ++ rest) ≡ f ∷ gs
unfolding fields parts onto_first
field_onto [] rest gs e q = q
field_onto (b ∷ bs) rest gs e q = rw (no_tab b bs e, field_onto bs rest gs (tail_plain b bs e) q)

row_behind : (fs : List Bytes) → Plain fs → fields (row fs) ≡ [] ∷ fs
unfolding fields parts row Plain
row_behind [] p = refl
row_behind (g ∷ gs) p = ap (λ (t : List Bytes). [] ∷ t) (field_onto g (row gs) gs p.0 (row_behind gs p.1))

pub row_fields : (f : Bytes) (fs : List Bytes) → unbroken f ≡ true → Plain fs → fields (f ++ row fs) ≡ f ∷ fs
row_fields f fs e p = field_onto f (row fs) fs e (row_behind fs p)

-- a text without a line feed before the rest
line_onto : (f rest l : Bytes) (ls : List Bytes) → unbroken f ≡ true → lines rest ≡ l ∷ ls → lines (f ++ rest) ≡ (f ++ l) ∷ ls
unfolding lines parts onto_first
line_onto [] rest l ls e q = q
line_onto (b ∷ bs) rest l ls e q = rw (no_feed b bs e, line_onto bs rest l ls (tail_plain b bs e) q)

row_line : (fs : List Bytes) (rest : Bytes) → Plain fs → lines (row fs ++ (line_feed ∷ rest)) ≡ row fs ∷ lines rest
unfolding row Plain lines parts onto_first
row_line [] rest p = refl
row_line (g ∷ gs) rest p =
    rw (append_assoc g (row gs) (line_feed ∷ rest), line_onto g (row gs ++ (line_feed ∷ rest)) (row gs) (lines rest) p.0 (row_line gs rest p.1))

pub first_line : (f : Bytes) (fs : List Bytes) (rest : Bytes) → unbroken f ≡ true → Plain fs
    → lines ((f ++ behind_tabs fs) ++ rest) ≡ (f ++ row fs) ∷ lines rest
first_line f fs rest e p =
    rw (row_closed fs, append_assoc f (row fs ++ (line_feed ∷ [])) rest, append_assoc (row fs) (line_feed ∷ []) rest)
    (line_onto f (row fs ++ (line_feed ∷ rest)) (row fs) (lines rest) e (row_line fs rest p))
