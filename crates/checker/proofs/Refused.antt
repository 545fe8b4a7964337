-- A refusal that reading gives has a number from 2 to 9, a line that is at most one behind the last: each line is at least one byte
-- of the sheet; and a field that is at most one behind its line's last.
use mathlib.Core.Path.{◌≡◌, refl, subst}
use mathlib.Core.Bool.{Bool, true, false, cond, ◌||◌}
use mathlib.Core.List.{List, [], ◌∷◌}
use mathlib.Core.Option.{Option, none, some}
use Prim.Native.Nat.{ℕ, suc, ◌+◌, ◌≤◌}
use native.Mathlib.Omega.{arith}
use lib.Dec.{eqb, ltb}
use lib.ListN.{length}
use borrow.Author.Tests.{ltb-false}
use Rattle.paper.specs.Text.{Bytes, line_feed, fields, onto_first, parts, lines}
use Rattle.paper.specs.Sheet.{Sheet}
use Rattle.paper.specs.Limits.{max_sheet}
use Rattle.paper.specs.Refusals.{Record, record_of, empty, so_far_of, Condition, first_holding, conditions, field_of, loaded, refused, Lined, good, bad, judged, read_record, read_line, read_end, carry_on, read_lines, no_text, read}
use Rattle.paper.specs.declared.Refusal.{Refusal}
use Rattle.columns.specs.Bounds.{field_most, fields_most}

-- the numbers that a refusal can have, its line and its field, where reading goes on from `line` with n lines of so many bytes
pub record Bounded (line n bytes : ℕ) (refusal : Refusal) : Type 0 where
  pub least : 2 ≤ refusal.number
  pub most : refusal.number ≤ 9
  pub inside : refusal.line ≤ line + n
  pub shown : refusal.field ≤ bytes + 2

apart : {Q : Type 0} {refusal : Refusal} {S : Sheet} → loaded S ≡ refused refusal → Q
apart e = let z : ◌≡◌ {A = ℕ} 0 1 = cc in absurd (omega arith)

-- there are at most as many lines as bytes
onto_length : (b : ℕ) (ps : List Bytes) → length (onto_first b ps) ≤ suc (length ps)
unfolding onto_first
onto_length b [] = omega arith
onto_length b (p ∷ ps) = omega arith

lines_length : (text : Bytes) → length (lines text) ≤ length text
unfolding lines parts
lines_length [] = omega arith
lines_length (b ∷ bs) = go (eqb b line_feed) (lines_length bs)
  where
    go : (t : Bool) → length (parts line_feed [] bs) ≤ length bs
        → length (cond t ([] ∷ parts line_feed [] bs) (onto_first b (parts line_feed [] bs))) ≤ suc (length bs)
    go true h = omega arith
    go false h = omega (arith, onto_length b (parts line_feed [] bs))

-- and no more bytes in them
bytes_in : List Bytes → ℕ
bytes_in [] = 0
bytes_in (l ∷ ls) = length l + bytes_in ls

onto_bytes : (b : ℕ) (ps : List Bytes) → bytes_in (onto_first b ps) ≤ suc (bytes_in ps)
unfolding onto_first bytes_in
onto_bytes b [] = omega arith
onto_bytes b (p ∷ ps) = omega arith

lines_bytes : (text : Bytes) → bytes_in (lines text) ≤ length text
unfolding lines parts bytes_in
lines_bytes [] = omega arith
lines_bytes (b ∷ bs) = go (eqb b line_feed) (lines_bytes bs)
  where
    go : (t : Bool) → bytes_in (parts line_feed [] bs) ≤ length bs
        → bytes_in (cond t ([] ∷ parts line_feed [] bs) (onto_first b (parts line_feed [] bs))) ≤ suc (length bs)
    go true h = omega arith
    go false h = omega (arith, onto_bytes b (parts line_feed [] bs))

-- the conditions on a line are numbered from 4 to 9
first_step : (number : ℕ) (holds : Bool) (cs : List Condition) (n : ℕ) → 2 ≤ number → number ≤ 9
    → (first_holding cs ≡ some n → (2 ≤ n) × (n ≤ 9)) → first_holding (record { number = number; holds = holds } ∷ cs) ≡ some n → (2 ≤ n) × (n ≤ 9)
unfolding first_holding
first_step number true cs n l m rest e = let z : number ≡ n = cc in (omega arith, omega arith)
first_step number false cs n l m rest e = rest e

none_holding : (n : ℕ) → first_holding [] ≡ some n → (2 ≤ n) × (n ≤ 9)
unfolding first_holding
none_holding n e = let z : ◌≡◌ {A = ℕ} 0 1 = cc in absurd (omega arith)

numbered : (so_far : Option Sheet) (r : Record) (n : ℕ) → first_holding (conditions so_far r) ≡ some n → (2 ≤ n) × (n ≤ 9)
unfolding conditions
numbered so_far r n =
    first_step 4 _ _ n (omega arith) (omega arith)
    (first_step 5 _ _ n (omega arith) (omega arith)
    (first_step 6 _ _ n (omega arith) (omega arith)
    (first_step 7 _ _ n (omega arith) (omega arith) (first_step 8 _ _ n (omega arith) (omega arith) (first_step 9 _ _ n (omega arith) (omega arith) (none_holding n))))))

line_numbered : (so_far : Option Sheet) (line : Bytes) (n : ℕ) → read_line so_far line ≡ bad n → (2 ≤ n) × (n ≤ 9)
unfolding read_line read_record judged
line_numbered so_far line n e = at (record_of (fields line)) e
  where
    met : (r : Record) (o : Option ℕ) → first_holding (conditions so_far r) ≡ o → judged so_far r o ≡ bad n → (2 ≤ n) × (n ≤ 9)
    met r none h f = let z : ◌≡◌ {A = ℕ} 0 1 = cc in absurd (omega arith)
    met r (some k) h f = let z : k ≡ n = cc in numbered so_far r n (rw z at h)

    at : (o : Option Record) → read_record so_far o ≡ bad n → (2 ≤ n) × (n ≤ 9)
    at none f = let z : 3 ≡ n = cc in (omega arith, omega arith)
    at (some r) f = met r (first_holding (conditions so_far r)) refl f

bounded_as : {line n bytes : ℕ} {r refusal : Refusal} → Bounded line n bytes r → refused r ≡ refused refusal → Bounded line n bytes refusal
bounded_as {line} {n} {bytes} {r} {refusal} b e = let z : r ≡ refusal = cc in subst (Bounded line n bytes) z b

lines_bounded : (ls : List Bytes) (line : ℕ) (so_far : Option Sheet) (r : Refusal) → read_lines line so_far ls ≡ refused r
    → Bounded line (length ls) (bytes_in ls) r
unfolding read_lines read_end carry_on bytes_in
lines_bounded [] line none r e = bounded_as (record { least = omega arith; most = omega arith; inside = omega arith; shown = omega arith }) e
lines_bounded [] line (some S) r e = go (ltb (length S.body) S.blocks) e
  where
    go : (b : Bool) → cond b (refused (record { number = 4; line = line; field = 0 })) (loaded S) ≡ refused r → Bounded line 0 0 r
    go true f = bounded_as (record { least = omega arith; most = omega arith; inside = omega arith; shown = omega arith }) f
    go false f = apart f
lines_bounded (x ∷ ls) line so_far r e = at (read_line so_far x) refl e (λ R. lines_bounded ls (suc line) (some R) r)
  where
    at : (o : Lined) → read_line so_far x ≡ o
        → carry_on line (λ number. field_of number (so_far_of so_far) (fields x)) o (λ R. read_lines (suc line) (some R) ls) ≡ refused r
        → ((R : Sheet) → read_lines (suc line) (some R) ls ≡ refused r → Bounded (suc line) (length ls) (bytes_in ls) r)
        → Bounded line (suc (length ls)) (length x + bytes_in ls) r
    at (good R) h f rec =
        let b = rec R f in
        record { least = b.least; most = b.most; inside = omega (arith, b.inside); shown = omega (arith, b.shown) }
    at (bad k) h f rec =
        let q = line_numbered so_far x k h in
        bounded_as
        (record { least = q.0; most = q.1; inside = omega arith; shown = omega (arith, field_most k (so_far_of so_far) (fields x), fields_most x) })
        f

pub read_bounded : (sheet : Bytes) (r : Refusal) → read sheet ≡ refused r → Bounded 1 max_sheet max_sheet r
unfolding read no_text
read_bounded sheet r e = go (empty sheet) (ltb max_sheet (length sheet)) refl _ e
  where
    open_line : length sheet ≤ max_sheet → read_lines 1 none (lines sheet) ≡ refused r → Bounded 1 max_sheet max_sheet r
    open_line h f =
        let b = lines_bounded (lines sheet) 1 none r f in
        record {
          least = b.least;
          most = b.most;
          inside = omega (arith, b.inside, lines_length sheet);
          shown = omega (arith, b.shown, lines_bytes sheet);
        }

    two : refused (record { number = 2; line = 0; field = 0 }) ≡ refused r → Bounded 1 max_sheet max_sheet r
    two f = bounded_as (record { least = omega arith; most = omega arith; inside = omega arith; shown = omega arith }) f

    go : (a b : Bool) → ltb max_sheet (length sheet) ≡ b → (c : Bool) → cond (a || (b || c)) (refused (record { number = 2; line = 0; field = 0 })) (read_lines 1 none (lines sheet)) ≡ refused r
        → Bounded 1 max_sheet max_sheet r
    go true b h c f = two f
    go false true h c f = two f
    go false false h true f = two f
    go false false h false f = open_line (ltb-false max_sheet (length sheet) h) f
