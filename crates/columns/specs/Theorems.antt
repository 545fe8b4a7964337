-- Document 02, A4, "the field .. that is the first to show the fault": the theorems on the field that a refusal names, over `paper`
-- alone. `fs` are the fields of the line that is refused.
use Rattle.std.proofs.Math.Path.{◌≡◌, sym, ap, subst}
use Rattle.std.specs.Prelude.{refl, Bool, not, ℕ, zero, suc, ◌+◌, ◌-◌, ◌≤◌, eqb, leb, ltb, get_or}
use Rattle.std.proofs.Common.{◌∙◌, true≢false, take_all, length-take-le}
use Rattle.std.proofs.Math.Bool.{true, false, cond}
use mathlib.Core.List.{List, [], ◌∷◌}
use Rattle.std.proofs.Math.Option.{Option, none, some}
use native.Mathlib.Omega.{arith}
use borrow.Author.Tests.{ne_eqb, eqb-true}
use Rattle.std.proofs.Math.ListN.{length, take}
use Rattle.lists.specs.Split.{by_test, by_order, by_equal}
use Rattle.paper.specs.Text.{Bytes, lines, fields, number_of, name_of}
use Rattle.paper.specs.Sheet.{Sheet, spill, reload, move}
use Rattle.paper.specs.Limits.{max_succs}
use Rattle.paper.specs.Refusals.{Record, block_record, Read, next, one_byte, numbers_of, typed_of, block_of, change_of, by_letter, record_of, step_beyond, beyond_limit, out_of_order, real_elsewhere, types_differ, onward, passing, within, name_within, change_passing, field_by_letter, field_shown, names_field, field_of, so_far_of, loaded, refused, Lined, good, bad, read_line, read_end, carry_on, read_lines, no_text, read}
use Rattle.paper.specs.declared.Refusal.{Refusal}
use Rattle.columns.specs.Bounds.{by_letter_most}
use Rattle.columns.specs.Agreeing.{letter_steady, same_first, not_begun}
use Rattle.columns.specs.Unbroken.{Clear, bound, done, mapped, chosen, function_passes, typed_passes, block_passes, pair_passes, change_passes, operation_passes, safepoint_passes}

-- "kinds 3 and 5 to 8": the field is other than 0 exactly for these
module _ (number : ℕ) (S : Sheet) where
  letter_least : (letter : ℕ) (fs : List Bytes) → 1 ≤ field_by_letter number S letter fs
  unfolding field_by_letter
  letter_least letter fs =
      one (eqb letter 70) _
      (one (eqb letter 84) _
      (one (eqb letter 66) _
      (one (eqb letter 83) _
      (one (eqb letter 76) _ (one (eqb letter 77) _ (one (eqb letter 67) _ (one (eqb letter 79) _ (one (eqb letter 80) _ (omega arith)))))))))
    where
      one : (b : Bool) (m : ℕ) {n : ℕ} → 1 ≤ n → 1 ≤ cond b (2 + m) n
      one true m h = omega arith
      one false m h = h

  shown_least : (fs : List Bytes) → 1 ≤ field_shown number S fs
  unfolding field_shown
  shown_least [] = omega arith
  shown_least (l ∷ fs) = letter_least (one_byte l) fs

  pub field_named : (fs : List Bytes) → names_field number ≡ not (eqb (field_of number S fs) 0)
  unfolding field_of
  field_named fs =
      by_test (names_field number)
      (λ t. rw (t, ne_eqb (field_shown number S fs) 0 (λ e. omega (arith, shown_least fs))))
      λ t. rw t

-- a letter's line

either : (b : Bool) {o p : Option Record} {q : Record} {m n k : ℕ} → cond b o p ≡ some q → (b ≡ true → o ≡ some q → m ≡ k) → (p ≡ some q → n ≡ k)
    → cond b m n ≡ k
either true e f g = f refl e
either false e f g = g e

-- a number whose test a letter's line takes as it stands: `T` and `B` have none of their own for 6, nor `C` for 8
record Asked (number letter : ℕ) : Type 0 where
  pub no_typed : number ≡ 6 → letter ≡ 84 → ⊥
  pub no_block : number ≡ 6 → letter ≡ 66 → ⊥
  pub no_change : number ≡ 8 → letter ≡ 67 → ⊥

two : {m n : ℕ} → m ≡ n → 2 + m ≡ 2 + n
two e = ap (λ (k : ℕ). 2 + k) e

module _ (number : ℕ) (S : Sheet) (letter : ℕ) (asked : Asked number letter) (fs : List Bytes) {q : Record} (c : Clear number S q) where
  letter_passes : by_letter letter fs ≡ some q → field_by_letter number S letter fs ≡ 2 + length fs
  unfolding by_letter field_by_letter step_beyond
  letter_passes e =
      either (eqb letter 70) e (λ t e. two (function_passes number S fs e c)) λ e.
      either (eqb letter 84) e (λ t e. two (typed_passes number S fs e c (λ six. asked.no_typed six (eqb-true _ _ t)))) λ e.
      either (eqb letter 66) e (λ t e. two (block_passes number S fs e c (λ six. asked.no_block six (eqb-true _ _ t)))) λ e.
      either (eqb letter 83) e (λ t e. two (pair_passes number S _ _ spill (λ a b. refl) fs e c)) λ e.
      either (eqb letter 76) e (λ t e. two (pair_passes number S _ _ reload (λ a b. refl) fs e c)) λ e.
      either (eqb letter 77) e (λ t e. two (pair_passes number S _ _ move (λ a b. refl) fs e c)) λ e.
      either (eqb letter 67) e (λ t e. two (change_passes number S fs e c (λ eight. asked.no_change eight (eqb-true _ _ t)))) λ e.
      either (eqb letter 79) e (λ t e. two (operation_passes number S fs e c)) λ e.
      either (eqb letter 80) e (λ t e. two (safepoint_passes number S fs e c)) λ e. absurd (let z : ◌≡◌ {A = ℕ} 0 1 = cc in omega arith)

-- a line of which every field passes agrees up to the field that is named only if it is the same line
module _ (number : ℕ) (S : Sheet) (letter : ℕ) (fs gs : List Bytes) where
  same_behind : field_by_letter number S letter gs ≡ 2 + length gs → take (field_by_letter number S letter fs - 1) gs
      ≡ take (field_by_letter number S letter fs - 1) fs → gs ≡ fs
  same_behind all agree =
      by_order (field_by_letter number S letter fs) (2 + length fs)
      (λ h.
      let e : field_by_letter number S letter gs ≡ field_by_letter number S letter fs = (letter_steady number S letter).steady fs gs h agree in
      let n : field_by_letter number S letter fs - 1 ≡ suc (length gs) = omega arith in
      let a : take (suc (length gs)) gs ≡ take (suc (length gs)) fs = rw n at agree in
      let l = ap length (sym (take_all (suc (length gs)) gs (omega arith)) ∙ a) ∙ length-take-le (suc (length gs)) fs (omega arith) in
      absurd (omega (arith, l)))
      λ h.
      let n : field_by_letter number S letter fs - 1 ≡ suc (length fs) = omega (arith, by_letter_most number S letter fs) in
      let a : take (suc (length fs)) gs ≡ fs = rw n at agree ∙ take_all (suc (length fs)) fs (omega arith) in
      by_order (length fs) (length gs)
      (λ k. let l = sym (length-take-le (suc (length fs)) gs (omega arith)) ∙ ap length a in absurd (omega (arith, l)))
      λ k. sym (take_all (suc (length fs)) gs (omega arith)) ∙ a

-- the letter off the front of two lines that agree
agree_behind : {l k : Bytes} (fs gs : List Bytes) (n : ℕ) → 1 ≤ n → take n (k ∷ gs) ≡ take n (l ∷ fs) → (k ≡ l) × (take (n - 1) gs ≡ take (n - 1) fs)
agree_behind {l} {k} fs gs zero h e = absurd (omega arith)
agree_behind {l} {k} fs gs (suc n) h e =
    let z : suc n - 1 ≡ n = omega arith in
    let s : (k ≡ l) × (take n gs ≡ take n fs) = same_first e in
    (s.0, rw z s.1)

-- a well-formed line that no condition of the number holds of, and that agrees up to the field, is the line itself
module _ (number : ℕ) (S : Sheet) (l : Bytes) (fs : List Bytes) where
  the_line : Asked number (one_byte l) → (gs : List Bytes) {q : Record} → record_of gs ≡ some q → Clear number S q
      → take (field_by_letter number S (one_byte l) fs) gs ≡ take (field_by_letter number S (one_byte l) fs) (l ∷ fs) → gs ≡ l ∷ fs
  unfolding record_of
  the_line asked [] e c agree = absurd (let z : ◌≡◌ {A = ℕ} 0 1 = cc in omega arith)
  the_line asked (k ∷ gs) {q} e c agree =
      let s = agree_behind fs gs (field_by_letter number S (one_byte l) fs) (letter_least number S (one_byte l) fs) agree in
      let e' : by_letter (one_byte l) gs ≡ some q = subst (λ (b : Bytes). by_letter (one_byte b) gs ≡ some q) s.0 e in
      let t = same_behind number S (one_byte l) fs gs (letter_passes number S (one_byte l) asked gs c e') s.1 in
      rw (s.0, t)

nothing_read : {Q : Type 0} {q : Record} → record_of [] ≡ some q → Q
unfolding record_of
nothing_read e = absurd (let z : ◌≡◌ {A = ℕ} 0 1 = cc in omega arith)

clear_3 : (S : Sheet) (q : Record) → Clear 3 S q
clear_3 S q = record { limit = λ e. absurd (omega arith); order = λ e. absurd (omega arith); home = λ e. absurd (omega arith) }

asked_by : (number letter : ℕ) → (number ≡ 6 → ⊥) → (number ≡ 8 → ⊥) → Asked number letter
asked_by number letter f g = record { no_typed = λ e. absurd (f e); no_block = λ e. absurd (f e); no_change = λ e. absurd (g e) }

-- 3: any line that agrees up to that field is ill formed too
pub form_agrees : (S : Sheet) (fs gs : List Bytes) → record_of fs ≡ none → take (field_of 3 S fs) gs ≡ take (field_of 3 S fs) fs → record_of gs ≡ none
unfolding field_of names_field field_shown
form_agrees S [] [] e agree = e
form_agrees S [] (k ∷ gs) e agree = not_begun (sym agree)
form_agrees S (l ∷ fs) gs e agree = go (record_of gs) refl
  where
    go : (o : Option Record) → record_of gs ≡ o → o ≡ none
    go none h = refl
    go (some q) h =
        let same = the_line 3 S l fs (asked_by 3 (one_byte l) (λ e. omega arith) (λ e. omega arith)) gs h (clear_3 S q) agree in
        absurd (let z : none ≡ some q = sym e ∙ sym (ap record_of same) ∙ h in let w : ◌≡◌ {A = ℕ} 0 1 = cc in omega arith)

-- the record of a line is one
one_record : (fs : List Bytes) {r q : Record} → record_of fs ≡ some r → record_of fs ≡ some q → r ≡ q
one_record fs e f = let z = sym e ∙ f in cc

-- lines whose last field shows it: `T` for 6, `C` for 8
whole_lines : (n : ℕ) (fs gs : List Bytes) → length fs ≤ n → length gs ≤ n → take n gs ≡ take n fs → gs ≡ fs
whole_lines n fs gs h k e = sym (take_all n gs k) ∙ e ∙ take_all n fs h

rest_length : {A : Type 0} (read : Bytes → Option A) (fs : List Bytes) {x : Read A} → next read fs ≡ some x → length fs ≡ suc (length x.rest)
unfolding next
rest_length read [] e = absurd (let z : ◌≡◌ {A = ℕ} 0 1 = cc in omega arith)
rest_length read (f ∷ fs) {x} e = mapped (read f) e λ a h q. ap (λ (y : Read _). suc (length y.rest)) (sym q)

typed_length : (fs : List Bytes) {r : Record} → typed_of fs ≡ some r → length fs ≡ 1
unfolding typed_of
typed_length fs e = bound (next number_of fs) _ e λ n a e. rest_length number_of fs a ∙ ap (λ (l : List Bytes). suc (length l)) (done n.rest e).0

change_length : (fs : List Bytes) {r : Record} → change_of fs ≡ some r → length fs ≡ 4
unfolding change_of
change_length fs e =
    bound (next number_of fs) _ e λ inst a e.
    bound (next number_of inst.rest) _ e λ slot b e.
    bound (next name_of slot.rest) _ e λ from c e.
    bound (next name_of from.rest) _ e λ to d e.
    let z = ap length (done to.rest e).0 in
    omega (arith, rest_length number_of fs a, rest_length number_of inst.rest b, rest_length name_of slot.rest c, rest_length name_of from.rest d, z)

counts : {A : Type 0} (read : Bytes → Option A) (test : A → Bool) (fs : List Bytes) (more : A → List Bytes → ℕ) {x : Read A} {n : ℕ} → next read fs ≡ some x
    → test x.value ≡ true → n ≤ more x.value x.rest → suc n ≤ passing read test fs more
unfolding passing onward
counts read test fs more e t h = rw (e, t) (omega arith)

change_eighth : (S : Sheet) (fs : List Bytes) {r : Record} → change_of fs ≡ some r → 3 ≤ change_passing 8 S fs
unfolding change_of change_passing within name_within
change_eighth S fs e =
    bound (next number_of fs) _ e λ inst a e.
    bound (next number_of inst.rest) _ e λ slot b e.
    bound (next name_of slot.rest) _ e λ from c e.
    counts number_of _ fs _ a refl (counts number_of _ inst.rest _ b refl (counts name_of _ slot.rest _ c refl (omega arith)))

-- at a known letter
module _ (S : Sheet) (l : Bytes) (fs : List Bytes) where
  typed_same : (gs : List Bytes) {r q : Record} → one_byte l ≡ 84 → record_of (l ∷ fs) ≡ some r → record_of gs ≡ some q
      → take (field_by_letter 6 S (one_byte l) fs) gs ≡ take (field_by_letter 6 S (one_byte l) fs) (l ∷ fs) → gs ≡ l ∷ fs
  unfolding record_of by_letter field_by_letter
  typed_same [] t e f agree = absurd (let z : ◌≡◌ {A = ℕ} 0 1 = cc in omega arith)
  typed_same (k ∷ gs) {r} {q} t e f agree =
      let s = agree_behind fs gs (field_by_letter 6 S (one_byte l) fs) (letter_least 6 S (one_byte l) fs) agree in
      let a : length fs ≡ 1 = typed_length fs (rw t at e) in
      let b : length gs ≡ 1 = typed_length gs (rw (s.0, t) at f) in
      let n : 2 ≤ field_by_letter 6 S (one_byte l) fs = rw t (omega arith) in
      rw (s.0, whole_lines (field_by_letter 6 S (one_byte l) fs - 1) fs gs (omega arith) (omega arith) s.1)

  change_same : (gs : List Bytes) {r q : Record} → one_byte l ≡ 67 → record_of (l ∷ fs) ≡ some r → record_of gs ≡ some q
      → take (field_by_letter 8 S (one_byte l) fs) gs ≡ take (field_by_letter 8 S (one_byte l) fs) (l ∷ fs) → gs ≡ l ∷ fs
  unfolding record_of by_letter field_by_letter
  change_same [] t e f agree = absurd (let z : ◌≡◌ {A = ℕ} 0 1 = cc in omega arith)
  change_same (k ∷ gs) {r} {q} t e f agree =
      let s = agree_behind fs gs (field_by_letter 8 S (one_byte l) fs) (letter_least 8 S (one_byte l) fs) agree in
      let a : length fs ≡ 4 = change_length fs (rw t at e) in
      let b : length gs ≡ 4 = change_length gs (rw (s.0, t) at f) in
      let n : 5 ≤ field_by_letter 8 S (one_byte l) fs = rw t (let k = change_eighth S fs (rw t at e) in omega arith) in
      rw (s.0, whole_lines (field_by_letter 8 S (one_byte l) fs - 1) fs gs (omega arith) (omega arith) s.1)

  block_order : {r : Record} → one_byte l ≡ 66 → record_of (l ∷ fs) ≡ some r → out_of_order S r ≡ false
  unfolding record_of by_letter block_of out_of_order
  block_order {r} t e =
      bound (numbers_of fs) _ (rw t at e) λ succs a e.
      chosen {a = block_record succs} (leb (length succs) max_succs) e λ few q. sym (ap (out_of_order S) q)

-- 5 to 8: of any well-formed line that agrees up to that field the same condition holds
module _ (S : Sheet) (fs gs : List Bytes) {r q : Record} (e : record_of fs ≡ some r) (f : record_of gs ≡ some q) where
  pub limit_agrees : beyond_limit S r ≡ true → take (field_of 5 S fs) gs ≡ take (field_of 5 S fs) fs → beyond_limit S q ≡ true
  unfolding field_of names_field field_shown
  limit_agrees h agree = go fs e agree
    where
      go : (fs : List Bytes) → record_of fs ≡ some r → take (field_shown 5 S fs) gs ≡ take (field_shown 5 S fs) fs → beyond_limit S q ≡ true
      go [] e agree = nothing_read e
      go (l ∷ fs) e agree =
          by_test (beyond_limit S q) (λ t. t) λ t.
          let c : Clear 5 S q = record { limit = λ x. t; order = λ x. absurd (omega arith); home = λ x. absurd (omega arith) } in
          let same = the_line 5 S l fs (asked_by 5 (one_byte l) (λ e. omega arith) (λ e. omega arith)) gs f c agree in
          absurd (true≢false (sym h ∙ ap (beyond_limit S) (one_record (l ∷ fs) e (sym (ap record_of same) ∙ f)) ∙ t))

  pub home_agrees : real_elsewhere r ≡ true → take (field_of 7 S fs) gs ≡ take (field_of 7 S fs) fs → real_elsewhere q ≡ true
  unfolding field_of names_field field_shown
  home_agrees h agree = go fs e agree
    where
      go : (fs : List Bytes) → record_of fs ≡ some r → take (field_shown 7 S fs) gs ≡ take (field_shown 7 S fs) fs → real_elsewhere q ≡ true
      go [] e agree = nothing_read e
      go (l ∷ fs) e agree =
          by_test (real_elsewhere q) (λ t. t) λ t.
          let c : Clear 7 S q = record { limit = λ x. absurd (omega arith); order = λ x. absurd (omega arith); home = λ x. t } in
          let same = the_line 7 S l fs (asked_by 7 (one_byte l) (λ e. omega arith) (λ e. omega arith)) gs f c agree in
          absurd (true≢false (sym h ∙ ap real_elsewhere (one_record (l ∷ fs) e (sym (ap record_of same) ∙ f)) ∙ t))

  pub order_agrees : out_of_order S r ≡ true → take (field_of 6 S fs) gs ≡ take (field_of 6 S fs) fs → out_of_order S q ≡ true
  unfolding field_of names_field field_shown record_of
  order_agrees h agree = go fs e agree
    where
      at : (l : Bytes) (fs : List Bytes) → record_of (l ∷ fs) ≡ some r → gs ≡ l ∷ fs → out_of_order S q ≡ true
      at l fs e same = sym (ap (out_of_order S) (one_record (l ∷ fs) e (sym (ap record_of same) ∙ f))) ∙ h

      go : (fs : List Bytes) → record_of fs ≡ some r → take (field_shown 6 S fs) gs ≡ take (field_shown 6 S fs) fs → out_of_order S q ≡ true
      go [] e agree = nothing_read e
      go (l ∷ fs) e agree =
          by_equal (one_byte l) 84 (λ t. at l fs e (typed_same S l fs gs t e f agree)) λ t.
          by_equal (one_byte l) 66 (λ b. absurd (true≢false (sym h ∙ block_order S l fs b e))) λ b.
          by_test (out_of_order S q) (λ x. x) λ x.
          let c : Clear 6 S q = record { limit = λ y. absurd (omega arith); order = λ y. x; home = λ y. absurd (omega arith) } in
          at l fs e (the_line 6 S l fs (record { no_typed = λ y. t; no_block = λ y. b; no_change = λ y. absurd (omega arith) }) gs f c agree)

  pub types_agree : types_differ S r ≡ true → take (field_of 8 S fs) gs ≡ take (field_of 8 S fs) fs → types_differ S q ≡ true
  unfolding field_of names_field field_shown record_of
  types_agree h agree = go fs e agree
    where
      at : (l : Bytes) (fs : List Bytes) → record_of (l ∷ fs) ≡ some r → gs ≡ l ∷ fs → types_differ S q ≡ true
      at l fs e same = sym (ap (types_differ S) (one_record (l ∷ fs) e (sym (ap record_of same) ∙ f))) ∙ h

      go : (fs : List Bytes) → record_of fs ≡ some r → take (field_shown 8 S fs) gs ≡ take (field_shown 8 S fs) fs → types_differ S q ≡ true
      go [] e agree = nothing_read e
      go (l ∷ fs) e agree =
          by_equal (one_byte l) 67 (λ t. at l fs e (change_same S l fs gs t e f agree)) λ t.
          let c : Clear 8 S q = record { limit = λ y. absurd (omega arith); order = λ y. absurd (omega arith); home = λ y. absurd (omega arith) } in
          at l fs e (the_line 8 S l fs (record { no_typed = λ y. absurd (omega arith); no_block = λ y. absurd (omega arith); no_change = λ y. t }) gs f c agree)

-- a sheet that is refused: where the number names a field, it is that of the bad line, beside the sheet before it
pub record LineRefused (ls : List Bytes) (first : ℕ) (refusal : Refusal) : Type 0 where
  pub so_far : Option Sheet
  pub later : first ≤ refusal.line
  pub refused_by : read_line so_far (get_or ls (refusal.line - first) []) ≡ bad refusal.number
  pub field_is : refusal.field ≡ field_of refusal.number (so_far_of so_far) (fields (get_or ls (refusal.line - first) []))

pub record Located (ls : List Bytes) (first : ℕ) (refusal : Refusal) : Type 0 where
  pub named : names_field refusal.number ≡ not (eqb refusal.field 0)
  pub line_refused : names_field refusal.number ≡ true → LineRefused ls first refusal

located_as : {ls : List Bytes} {first : ℕ} {r refusal : Refusal} → Located ls first r → refused r ≡ refused refusal → Located ls first refusal
located_as {ls} {first} {r} {refusal} l e = let z : r ≡ refusal = cc in subst (Located ls first) z l

not_refused : {Q : Type 0} {refusal : Refusal} {S : Sheet} → loaded S ≡ refused refusal → Q
not_refused e = let z : ◌≡◌ {A = ℕ} 0 1 = cc in absurd (omega arith)

-- 2 and 4 name no field
pub unlocated : (ls : List Bytes) (first number line : ℕ) → names_field number ≡ false → Located ls first (record { number = number; line = line; field = 0 })
unlocated ls first number line e = record { named = e; line_refused = λ t. absurd (true≢false (sym t ∙ e)) }

lines_located : (ls : List Bytes) (first : ℕ) (so_far : Option Sheet) (refusal : Refusal) → read_lines first so_far ls ≡ refused refusal
    → Located ls first refusal
unfolding read_lines read_end carry_on names_field
lines_located [] first none refusal e = located_as (unlocated [] first 4 first refl) e
lines_located [] first (some S) refusal e = go (ltb (length S.body) S.blocks) e
  where
    go : (b : Bool) → cond b (refused (record { number = 4; line = first; field = 0 })) (loaded S) ≡ refused refusal → Located [] first refusal
    go true f = located_as (unlocated [] first 4 first refl) f
    go false f = not_refused f
lines_located (l ∷ ls) first so_far refusal e = at (read_line so_far l) refl e (λ R. lines_located ls (suc first) (some R) refusal)
  where
    behind : Located ls (suc first) refusal → Located (l ∷ ls) first refusal
    behind b = record {
      named = b.named;
      line_refused = λ t.
          let r = b.line_refused t in
          let z : refusal.line - first ≡ suc (refusal.line - suc first) = omega (arith, r.later) in
          record { so_far = r.so_far; later = omega (arith, r.later); refused_by = rw z r.refused_by; field_is = rw z r.field_is };
    }

    at : (o : Lined) → read_line so_far l ≡ o
        → carry_on first (λ number. field_of number (so_far_of so_far) (fields l)) o (λ R. read_lines (suc first) (some R) ls) ≡ refused refusal
        → ((R : Sheet) → read_lines (suc first) (some R) ls ≡ refused refusal → Located ls (suc first) refusal) → Located (l ∷ ls) first refusal
    at (good R) h f more = behind (more R f)
    at (bad k) h f more =
        let z : first - first ≡ 0 = omega arith in
        located_as
        (record {
          named = field_named k (so_far_of so_far) (fields l);
          line_refused = λ t. record { so_far = so_far; later = omega arith; refused_by = rw z h; field_is = rw z refl };
        })
        f

pub read_located : (sheet : Bytes) (refusal : Refusal) → read sheet ≡ refused refusal → Located (lines sheet) 1 refusal
unfolding read names_field
read_located sheet refusal e = go (no_text sheet) e
  where
    go : (b : Bool) → cond b (refused (record { number = 2; line = 0; field = 0 })) (read_lines 1 none (lines sheet)) ≡ refused refusal
        → Located (lines sheet) 1 refusal
    go true f = located_as (unlocated (lines sheet) 1 2 0 refl) f
    go false f = lines_located (lines sheet) 1 none refusal f
