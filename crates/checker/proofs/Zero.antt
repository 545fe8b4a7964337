-- The text of an accepted sheet under the house rule begins with `R house 0` and LF, and no other answer's text does: a faulty sheet's
-- count is not 0, and a number has one spelling.
use mathlib.Core.Path.{◌≡◌, refl, sym, ap, ◌∙◌}
use mathlib.Core.Bool.{Bool, true, false}
use mathlib.Core.List.{List, [], ◌∷◌, ◌++◌}
use mathlib.Core.Option.{some}
use Prim.Native.Nat.{ℕ}
use native.Mathlib.Omega.{arith}
use lib.ListN.{length, take}
use Rattle.lists.specs.Split.{and_left, and_right}
use Rattle.paper.specs.Text.{Bytes, line_feed, is_digit, all_digits, leading_zero, is_number, value_from, number_of, digit_from, digits}
use Rattle.paper.specs.Sheet.{Sheet}
use Rattle.paper.specs.Refusals.{Reading, loaded, refused, read}
use Rattle.paper.specs.Report.{Line, Entry, entries, faults_in, behind_tabs, lines_text, rule_text, header_text, report_text}
use Rattle.paper.specs.Answer.{accepted, said_by, said_of, said_after, answer, written, Lent, too_short}
use Rattle.paper.specs.declared.Rule.TheVariants.{House}
use Rattle.fields.specs.Spelling.{number, digit_range, number_of_digits}
use Rattle.walks.specs.Choices.{some_inj}
use Rattle.walks.specs.Small.{Small}
use Rattle.walks.proofs.Theorems.{read_reported}
use Rattle.checker.specs.Checked.{TextOutcome, text_outcome, Stated}
use Rattle.checker.proofs.Texts.{text_left_by}

-- `R house 0` and LF
unfoldable pub house_zero : Bytes
house_zero = 82 ∷ 9 ∷ 104 ∷ 111 ∷ 117 ∷ 115 ∷ 101 ∷ 9 ∷ 48 ∷ 10 ∷ []

-- a text that begins so
abbrev pub BeginsZero : Bytes → Type 0
BeginsZero text = take 10 text ≡ house_zero

-- lines without a fault
pub zero_begins : (es : List Entry) → faults_in es ≡ [] → BeginsZero (report_text House es)
unfolding report_text header_text rule_text behind_tabs digits digit_from house_zero
zero_begins es e = rw e refl

-- what stands behind `R house` and a tab, up to the line's end, is 0
count_zero : (ds rest : Bytes) → all_digits ds ≡ true → take 2 ((ds ++ (line_feed ∷ [])) ++ rest) ≡ 48 ∷ 10 ∷ [] → ds ≡ 48 ∷ []
unfolding all_digits
count_zero [] rest a e = let z : ◌≡◌ {A = ℕ} 10 48 = cc in absurd (omega arith)
count_zero (d ∷ []) rest a e = let z : d ≡ 48 = cc in ap (λ (b : ℕ). b ∷ []) z
count_zero (d ∷ c ∷ ds) rest a e =
    let z : c ≡ 10 = cc in
    let r = digit_range c (and_left _ _ (and_right (is_digit d) (all_digits (c ∷ ds)) a)) in
    absurd (omega (arith, z, r))

number_zero : number_of (48 ∷ []) ≡ some 0
unfolding number_of is_number all_digits is_digit leading_zero value_from
number_zero = refl

begins_count : (es : List Entry) → Small (length (faults_in es)) → BeginsZero (report_text House es) → length (faults_in es) ≡ 0
unfolding report_text header_text rule_text behind_tabs house_zero
begins_count es few e =
    let n : ℕ = length (faults_in es) in
    let two : take 2 ((digits n ++ (line_feed ∷ [])) ++ lines_text es) ≡ 48 ∷ 10 ∷ [] = cc in
    let z : digits n ≡ 48 ∷ [] = count_zero (digits n) (lines_text es) (number (number_of_digits n few)).all two in
    some_inj (number_of_digits n few) (ap number_of z ∙ number_zero)

pub zero_said : (sheet : Bytes) → BeginsZero (written (answer House sheet)) → (text : Bytes) × (answer House sheet ≡ accepted text)
unfolding answer said_after said_of said_by written house_zero
zero_said sheet e = at (read sheet) refl e
  where
    lines : (S : Sheet) → read sheet ≡ loaded S → (ls : List Line) → faults_in (entries House S) ≡ ls
        → BeginsZero (written (said_by ls (report_text House (entries House S))))
        → (text : Bytes) × (said_by ls (report_text House (entries House S)) ≡ accepted text)
    lines S h [] q f = (report_text House (entries House S), refl)
    lines S h (l ∷ ls) q f =
        let z : length (faults_in (entries House S)) ≡ 0 = begins_count (entries House S) (read_reported House sheet S h).count f in
        absurd (omega (arith, z, ap length q))

    at : (o : Reading) → read sheet ≡ o → BeginsZero (written (said_after House o)) → (text : Bytes) × (said_after House (read sheet) ≡ accepted text)
    at (loaded S) h f = let s = lines S h (faults_in (entries House S)) refl f in (s.0, ap (said_after House) h ∙ s.1)
    at (refused refusal) h f = let z : ◌≡◌ {A = ℕ} 88 82 = cc in absurd (omega arith)

-- a call leaves it only where the buffers were long enough
pub zero_left : {size : ℕ} {text : Bytes} {before after : Lent} {n : ℕ} → Stated size text before after n
    → BeginsZero (take n after.report) → BeginsZero text
unfolding text_outcome house_zero
zero_left {size} {text} {before} {after} {n} c e = at (too_short size before) refl
  where
    at : (b : Bool) → too_short size before ≡ b → BeginsZero text
    at true s =
        let o : text_outcome size text before ≡ record { text_length = 0; buffers = before } = rw s in
        let k : n ≡ 0 = ap (λ (o : TextOutcome). o.text_length) (c.whole ∙ o) in
        let z : take 10 (take 0 after.report) ≡ house_zero = rw k at e in
        absurd (omega (arith, ap length z))
    at false s = ap (take 10) (sym (text_left_by c s)) ∙ e
