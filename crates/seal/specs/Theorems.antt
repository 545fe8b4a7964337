-- What a seal is worth. What is sealed is good, for every report; a text is good exactly when it is a sealed one; and a text whose bits differ
-- from the sealed one inside a run of at most 32, as where one byte is changed, is never good under the same seal.
use Rattle.std.specs.Prelude.{◌≡◌, refl, ◌↔◌, Bool, true, false, cond, List, [], ◌∷◌, ◌++◌, ℕ, zero, suc, ◌+◌, ◌-◌, ◌/◌, ◌%◌, ◌^◌, ◌<◌, eqb, leb, length, take, drop, get_or, set}
use Rattle.std.proofs.Common.{sym, ap, ap₂, ◌∙◌, subst, append_assoc, append-nil, pow-suc, div-one, arith, take-append-drop}
use Rattle.std.proofs.Math.Bool.{or-true}
use Rattle.std.proofs.Math.Nat.{div-div-eq-div-mul}
use borrow.Author.Tests.{lt-ltb, le-ltb, le-leb, lt-leb, eq-eqb, eqb-true}
use Rattle.std.proofs.Math.ListN.{length-append}
use Rattle.std.proofs.Math.Seq.{take_at, drop_at, get_or-append_seam, split_at}
use Rattle.std.proofs.lemmas.List.{set_split}
use Rattle.lists.specs.Split.{by_order, and_left, and_right}
use Rattle.paper.specs.Text.{Bytes, tab, line_feed, is_digit}
use Rattle.paper.specs.Limits.{seal_size}
use Rattle.paper.specs.Refusals.{empty}
use Rattle.paper.specs.Report.{Entry, fault_entry, unreached_entry, letter_E, letter_N, letter_R, behind_tabs, line_text, unreached_text, entry_text, lines_text, header_text, report_text}
use Rattle.paper.specs.Comparison.{same_text}
use Rattle.paper.specs.Seal.{crc_of, hex_digit, hex_digits, seal_line, sealed, is_hex, all_hex, seal_shaped, closed, before_seal, last_line, has_seal, seal_of}
use Rattle.paper.specs.declared.Rule.{Rule}
use Rattle.paper.specs.declared.Seal.{Seal}
use Rattle.paper.specs.declared.Seal.TheVariants.{Good, Wrong, None}
use Rattle.seal.specs.Burst.{bits, bits_of, bits_append, bits_same, crc_below, Burst, burst}

-- a text is the same as itself, and only as itself
same_self : (text : Bytes) → same_text text text ≡ true
unfolding same_text
same_self [] = refl
same_self (b ∷ bs) = rw (eq-eqb b b refl) (same_self bs)

same_only : (a b : Bytes) → same_text a b ≡ true → a ≡ b
unfolding same_text
same_only [] [] e = refl
same_only [] (y ∷ ys) e = let z : ◌≡◌ {A = ℕ} 0 1 = ap (λ (t : Bool). cond t 1 0) e in absurd (omega arith)
same_only (x ∷ xs) [] e = let z : ◌≡◌ {A = ℕ} 0 1 = ap (λ (t : Bool). cond t 1 0) e in absurd (omega arith)
same_only (x ∷ xs) (y ∷ ys) e =
    ap₂ (λ (b : ℕ) (bs : Bytes). b ∷ bs) (eqb-true x y (and_left (eqb x y) (same_text xs ys) e)) (same_only xs ys (and_right (eqb x y) (same_text xs ys) e))

-- the line's shape
digit_hex : (n : ℕ) → n < 16 → is_hex (hex_digit n) ≡ true
unfolding is_hex is_digit hex_digit
digit_hex n h =
    by_order n 10
    (λ low. rw (lt-ltb n 10 low, le-leb 48 (48 + n) (omega arith), le-leb (48 + n) 57 (omega arith)))
    (λ high. rw (
      le-ltb n 10 high,
      le-leb 48 (87 + n) (omega arith),
      lt-leb (87 + n) 57 (omega arith),
      le-leb 97 (87 + n) (omega arith),
      le-leb (87 + n) 102 (omega arith),
    ))

digits_hex : (k n : ℕ) → all_hex (hex_digits k n) ≡ true
unfolding all_hex hex_digits
digits_hex zero n = refl
digits_hex (suc k) n = rw (digit_hex (n / 16 ^ k % 16) (omega arith), digits_hex k n)

digits_length : (k n : ℕ) → length (hex_digits k n) ≡ k
unfolding hex_digits
digits_length zero n = refl
digits_length (suc k) n = ap suc (digits_length k n)

line_shaped : (word : ℕ) → seal_shaped (seal_line word) ≡ true
unfolding seal_shaped seal_line hex_digits
line_shaped word = rw (digits_hex 8 word)

pub line_length : (word : ℕ) → length (seal_line word) ≡ seal_size
unfolding seal_line hex_digits
line_length word = refl

-- a text and a seal's line behind it
module _ (text : Bytes) (word : ℕ) where
  place : length (text ++ seal_line word) - seal_size ≡ length text
  place = omega (arith, length-append text (seal_line word), line_length word)

  before_is : before_seal (text ++ seal_line word) ≡ text
  unfolding before_seal
  before_is = take_at text (seal_line word) _ (sym place)

  line_is : last_line (text ++ seal_line word) ≡ seal_line word
  unfolding last_line
  line_is = drop_at text (seal_line word) _ (sym place)

  has_line : closed text ≡ true → has_seal (text ++ seal_line word) ≡ true
  unfolding has_seal
  has_line k =
      let long = le-leb seal_size (length (text ++ seal_line word)) (omega (arith, length-append text (seal_line word), line_length word)) in
      rw (long, line_is, before_is, line_shaped word, k)

-- "the report as it is, then" its line: what is sealed is good
pub sealed_good : (text : Bytes) → closed text ≡ true → seal_of (sealed text) ≡ Good
unfolding sealed seal_of
sealed_good text k = let w = crc_of text in rw (has_line text w k, line_is text w, before_is text w, same_self (seal_line w))

-- and what is good is sealed
pub record Sealed (text : Bytes) : Type 0 where
  pub report : Bytes
  pub is_closed : closed report ≡ true
  pub is_sealed : text ≡ sealed report

joined : (text : Bytes) → text ≡ before_seal text ++ last_line text
unfolding before_seal last_line
joined text = sym (take-append-drop (length text - seal_size) text)

pub good_sealed : (text : Bytes) → seal_of text ≡ Good → Sealed text
unfolding seal_of has_seal sealed
good_sealed text e = at (has_seal text) refl (same_text (last_line text) (seal_line (crc_of (before_seal text)))) refl
  where
    answer : Bool → Bool → Seal
    answer has same = cond has (cond same Good Wrong) None

    told : (has same : Bool) → has_seal text ≡ has → same_text (last_line text) (seal_line (crc_of (before_seal text))) ≡ same → answer has same ≡ Good
    told has same h k = ap₂ answer (sym h) (sym k) ∙ e

    at : (has : Bool) → has_seal text ≡ has → (same : Bool) → same_text (last_line text) (seal_line (crc_of (before_seal text))) ≡ same → Sealed text
    at false h same k = let f = told false same h k in let z : ◌≡◌ {A = ℕ} 0 1 = cc in absurd (omega arith)
    at true h false k = let f = told true false h k in let z : ◌≡◌ {A = ℕ} 0 1 = cc in absurd (omega arith)
    at true h true k = record {
      report = before_seal text;
      is_closed = and_right (seal_shaped (last_line text)) (closed (before_seal text)) (and_right (leb seal_size (length text)) _ h);
      is_sealed = joined text ∙ ap (λ (line : Bytes). before_seal text ++ line) (same_only _ _ k);
    }

pub good_exactly : (text : Bytes) → (seal_of text ≡ Good) ↔ Sealed text
good_exactly text = (good_sealed text, λ s. ap seal_of s.is_sealed ∙ sealed_good s.report s.is_closed)

-- a word of 32 bits has one line
digit_same : (x y : ℕ) → x < 16 → y < 16 → hex_digit x ≡ hex_digit y → x ≡ y
unfolding hex_digit
digit_same x y hx hy e =
    by_order x 10
    (λ a. by_order y 10
    (λ b. let k : 48 + x ≡ 48 + y = rw (lt-ltb x 10 a, lt-ltb y 10 b) at e in omega arith)
    (λ b. let k : 48 + x ≡ 87 + y = rw (lt-ltb x 10 a, le-ltb y 10 b) at e in absurd (omega arith)))
    (λ a. by_order y 10
    (λ b. let k : 87 + x ≡ 48 + y = rw (le-ltb x 10 a, lt-ltb y 10 b) at e in absurd (omega arith))
    (λ b. let k : 87 + x ≡ 87 + y = rw (le-ltb x 10 a, le-ltb y 10 b) at e in omega arith))

digit_more : (k a b : ℕ) → a / 16 ^ suc k ≡ b / 16 ^ suc k → a / 16 ^ k % 16 ≡ b / 16 ^ k % 16 → a / 16 ^ k ≡ b / 16 ^ k
digit_more k a b high low =
    let ea : a / 16 ^ k / 16 ≡ a / 16 ^ suc k = div-div-eq-div-mul a (16 ^ k) 16 ∙ ap (λ (m : ℕ). a / m) (sym (pow-suc 16 k)) in
    let eb : b / 16 ^ k / 16 ≡ b / 16 ^ suc k = div-div-eq-div-mul b (16 ^ k) 16 ∙ ap (λ (m : ℕ). b / m) (sym (pow-suc 16 k)) in
    let h : a / 16 ^ k / 16 ≡ b / 16 ^ k / 16 = ea ∙ high ∙ sym eb in
    omega arith

digits_same : (k a b : ℕ) → a / 16 ^ k ≡ b / 16 ^ k → hex_digits k a ≡ hex_digits k b → a ≡ b
unfolding hex_digits
digits_same zero a b high e = sym (div-one a) ∙ high ∙ div-one b
digits_same (suc k) a b high e =
    let first : hex_digit (a / 16 ^ k % 16) ≡ hex_digit (b / 16 ^ k % 16) = cc in
    let rest : hex_digits k a ≡ hex_digits k b = cc in
    digits_same k a b (digit_more k a b high (digit_same (a / 16 ^ k % 16) (b / 16 ^ k % 16) (omega arith) (omega arith) first)) rest

line_same : (a b : ℕ) → a < 2 ^ 32 → b < 2 ^ 32 → seal_line a ≡ seal_line b → a ≡ b
unfolding seal_line
line_same a b ha hb e =
    let high : a / 16 ^ 8 ≡ b / 16 ^ 8 = omega arith in
    let text : hex_digits 8 a ++ (line_feed ∷ []) ≡ hex_digits 8 b ++ (line_feed ∷ []) = ap (drop 2) e in
    digits_same 8 a b high (sym (front a) ∙ ap (take 8) text ∙ front b)
  where
    front : (n : ℕ) → take 8 (hex_digits 8 n ++ (line_feed ∷ [])) ≡ hex_digits 8 n
    front n = take_at (hex_digits 8 n) (line_feed ∷ []) 8 (digits_length 8 n)

-- a text that is good under a line has the line's word
pub good_word : (text : Bytes) (word : ℕ) → word < 2 ^ 32 → seal_of (text ++ seal_line word) ≡ Good → crc_of text ≡ word
unfolding sealed
good_word text word h e =
    let s = good_sealed (text ++ seal_line word) e in
    let w = crc_of s.report in
    let whole : text ++ seal_line word ≡ s.report ++ seal_line w = s.is_sealed in
    let same : text ≡ s.report = sym (before_is text word) ∙ ap before_seal whole ∙ before_is s.report w in
    let line : seal_line word ≡ seal_line w = sym (line_is text word) ∙ ap last_line whole ∙ line_is s.report w in
    ap crc_of same ∙ sym (line_same word w h (crc_below s.report) line)

-- "never good under the same seal": where the bits of two texts differ inside one run of at most 32
pub burst_not_good : {damaged text : Bytes} (b : Burst damaged text) → (b.here ≡ b.there → ⊥) → seal_of (damaged ++ seal_line (crc_of text)) ≡ Good → ⊥
burst_not_good {damaged} {text} b differ e = differ (burst b (good_word damaged (crc_of text) (crc_below text) e))

-- one byte changed
changed_byte : (text : Bytes) (i b : ℕ) → i < length text → Burst (set text i b) text
unfolding bits_of bits
changed_byte text i b h = record {
  before = bits_of (take i text);
  here = bits 8 b;
  there = bits 8 (get_or text i 0);
  after = bits_of (drop (suc i) text);
  first_is = ap bits_of (set_split text i b h) ∙ bits_append (take i text) (b ∷ drop (suc i) text);
  second_is = ap bits_of (split_at text i 0 h) ∙ bits_append (take i text) (get_or text i 0 ∷ drop (suc i) text);
  same_length = refl;
  short = omega arith;
}

pub changed_not_good : (text : Bytes) (i b : ℕ) → i < length text → b < 256 → get_or text i 0 < 256 → (b ≡ get_or text i 0 → ⊥)
    → seal_of (set text i b ++ seal_line (crc_of text)) ≡ Good → ⊥
unfolding bits changed_byte
changed_not_good text i b h hb ht differ = burst_not_good (changed_byte text i b h) (λ e. differ (bits_same 8 b (get_or text i 0) hb ht e))

-- every report ends in LF, so that a line can begin behind it
record Ends (text : Bytes) : Type 0 where
  front : Bytes
  whole : text ≡ front ++ (line_feed ∷ [])

ends_behind : (start : Bytes) {text : Bytes} → Ends text → Ends (start ++ text)
ends_behind start e =
    record { front = start ++ e.front; whole = ap (λ (t : Bytes). start ++ t) e.whole ∙ sym (append_assoc start e.front (line_feed ∷ [])) }

fields_end : (fs : List Bytes) → Ends (behind_tabs fs)
unfolding behind_tabs
fields_end [] = record { front = []; whole = refl }
fields_end (f ∷ fs) = ends_behind (tab ∷ f) (fields_end fs)

entry_end : (e : Entry) → Ends (entry_text e)
unfolding entry_text line_text unreached_text
entry_end (fault_entry l) = ends_behind (letter_E ∷ []) (fields_end _)
entry_end (unreached_entry b) = ends_behind (letter_N ∷ []) (fields_end _)

lines_end : (es : List Entry) {text : Bytes} → Ends text → Ends (text ++ lines_text es)
unfolding lines_text
lines_end [] {text} e = subst Ends (sym (append-nil text)) e
lines_end (x ∷ es) {text} e = subst Ends (append_assoc text (entry_text x) (lines_text es)) (lines_end es (ends_behind text (entry_end x)))

ends_closed : {text : Bytes} → Ends text → closed text ≡ true
unfolding closed
ends_closed {text} e =
    let last : length text - 1 ≡ length e.front = omega (arith, ap length e.whole, length-append e.front (line_feed ∷ [])) in
    let there : get_or text (length e.front) 0 ≡ line_feed =
    ap (λ (t : Bytes). get_or t (length e.front) 0) e.whole ∙ get_or-append_seam e.front line_feed [] 0 in
    let byte : get_or text (length text - 1) 0 ≡ line_feed = rw last there in
    rw byte (or-true (empty text))

pub report_closed : (rule : Rule) (es : List Entry) → closed (report_text rule es) ≡ true
unfolding report_text header_text
report_closed rule es = ends_closed (lines_end es (ends_behind (letter_R ∷ []) (fields_end _)))

-- so what is sealed of a report is good
pub report_good : (rule : Rule) (es : List Entry) → seal_of (sealed (report_text rule es)) ≡ Good
report_good rule es = sealed_good (report_text rule es) (report_closed rule es)
