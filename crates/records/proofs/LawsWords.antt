-- Operands packed in words: what a word means, and the words of a group.
use mathlib.Core.Logic.{◌⊎◌, inl, inr}
use mathlib.Core.Path.{◌≡◌, refl, sym, ap, ap₂, ◌∙◌}
use mathlib.Core.Bool.{true, false, cond}
use mathlib.Core.List.{List, map}
use mathlib.Core.Option.{none, some}
use Prim.Native.Nat.{ℕ, ◌+◌, ◌-◌, ◌*◌, ◌/◌, ◌%◌, ◌≤◌, ◌<◌}
use native.Mathlib.Omega.{arith}
use borrow.Author.Tests.{lt-ltb, le-ltb, leb-false, ne_eqb}
use lib.Dec.{eqb}
use lib.ListN.{length, get_or, take, drop, length-take, length-drop, length-map}
use Rattle.std.proofs.lemmas.List.{length-take-le, get_or-map}
use lib.Seq.{ext_get_or, get_or-take, get_or-drop}
use Rattle.lists.specs.Over.{over, length_over, getD_over_in, getD_over_below}
use Rattle.lists.specs.Region.{region}
use Rattle.lists.specs.Split.{by_test, by_order, or_left, or_right}
use Rattle.paper.specs.Text.{real}
use Rattle.paper.specs.Sheet.{Operand, Sheet, reference_typed}
use Rattle.paper.specs.Refusals.{any, name_beyond, reg_beyond, operand_beyond}
use Rattle.loaded.specs.declared.Counts.{Counts}
use Rattle.records.specs.declared.OperandCodes.{OperandCodes}
use Rattle.records.specs.declared.Operands.{Operands}
use Rattle.cells.specs.Packed.{name_of_word, marked}
use Rattle.loaded.specs.Actions.{no_register, register_of, operand_of, operands}
use Rattle.records.specs.Records.{CountsWithin, TypedBy, name_of_code, register_of_code}
use Rattle.loaded.specs.Filling.{GroupWithin}
use Rattle.records.specs.Parts.{counted, operand_meant, no_codes, held, Roomy, name_word, register_word, mark_word, is_typed, word, Small}
use Rattle.records.proofs.LawsSearch.{any_each, any_list}
use Rattle.records.proofs.LawsGroups.{held_any}

pub mark_most : (typed : List ℕ) (n : ℕ) → mark_word typed n ≤ 512
unfolding mark_word
mark_most typed n = by_test (is_typed typed n) (λ e. rw e (omega arith)) λ e. rw e (omega arith)

-- the two marks
mark_cases : (typed : List ℕ) (n : ℕ) {P : Type 0} → (mark_word typed n ≡ 512 → is_typed typed n ≡ true → P) → (mark_word typed n ≡ 0 → is_typed typed n ≡ false → P) → P
unfolding mark_word
mark_cases typed n f g = by_test (is_typed typed n) (λ e. f (rw e) e) λ e. g (rw e) e

-- one word

pub name_word_means : (n : ℕ) → name_word n < 512 → (n < 100000 → n < 256) → name_of_word (name_word n) ≡ name_of_code n
unfolding name_of_word name_word name_of_code
name_word_means n h v =
    by_order n 100000
    (λ p.
    let q : n < 256 = v p in
    let e : n % 512 ≡ n = omega arith in
    rw (lt-ltb n 100000 p, e, lt-ltb n 256 q))
    λ p.
    let k = rw (le-ltb n 100000 p) at h in
    let e : (n - 100000 + 256) % 512 ≡ n - 100000 + 256 = omega arith in
    rw (le-ltb n 100000 p, e, le-ltb (n - 100000 + 256) 256 (omega arith)) (ap real (omega arith))

register_word_means : (r : ℕ) → (r < 100000 → r < 63) → cond (eqb (register_word r) 63) none (some (register_word r)) ≡ register_of_code r
unfolding register_word register_of_code
register_word_means r h =
    by_order r 100000
    (λ p. let q : r < 63 = h p in rw (lt-ltb r 100000 p, ne_eqb r 63 (λ e. omega arith)))
    λ p. rw (le-ltb r 100000 p)

module _ (typed : List ℕ) (c : OperandCodes) (small : Small c) where
  low : word typed c % 512 ≡ name_word c.name
  unfolding word
  low = mark_cases typed c.name (λ m e. rw m (omega (arith, small.name_small))) λ m e. rw m (omega (arith, small.name_small))

  word_register : word typed c / 1024 ≡ register_word c.register
  unfolding word
  word_register = mark_cases typed c.name (λ m e. rw m (omega (arith, small.name_small))) λ m e. rw m (omega (arith, small.name_small))

  word_mark : marked (word typed c) ≡ is_typed typed c.name
  unfolding word marked
  word_mark =
      mark_cases typed c.name
      (λ m e.
      let k : (register_word c.register * 1024 + 512 + name_word c.name) / 512 % 2 ≡ 1 = omega (arith, small.name_small) in
      rw (m, e, k))
      λ m e.
      let k : (register_word c.register * 1024 + 0 + name_word c.name) / 512 % 2 ≡ 0 = omega (arith, small.name_small) in
      rw (m, e, k)

  word_name : name_of_word (word typed c) ≡ name_of_code c.name
  unfolding name_of_word
  word_name =
      let e : name_word c.name % 512 ≡ name_word c.name = omega (arith, small.name_small) in
      rw low (rw e at (name_word_means c.name small.name_small small.virtual_small))

  word_means : (c.register < 100000 → c.register < 63) → operand_of (word typed c) ≡ operand_meant c
  unfolding operand_of register_of
  word_means h = ap₂ (λ a b. record { name = a; reg = b }) word_name (rw word_register (register_word_means c.register h))

-- the words of a group

-- codes within the counts, which are within their limits
module _ {counts : Counts} (w : CountsWithin counts) (n : ℕ) (b : name_beyond (counted counts) (name_of_code n) ≡ false) where
  pub name_fits : name_word n < 512
  unfolding name_beyond name_of_code name_word
  name_fits =
      by_order n 100000
      (λ p. let l = leb-false counts.vregs n (rw (lt-ltb n 100000 p) at b) in rw (lt-ltb n 100000 p) (omega (arith, w.vregs)))
      λ p. let l = leb-false counts.regs (n - 100000) (rw (le-ltb n 100000 p) at b) in rw (le-ltb n 100000 p) (omega (arith, w.regs))

  pub virtual_fits : n < 100000 → n < 256
  unfolding name_beyond name_of_code
  virtual_fits p = let l = leb-false counts.vregs n (rw (lt-ltb n 100000 p) at b) in omega (arith, w.vregs)

  -- the mark in the words is the sheet's
  pub is_typed_right : {S : Sheet} {typed : List ℕ} → TypedBy S typed → is_typed typed n ≡ reference_typed S (name_of_code n)
  unfolding is_typed name_of_code reference_typed
  is_typed_right t =
      by_order n 100000
      (λ p. let q : n < 256 = virtual_fits p in rw (lt-ltb n 100000 p, lt-ltb n 256 q, t.agrees n q))
      λ p. rw (le-ltb n 100000 p, le-ltb n 256 (omega arith))

module _ {counts : Counts} (w : CountsWithin counts) (r : ℕ) (b : reg_beyond (counted counts) (register_of_code r) ≡ false) where
  register_below : r < 100000 → r < counts.regs
  unfolding reg_beyond register_of_code
  register_below p = leb-false counts.regs r (rw (lt-ltb r 100000 p) at b)

  register_fits : register_word r < 64
  unfolding register_word
  register_fits =
      by_order r 100000
      (λ p. rw (lt-ltb r 100000 p) (omega (arith, register_below p, w.regs)))
      λ p. rw (le-ltb r 100000 p) (omega arith)

register_word_below : {counts : Counts} (w : CountsWithin counts) (r : ℕ) → reg_beyond (counted counts) (register_of_code r) ≡ false
    → (register_word r < counts.regs) ⊎ (register_word r ≡ no_register)
unfolding register_word
register_word_below {counts} w r b =
    by_order r 100000
    (λ p. rw (lt-ltb r 100000 p) (inl (register_below {counts = counts} w r b p)))
    λ p. rw (le-ltb r 100000 p) (inr refl)

-- where no operand is beyond its limit, each one's codes are within
module _ {counts : Counts} (w : CountsWithin counts) (g : Operands) (room : Roomy g) (few : g.count ≤ 8)
    (b : any (operand_beyond (counted counts)) (held g) ≡ false) (k : ℕ) (h : k < g.count) where
  operand_within : operand_beyond (counted counts) (operand_meant (get_or g.operands k no_codes)) ≡ false
  unfolding held
  operand_within = any_each g.operands g.count (omega (arith, room.room)) (λ c. operand_beyond (counted counts) (operand_meant c)) no_codes (sym (any_list _ _) ∙ held_any g (operand_beyond (counted counts)) ∙ b) k h

  name_within : name_beyond (counted counts) (name_of_code (get_or g.operands k no_codes).name) ≡ false
  unfolding operand_beyond
  name_within = or_left _ _ operand_within

  register_within : reg_beyond (counted counts) (register_of_code (get_or g.operands k no_codes).register) ≡ false
  unfolding operand_beyond
  register_within = or_right (name_beyond (counted counts) (name_of_code (get_or g.operands k no_codes).name)) _ operand_within

  pub small_within : Small (get_or g.operands k no_codes)
  small_within = record {
    name_small = name_fits w _ name_within;
    virtual_small = virtual_fits w _ name_within;
    register_small = register_fits w _ register_within;
  }

-- the words of a group stand from `from` on
pub record Packed (typed : List ℕ) (g : Operands) (from : ℕ) (words : List ℕ) : Type 0 where
  pub room : from + g.count ≤ length words
  pub each : (k : ℕ) → k < g.count → get_or words (from + k) 0 ≡ word typed (get_or g.operands k no_codes)

module _ {typed : List ℕ} {g : Operands} {from : ℕ} where
  pub packed : (words : List ℕ) {words' : List ℕ} → from + g.count ≤ length words
      → words' ≡ over from g.count (λ k x. word typed (get_or g.operands k no_codes)) words → Packed typed g from words'
  packed words {words'} h e = record {
    room = rw (e, length_over from g.count (λ k x. word typed (get_or g.operands k no_codes)) words) h;
    each = λ k p. rw e (getD_over_in from g.count (λ k x. word typed (get_or g.operands k no_codes)) words k 0 p (omega arith));
  }

  -- words written further on change nothing
  pub packed_kept : {words words' : List ℕ} (at n : ℕ) (f : ℕ → ℕ → ℕ) → from + g.count ≤ at → words' ≡ over at n f words → Packed typed g from words → Packed typed g from words'
  packed_kept {words} {words'} at n f h e p = record {
    room = rw (e, length_over at n f words) p.room;
    each = λ k q. rw (e, getD_over_below at n f words (from + k) 0 (omega arith)) (p.each k q);
  }

module _ {counts : Counts} (w : CountsWithin counts) {g : Operands} (room : Roomy g) (few : g.count ≤ 8)
    (b : any (operand_beyond (counted counts)) (held g) ≡ false) {typed : List ℕ} {from : ℕ} {words : List ℕ} (p : Packed typed g from words) where
  pub packed_means : operands from g.count words ≡ held g
  unfolding operands region held
  packed_means =
      let d : Operand = operand_of 0 in
      let n : length (take g.count (drop from words)) ≡ g.count = simp (length-take, length-drop) (omega (arith, p.room)) in
      let m : length (map operand_meant (take g.count g.operands)) ≡ g.count = length-map (take g.count g.operands) operand_meant ∙ length-take-le g.count _ (omega (arith, room.room)) in
      let o : length (map operand_of (take g.count (drop from words))) ≡ g.count = length-map (take g.count (drop from words)) operand_of ∙ n in
      ext_get_or d _ _ (o ∙ sym m) λ k h.
      let q : k < g.count = omega arith in
      get_or-map operand_of (take g.count (drop from words)) k 0 d (omega arith)
      ∙ rw (
        get_or-take g.count (drop from words) k 0 q,
        get_or-drop from words k 0,
        p.each k q,
        get_or-map operand_meant (take g.count g.operands) k no_codes d (omega (arith, room.room, length-take-le g.count g.operands (omega (arith, room.room)))),
        get_or-take g.count g.operands k no_codes q,
      )
      (word_means typed _ (small_within w g room few b k q) (λ h. omega (arith, register_below w _ (register_within w g room few b k q) h, w.regs)))

  pub packed_within : {S : Sheet} → TypedBy S typed → GroupWithin S counts.regs from g.count words
  packed_within {S} t = record {
    few = few;
    registers = λ k q.
        let s = small_within w g room few b k q in
        rw (p.each k q, word_register typed _ s) (register_word_below w _ (register_within w g room few b k q));
    marks = λ k q.
        let s = small_within w g room few b k q in
        rw (p.each k q, word_mark typed _ s, word_name typed _ s) (sym (is_typed_right w _ (name_within w g room few b k q) t));
  }
