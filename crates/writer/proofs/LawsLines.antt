-- The parts of the text, one by one: what is left of a list behind its next element, and how a line's parts make the line.
use mathlib.Core.Path.{◌≡◌, refl, sym, ap}
use mathlib.Core.Bool.{Bool, true, false, cond}
use mathlib.Core.List.{List, [], ◌∷◌, ◌++◌, map, append_assoc}
use Prim.Native.Nat.{ℕ, suc, zero, ◌+◌, ◌-◌, ◌/◌, ◌%◌, ◌^◌, ◌≤◌, ◌<◌}
use native.Mathlib.Nat.{zero-add}
use native.Mathlib.Numerals.{add-one}
use native.Mathlib.Omega.{arith}
use borrow.Author.Tests.{le-leb, lt-leb}
use lib.Dec.{eqb}
use lib.ListN.{length, get_or, drop, take}
use lib.Seq.{drop-cons, drop-length}
use lib.Count.{count_trailing_zeros}
use Rattle.lists.specs.Region.{region, length_region}
use Rattle.lists.specs.Regions.{region_none, region_cons}
use Rattle.lists.specs.Bits.{set_bits, bits_from, lowest, no_bits}
use Rattle.paper.specs.Text.{Bytes, tab, digits, name_text}
use Rattle.paper.specs.Limits.{max_blocks, max_succs, max_steps, words_size}
use Rattle.paper.specs.Refusals.{typed_record}
use Rattle.paper.specs.Writing.{allocation_text, operand_texts, record_text, records_text}
use Rattle.layout.specs.Layout.{opened_word}
use Rattle.cells.specs.Packed.{name_of_word}
use Rattle.loaded.specs.Actions.{register_of, operand_of, operands}
use Rattle.loaded.specs.Loaded.{reached_of, first_step, step_total, succ_total, marked_from}
use Rattle.loaded.specs.declared.Reached.{Reached}
use Rattle.spelling.specs.Parted.{row}
use Rattle.writer.specs.Form.{blocks_fit, fits, typed_text}

-- typed names

pub typed_left : List ℕ → ℕ → Bytes
typed_left typed n = records_text (map typed_record (marked_from n (drop n typed)))

pub typed_next : (typed : List ℕ) (n : ℕ) → n < length typed → typed_left typed n ≡ typed_text n (get_or typed n 0) ++ typed_left typed (n + 1)
unfolding typed_left marked_from records_text typed_text
typed_next typed n h = rw (add-one n, drop-cons typed n 0 h) (go (eqb (get_or typed n 0) 0))
  where
    rest : List ℕ
    rest = marked_from (suc n) (drop (suc n) typed)

    go : (b : Bool)
        → records_text (map typed_record (cond b rest (n ∷ rest))) ≡ cond b [] (record_text (typed_record n)) ++ records_text (map typed_record rest)
    go true = refl
    go false = refl

pub typed_all : (typed : List ℕ) → typed_left typed 0 ≡ records_text (map typed_record (marked_from 0 typed))
unfolding typed_left
typed_all typed = refl

pub typed_end : (typed : List ℕ) (n : ℕ) → n ≡ length typed → typed_left typed n ≡ []
unfolding typed_left marked_from records_text
typed_end typed n e = rw (e, drop-length typed)

-- a region of words, each of which has a text

module _ (f : List ℕ → Bytes) (one : ℕ → Bytes) (unfolds : (w : ℕ) (ws : List ℕ) → f (w ∷ ws) ≡ one w ++ f ws) (l : List ℕ) (at n : ℕ) where
  region_next : (i : ℕ) → i < n → at + n ≤ length l → f (region (at + i) (n - i) l) ≡ one (get_or l (at + i) 0) ++ f (region (at + (i + 1)) (n - (i + 1)) l)
  region_next i h room =
      let place : at + i + 1 ≡ at + (i + 1) = omega arith in
      let count : n - i - 1 ≡ n - (i + 1) = omega arith in
      rw (region_cons (at + i) (n - i) l (omega arith) (omega arith), unfolds (get_or l (at + i) 0) (region (at + i + 1) (n - i - 1) l), place, count)

pub numbers_text : List ℕ → Bytes
numbers_text ws = row (map digits ws)

numbers_unfold : (w : ℕ) (ws : List ℕ) → numbers_text (w ∷ ws) ≡ (tab ∷ digits w) ++ numbers_text ws
unfolding numbers_text row
numbers_unfold w ws = refl

pub operands_text : List ℕ → Bytes
operands_text ws = row (operand_texts (map operand_of ws))

abbrev pub operand_text : ℕ → Bytes
operand_text w = (tab ∷ name_text (name_of_word w)) ++ (tab ∷ allocation_text (register_of (w / 1024)))

operands_unfold : (w : ℕ) (ws : List ℕ) → operands_text (w ∷ ws) ≡ operand_text w ++ operands_text ws
unfolding operands_text row operand_texts operand_of
operands_unfold w ws =
    ap (λ (t : Bytes). tab ∷ t)
    (sym (append_assoc (name_text (name_of_word w)) (tab ∷ allocation_text (register_of (w / 1024))) (row (operand_texts (map operand_of ws)))))

module _ (l : List ℕ) (at n : ℕ) where
  pub numbers_next : (i : ℕ) → i < n → at + n ≤ length l
      → numbers_text (region (at + i) (n - i) l) ≡ (tab ∷ digits (get_or l (at + i) 0)) ++ numbers_text (region (at + (i + 1)) (n - (i + 1)) l)
  numbers_next = region_next numbers_text (λ w. tab ∷ digits w) numbers_unfold l at n

  pub numbers_end : (i : ℕ) → i ≡ n → numbers_text (region (at + i) (n - i) l) ≡ []
  unfolding numbers_text row
  numbers_end i e = let none : n - i ≡ 0 = omega arith in rw (none, region_none)

  pub numbers_all : numbers_text (region (at + 0) (n - 0) l) ≡ row (map digits (region at n l))
  unfolding numbers_text
  numbers_all = let place : at + 0 ≡ at = omega arith in let count : n - 0 ≡ n = omega arith in rw (place, count)

module _ (ws : List ℕ) where
  pub operands_next : (i : ℕ) → i < length ws → operands_text (drop i ws) ≡ operand_text (get_or ws i 0) ++ operands_text (drop (i + 1) ws)
  operands_next i h = rw (add-one i, drop-cons ws i 0 h) (operands_unfold (get_or ws i 0) (drop (suc i) ws))

  pub operands_end : (i : ℕ) → i ≡ length ws → operands_text (drop i ws) ≡ []
  unfolding operands_text row operand_texts
  operands_end i e = rw (e, drop-length ws)

-- the part of the words that the n operands from `at` on are
module _ (l : List ℕ) (at n : ℕ) where
  part_is : take (at + n - at) (drop at l) ≡ region at n l
  unfolding region
  part_is = let count : at + n - at ≡ n = omega arith in rw count

  pub length_part : at + n ≤ length l → length (take (at + n - at) (drop at l)) ≡ n
  length_part h = rw part_is (length_region at n l h)

  pub operands_all : operands_text (take (at + n - at) (drop at l)) ≡ row (operand_texts (operands at n l))
  unfolding operands_text operands
  operands_all = rw part_is

-- the slots of a mask

pub slots_text : ℕ → Bytes
slots_text mask = numbers_text (set_bits mask)

module _ (mask : ℕ) (d : mask ≡ 0 → ⊥) (h : mask < 2 ^ 32) where
  next_bit : set_bits mask ≡ count_trailing_zeros 32 mask ∷ set_bits (mask - 2 ^ count_trailing_zeros 32 mask)
  unfolding set_bits
  next_bit = rw (lowest 32 0 mask (omega arith) h, zero-add)

  pub slots_next : slots_text mask ≡ (tab ∷ digits (count_trailing_zeros 32 mask)) ++ slots_text (mask - 2 ^ count_trailing_zeros 32 mask)
  unfolding slots_text
  slots_next = rw next_bit (numbers_unfold (count_trailing_zeros 32 mask) (set_bits (mask - 2 ^ count_trailing_zeros 32 mask)))

  pub bits_next : length (set_bits mask) ≡ suc (length (set_bits (mask - 2 ^ count_trailing_zeros 32 mask)))
  bits_next = rw next_bit

pub slots_end : (mask : ℕ) → mask ≡ 0 → slots_text mask ≡ []
unfolding slots_text numbers_text row
slots_end mask e = rw (e, no_bits)

pub slots_all : (mask : ℕ) → slots_text mask ≡ row (map digits (set_bits mask))
unfolding slots_text numbers_text
slots_all mask = refl

few_from : (k i m : ℕ) → length (bits_from k i m) ≤ k
unfolding bits_from
few_from zero i m = omega arith
few_from (suc k) i m = go (eqb (m % 2) 1) (few_from k (i + 1) (m / 2))
  where
    go : (b : Bool) → length (bits_from k (i + 1) (m / 2)) ≤ k → length (cond b (i ∷ bits_from k (i + 1) (m / 2)) (bits_from k (i + 1) (m / 2))) ≤ suc k
    go true q = omega arith
    go false q = omega arith

pub few_bits : (m : ℕ) → length (set_bits m) ≤ 32
unfolding set_bits
few_bits m = few_from 32 0 m

-- the room that the words have

module _ (words : List ℕ) (n : ℕ) where
  pub fit_next : (b : ℕ) → b < n → succ_total words b ≤ max_succs → first_step words b + step_total words b ≤ max_steps
      → blocks_fit words b (n - b) ≡ blocks_fit words (b + 1) (n - (b + 1))
  unfolding blocks_fit
  fit_next b h p q =
      let count : n - b ≡ suc (n - (b + 1)) = omega arith in
      rw (count, le-leb _ _ p, le-leb _ _ q)

  pub fit_succs : (b : ℕ) → b < n → max_succs < succ_total words b → blocks_fit words b (n - b) ≡ false
  unfolding blocks_fit
  fit_succs b h p = let count : n - b ≡ suc (n - (b + 1)) = omega arith in rw (count, lt-leb _ _ p)

  pub fit_steps : (b : ℕ) → b < n → succ_total words b ≤ max_succs → max_steps < first_step words b + step_total words b → blocks_fit words b (n - b) ≡ false
  unfolding blocks_fit
  fit_steps b h p q = let count : n - b ≡ suc (n - (b + 1)) = omega arith in rw (count, le-leb _ _ p, lt-leb _ _ q)

  pub fit_end : (b : ℕ) → b ≡ n → blocks_fit words b (n - b) ≡ true
  unfolding blocks_fit
  fit_end b e = let count : n - b ≡ 0 = omega arith in rw count

module _ (words : List ℕ) where
  pub fits_sized : length words < words_size → fits words ≡ false
  unfolding fits
  fits_sized h = rw (lt-leb _ _ h)

  module _ (r : Reached) (e : r ≡ reached_of words) (size : words_size ≤ length words) where
    pub fits_opened : max_blocks < r.opened → fits words ≡ false
    unfolding fits
    fits_opened h = rw (le-leb _ _ size, lt-leb _ _ (rw e at h))

    pub fits_all : r.opened ≤ max_blocks → fits words ≡ blocks_fit words 0 (r.opened - 0)
    unfolding fits
    fits_all h =
        let count : get_or words opened_word 0 - 0 ≡ get_or words opened_word 0 = omega arith in
        rw (e, count, le-leb _ _ size, le-leb _ _ (rw e at h))
