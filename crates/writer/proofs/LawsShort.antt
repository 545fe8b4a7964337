-- The numbers that words of 16 bits hold have at most five digits, so what is written of them is read as it stands.
use mathlib.Core.Bool.{Bool, true, false, cond}
use mathlib.Core.List.{List, [], ◌∷◌, ◌++◌, map}
use mathlib.Core.Option.{none, some}
use Prim.Native.Nat.{ℕ, suc, zero, ◌+◌, ◌*◌, ◌/◌, ◌%◌, ◌≤◌, ◌<◌}
use native.Mathlib.Omega.{arith}
use borrow.Author.Tests.{lt-ltb, le-ltb}
use lib.Dec.{eqb}
use lib.ListN.{length, get_or, take, drop}
use Rattle.lists.specs.Split.{by_order}
use Rattle.lists.specs.Region.{region}
use Rattle.lists.specs.Regions.{All}
use Rattle.lists.specs.Bits.{set_bits, set_bits_below}
use Rattle.paper.specs.Refusals.{Record, typed_record, step_record}
use Rattle.paper.specs.Writing.{block_records, records_of}
use Rattle.layout.specs.Layout.{step_base, step_words, typed_base, typed_words, opened_word, succ_base}
use Rattle.cells.specs.Packed.{name_of_word}
use Rattle.loaded.specs.Actions.{register_of, operand_of, operands, copy_step, step_of, action_of, action_at, steps_at}
use Rattle.loaded.specs.Loaded.{first_step, step_total, succ_total, block_at, blocks_at, marked_from, sheet_of}
use Rattle.spelling.specs.Short.{Short, ShortName, ShortRegister, ShortOperand, ShortOperands, ShortGroup, ShortStep, ShortRecords, ShortSheet}

-- a word of 16 bits
abbrev pub Word : ℕ → Type 0
Word w = w < 65536

all_take : (n : ℕ) (l : List ℕ) → All Word l → All Word (take n l)
unfolding All
all_take zero l a = tt
all_take (suc n) [] a = tt
all_take (suc n) (x ∷ l) a = (a.0, all_take n l a.1)

all_drop : (n : ℕ) (l : List ℕ) → All Word l → All Word (drop n l)
unfolding All
all_drop zero l a = a
all_drop (suc n) [] a = tt
all_drop (suc n) (x ∷ l) a = all_drop n l a.1

word_at : (l : List ℕ) (i : ℕ) → All Word l → Word (get_or l i 0)
unfolding All
word_at [] i a = omega arith
word_at (x ∷ l) zero a = a.0
word_at (x ∷ l) (suc i) a = word_at l i a.1

all_short : (most : ℕ) (l : List ℕ) → most ≤ 100000 → All (λ n. n < most) l → All Short l
unfolding All
all_short most [] h a = tt
all_short most (x ∷ l) h a = (omega (arith, a.0), all_short most l h a.1)

all_region : (at n : ℕ) (l : List ℕ) → All Word l → All Word (region at n l)
unfolding region
all_region at n l a = all_take n (drop at l) (all_drop at l a)

short_append : (rs qs : List Record) → ShortRecords rs → ShortRecords qs → ShortRecords (rs ++ qs)
unfolding ShortRecords
short_append [] qs p q = q
short_append (r ∷ rs) qs p q = (p.0, short_append rs qs p.1 q)

-- typed names

typed_short : (n : ℕ) (l : List ℕ) → n + length l ≤ 99999 → ShortRecords (map typed_record (marked_from n l))
unfolding ShortRecords marked_from
typed_short n [] h = tt
typed_short n (w ∷ ws) h = go (eqb w 0) (typed_short (suc n) ws (omega arith))
  where
    rest : List ℕ
    rest = marked_from (suc n) ws

    go : (b : Bool) → ShortRecords (map typed_record rest) → ShortRecords (map typed_record (cond b rest (n ∷ rest)))
    go true p = p
    go false p = (omega arith, p)

-- steps

name_short : (w : ℕ) → ShortName (name_of_word w)
unfolding name_of_word
name_short w = by_order (w % 512) 256 (λ h. rw (lt-ltb (w % 512) 256 h) (omega arith)) λ h. rw (le-ltb (w % 512) 256 h) (omega arith)

register_short : (r : ℕ) → r < 64 → ShortRegister (register_of r)
unfolding register_of
register_short r h = go (eqb r 63)
  where
    go : (b : Bool) → ShortRegister (cond b none (some r))
    go true = tt
    go false = omega arith

operand_short : (w : ℕ) → Word w → ShortOperand (operand_of w)
unfolding operand_of
operand_short w h = record { name = name_short w; reg = register_short (w / 1024) (omega arith) }

operands_short : (ws : List ℕ) → All Word ws → ShortOperands (map operand_of ws)
unfolding All ShortOperands
operands_short [] a = tt
operands_short (w ∷ ws) a = (operand_short w a.0, operands_short ws a.1)

length_group : (n : ℕ) (l : List ℕ) → length (map operand_of (take n l)) ≤ n
length_group zero l = omega arith
length_group (suc n) [] = omega arith
length_group (suc n) (x ∷ l) = omega (arith, length_group n l)

group_short : (at n : ℕ) (l : List ℕ) → n < 64 → All Word l → ShortGroup (operands at n l)
unfolding operands region
group_short at n l h a =
    record { count = omega (arith, length_group n (drop at l)); operands = operands_short (take n (drop at l)) (all_take n (drop at l) (all_drop at l a)) }

step_short : (words : List ℕ) → All Word words → (k t a b inst x y : ℕ) → a < 64 → b < 64 → Word inst → Word x → Word y
    → ShortStep (step_of words (action_of k t a b inst x y))
unfolding action_of step_of copy_step
step_short words w k zero a b inst x y ha hb hi hx hy = (omega arith, omega arith)
step_short words w k (suc zero) a b inst x y ha hb hi hx hy = (omega arith, omega arith)
step_short words w k (suc (suc zero)) a b inst x y ha hb hi hx hy = (omega arith, omega arith)
step_short words w k (suc (suc (suc zero))) a b inst x y ha hb hi hx hy = (omega arith, omega arith, name_short x, name_short y)
step_short words w k (suc (suc (suc (suc zero)))) a b inst x y ha hb hi hx hy = (omega arith, group_short _ a words ha w, group_short _ b words hb w)
step_short words w k (suc (suc (suc (suc (suc zero))))) a b inst x y ha hb hi hx hy =
    (omega arith, all_short 32 (set_bits (x + y * 65536)) (omega arith) (set_bits_below (x + y * 65536) 32 (omega arith)))
step_short words w k (suc (suc (suc (suc (suc (suc t)))))) a b inst x y ha hb hi hx hy = (omega arith, omega arith)

steps_short : (words : List ℕ) → All Word words → (k n : ℕ) → ShortRecords (map step_record (steps_at words k n))
unfolding ShortRecords steps_at action_at
steps_short words a k zero = tt
steps_short words a k (suc n) =
    let at : ℕ = step_base + k * step_words in
    let word : (i : ℕ) → Word (get_or words i 0) = λ i. word_at words i a in
    (step_short words a k _ _ _ _ _ _ (omega arith) (omega arith) (word (at + 1)) (word (at + 2)) (word (at + 3)), steps_short words a (k + 1) n)

-- blocks

blocks_short : (words : List ℕ) → All Word words → (b n : ℕ) → ShortRecords (block_records (blocks_at words b n))
unfolding ShortRecords blocks_at block_at block_records
blocks_short words a b zero = tt
blocks_short words a b (suc n) = (
  all_short 65536 (region (succ_base b) (succ_total words b) words) (omega arith) (all_region (succ_base b) (succ_total words b) words a),
  short_append (map step_record (steps_at words (first_step words b) (step_total words b))) (block_records (blocks_at words (b + 1) n))
      (steps_short words a (first_step words b) (step_total words b)) (blocks_short words a (b + 1) n),
)

length_taken : (n : ℕ) (l : List ℕ) → length (take n l) ≤ n
length_taken zero l = omega arith
length_taken (suc n) [] = omega arith
length_taken (suc n) (x ∷ l) = omega (arith, length_taken n l)

pub words_short : (words : List ℕ) → All Word words → ShortSheet (sheet_of words)
unfolding ShortRecords records_of sheet_of region
words_short words a =
    let word : (i : ℕ) → Short (get_or words i 0) = λ i. omega (arith, word_at words i a) in (
      (word _, word _, word _, word _, word _),
      short_append (map typed_record (marked_from 0 (take typed_words (drop typed_base words)))) (block_records (blocks_at words 0 (get_or words opened_word 0)))
          (typed_short 0 (take typed_words (drop typed_base words)) (omega (arith, length_taken typed_words (drop typed_base words))))
          (blocks_short words a 0 (get_or words opened_word 0)),
    )
