-- What the code's needs ask: the table's entry is the byte's, and a text one byte more at a time.
use mathlib.Core.Path.{◌≡◌, sym, ap, ◌∙◌}
use mathlib.Core.List.{List, [], ◌∷◌}
use Prim.Native.Nat.{ℕ, zero, suc, ◌+◌, ◌/◌, ◌%◌, ◌≤◌, ◌<◌}
use native.Mathlib.Nat.{zero-add, div-one}
use native.Mathlib.Numerals.{add-one}
use native.Mathlib.Omega.{arith}
use lib.Bits.{bit_xor, bit_and, and_mask}
use lib.ListN.{length, get_or, drop, drop_of_length-le}
use lib.Seq.{drop-cons}
use Rattle.paper.specs.Text.{tab, line_feed}
use Rattle.paper.specs.Seal.{all_ones, feed_bits, feed, crc_of, hex_digit, hex_digits, letter_K, seal_line}
use Rattle.seal.specs.Table.{shifts, entries, table}
use Rattle.seal.specs.Linear.{by_byte}

-- the rule, carried to each entry
entry_from : (i n k : ℕ) → k < n → get_or (entries i n) k 0 ≡ shifts 8 (i + k)
unfolding entries
entry_from i zero k h = absurd (omega arith)
entry_from i (suc n) zero h = ap (shifts 8) (omega arith)
entry_from i (suc n) (suc k) h = entry_from (suc i) n k (omega arith) ∙ ap (shifts 8) (omega arith)

entry : (k : ℕ) → k < 256 → get_or table k 0 ≡ shifts 8 k
unfolding table
entry k h = entry_from 0 256 k h ∙ ap (shifts 8) (zero-add k)

pub looked_up : (register b : ℕ) → b < 256 → bit_xor (get_or table (bit_and (bit_xor register b) 255) 0) (register / 256) ≡ feed_bits 8 register b
looked_up register b h =
    ap (λ (k : ℕ). bit_xor (get_or table k 0) (register / 256)) (and_mask (bit_xor register b) 8)
    ∙ ap (λ (x : ℕ). bit_xor x (register / 256)) (entry (bit_xor register b % 256) (omega arith))
    ∙ sym (by_byte register b h)

-- a text from i on
pub feed_more : (s : List ℕ) (register register' i : ℕ) → i < length s → register' ≡ feed_bits 8 register (get_or s i 0)
    → feed register' (drop (i + 1) s) ≡ feed register (drop i s)
unfolding feed
feed_more s register register' i h e = rw (e, drop-cons s i 0 h, add-one i)

pub feed_end : (s : List ℕ) (register i : ℕ) → length s ≤ i → feed register (drop i s) ≡ feed all_ones s → bit_xor register all_ones ≡ crc_of s
unfolding feed crc_of
feed_end s register i h e =
    let k : register ≡ feed all_ones s = rw (drop_of_length-le s h) at e in
    ap (λ (x : ℕ). bit_xor x all_ones) k

-- the seal's line, byte by byte
pub line_spelled : (word : ℕ) → (letter_K ∷ tab ∷ hex_digit (word / 0x10000000 % 16) ∷ hex_digit (word / 0x1000000 % 16) ∷ hex_digit (word / 0x100000 % 16)
    ∷ hex_digit (word / 0x10000 % 16) ∷ hex_digit (word / 0x1000 % 16) ∷ hex_digit (word / 0x100 % 16) ∷ hex_digit (word / 0x10 % 16) ∷ hex_digit (word % 16)
    ∷ line_feed ∷ []) ≡ seal_line word
unfolding seal_line hex_digits
line_spelled word = rw (div-one word)
