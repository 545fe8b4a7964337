-- Document 02, A3: "sealed reports: the report as it is, then a line of `K`, a tab and eight lowercase hex digits, the CRC-32 of ITU-T V.42
-- (reflected polynomial EDB88320, start and final inversion all ones) over all bytes before that line"; "the reader that verifies a seal and
-- says good, wrong word, or no seal line"; and the call that leaves a sealed report.
use Rattle.std.specs.Prelude.{Bool, true, cond, ◌&&◌, ◌||◌, [], ◌∷◌, ◌++◌, ℕ, zero, suc, ◌+◌, ◌-◌, ◌*◌, ◌/◌, ◌%◌, ◌^◌, eqb, leb, ltb, length, take, drop, get_or}
use Prim.Native.Char.{code}
use Rattle.std.specs.Int.Bits.{bit_xor, differ}
use Rattle.paper.specs.Text.{Bytes, tab, line_feed, is_digit}
use Rattle.paper.specs.Limits.{seal_size, sealed_size}
use Rattle.paper.specs.Refusals.{empty}
use Rattle.paper.specs.Answer.{Said, accepted, faulty, turned_away, answer, Lent, too_short, Outcome, outcome_of}
use Rattle.paper.specs.Comparison.{same_text}
use Rattle.paper.specs.declared.Rule.{Rule}
use Rattle.paper.specs.declared.Answer.TheVariants.{Refused}
use Rattle.paper.specs.declared.Seal.{Seal}
use Rattle.paper.specs.declared.Seal.TheVariants.{Good, Wrong, None}

-- "reflected polynomial EDB88320": the register's lowest bit is the first
abbrev pub polynomial : ℕ
polynomial = 0xedb88320

abbrev pub all_ones : ℕ
all_ones = 0xffffffff

-- one bit of the text: the register moves by one, and takes the polynomial where the bit that falls out is not the text's
unfoldable pub feed_bit : ℕ → ℕ → ℕ
feed_bit register bit = bit_xor (register / 2) (differ (register % 2) bit * polynomial)

-- so many bits of a byte, the lowest first
unfoldable pub feed_bits : ℕ → ℕ → ℕ → ℕ
feed_bits zero register byte = register
feed_bits (suc n) register byte = feed_bits n (feed_bit register (byte % 2)) (byte / 2)

unfoldable pub feed : ℕ → Bytes → ℕ
feed register [] = register
feed register (b ∷ bs) = feed (feed_bits 8 register b) bs

-- "start and final inversion all ones"
unfoldable pub crc_of : Bytes → ℕ
crc_of text = bit_xor (feed all_ones text) all_ones

-- "lowercase hex digits", the highest first
unfoldable pub hex_digit : ℕ → ℕ
hex_digit n = cond (ltb n 10) (48 + n) (87 + n)

unfoldable pub hex_digits : ℕ → ℕ → Bytes
hex_digits zero n = []
hex_digits (suc k) n = hex_digit (n / 16 ^ k % 16) ∷ hex_digits k n

abbrev pub letter_K : ℕ
letter_K = code "K"

-- "a line of `K`, a tab and eight lowercase hex digits"
unfoldable pub seal_line : ℕ → Bytes
seal_line word = letter_K ∷ tab ∷ (hex_digits 8 word ++ (line_feed ∷ []))

-- "the report as it is, then" the line with "the CRC-32 .. over all bytes before that line"
unfoldable pub sealed : Bytes → Bytes
sealed text = text ++ seal_line (crc_of text)

unfoldable pub is_hex : ℕ → Bool
is_hex b = is_digit b || (leb 97 b && leb b 102)

unfoldable pub all_hex : Bytes → Bool
all_hex [] = true
all_hex (b ∷ bs) = is_hex b && all_hex bs

-- eleven bytes "of that shape"
unfoldable pub seal_shaped : Bytes → Bool
seal_shaped bytes = eqb (get_or bytes 0 0) letter_K && (eqb (get_or bytes 1 0) tab && (all_hex (take 8 (drop 2 bytes)) && eqb (get_or bytes 10 0) line_feed))

-- a line can begin behind these bytes: there are none, or the last one is LF
unfoldable pub closed : Bytes → Bool
closed text = empty text || eqb (get_or text (length text - 1) 0) line_feed

-- the bytes before the last eleven, and these
unfoldable pub before_seal : Bytes → Bytes
before_seal text = take (length text - seal_size) text

unfoldable pub last_line : Bytes → Bytes
last_line text = drop (length text - seal_size) text

-- not "no seal line (the last 11 bytes aren't one whole line of that shape)"
unfoldable pub has_seal : Bytes → Bool
has_seal text = leb seal_size (length text) && (seal_shaped (last_line text) && closed (before_seal text))

-- "good, wrong word, or no seal line"
unfoldable pub seal_of : Bytes → Seal
seal_of text = cond (has_seal text) (cond (same_text (last_line text) (seal_line (crc_of (before_seal text)))) Good Wrong) None

-- a report is sealed, a refusal is not
unfoldable pub sealed_said : Said → Said
sealed_said (accepted text) = accepted (sealed text)
sealed_said (faulty text) = faulty (sealed text)
sealed_said (turned_away refusal) = turned_away refusal

-- "The sealed form needs 11 bytes more of report buffer"; all else as without a seal
unfoldable pub sealed_outcome : Rule → Bytes → Lent → Outcome
sealed_outcome rule sheet lent =
    cond (too_short sealed_size lent) (record { answer = Refused (record { number = 1; line = 0; field = 0 }); lent = lent })
    (outcome_of (sealed_said (answer rule sheet)) lent)
