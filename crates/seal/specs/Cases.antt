-- The paper's definitions computed: the request's check value, and the edges of the reader.
use Rattle.std.specs.Prelude.{cond, List, [], ◌∷◌, map, ◌≡◌, refl, eqb}
use Prim.Native.Char.{code}
use Prim.Native.String.{String}
use Prim.Native.String as Text
use Rattle.paper.specs.Text.{Bytes, tab, line_feed, is_digit}
use Rattle.paper.specs.Refusals.{empty}
use Rattle.paper.specs.Comparison.{same_text}
use Rattle.paper.specs.Seal.{crc_of, feed, feed_bits, feed_bit, hex_digit, hex_digits, seal_line, sealed, is_hex, all_hex, seal_shaped, closed, before_seal, last_line, has_seal, seal_of}
use Rattle.paper.specs.declared.Seal.{Seal}
use Rattle.paper.specs.declared.Seal.TheVariants.{Good, Wrong, None}

-- a text, with tabs written as spaces and LF as `/`
unfoldable pub bytes_of : String → Bytes
bytes_of Text.[] = []
bytes_of (Text.◌∷◌ c s) = cond (eqb (code c) 32) tab (cond (eqb (code c) 47) line_feed (code c)) ∷ bytes_of s

-- "The text 123456789 gives cbf43926"
pub check_value : crc_of (bytes_of "123456789") ≡ 0xcbf43926
unfolding bytes_of crc_of feed feed_bits feed_bit
check_value = refl

sealed_report : sealed (bytes_of "R house 0/") ≡ bytes_of "R house 0/K 551fea64/"
unfolding bytes_of sealed seal_line hex_digits hex_digit crc_of feed feed_bits feed_bit
sealed_report = refl

-- a text, and what its seal comes to
record Row : Type 0 where
  text : String
  seal : Seal

rows : List Row
rows =
    record { text = "K 00000000/"; seal = Good }
    ∷ record { text = "R house 0/K 551fea64/"; seal = Good }
    ∷ record { text = "R house 0/K 551fea65/"; seal = Wrong }
    ∷ record { text = "R house 1/K 551fea64/"; seal = Wrong }
    -- the seal of a sealed text
    ∷ record { text = "K 00000000/K 2fec4f87/"; seal = Good }
    ∷ record { text = "K 00000000/K 00000000/"; seal = Wrong }
    -- fewer than 11 bytes; no LF; a seal line that begins no line; upper case; other bytes in its place; bytes behind it
    ∷ record { text = ""; seal = None }
    ∷ record { text = "R house 0/"; seal = None }
    ∷ record { text = "K 0000000/"; seal = None }
    ∷ record { text = "K 00000000"; seal = None }
    ∷ record { text = "xK 00000000/"; seal = None }
    ∷ record { text = "R house 0K 551fea64/"; seal = None }
    ∷ record { text = "R house 0/K 551FEA64/"; seal = None }
    ∷ record { text = "R house 0/k 551fea64/"; seal = None }
    ∷ record { text = "R house 0/K-551fea64/"; seal = None }
    ∷ record { text = "R house 0/K 551fea6g/"; seal = None }
    ∷ record { text = "R house 0/K 551fea64//"; seal = None }
    ∷ record { text = "R house 0/K 0551fea64/"; seal = None }
    ∷ []

-- every row of the table holds
table : map (λ (row : Row). seal_of (bytes_of row.text)) rows ≡ map (λ (row : Row). row.seal) rows
unfolding rows bytes_of empty is_digit same_text seal_line hex_digits hex_digit is_hex all_hex seal_shaped closed before_seal last_line has_seal seal_of crc_of feed feed_bits feed_bit
table = refl
