-- Document 01, "The sheet": text, each line closed by LF, fields parted by one tab. A number is 1 to 5 decimal digits, no
-- leading zero except `0` itself. A name is `r` or `v` and a number: a real or virtual register.
use Rattle.std.specs.Prelude.{Bool, true, cond, not, ◌&&◌, List, [], ◌∷◌, ◌++◌, ℕ, ◌+◌, ◌-◌, ◌*◌, ◌/◌, ◌%◌, eqb, leb, ltb, length, get_or}
use mathlib.Core.HLevel.{Discrete}
use Rattle.std.proofs.Math.Option.{Option, none, some, map}
use Rattle.std.proofs.Math.Decide.{ℕ_discrete}

-- a text is a list of bytes
abbrev pub Bytes : Type 0
Bytes = List ℕ

abbrev pub tab : ℕ
tab = 9

abbrev pub line_feed : ℕ
line_feed = 10

abbrev pub hyphen : ℕ
hyphen = 45

-- one byte more at the front of the first part
unfoldable pub onto_first : ℕ → List Bytes → List Bytes
onto_first b [] = (b ∷ []) ∷ []
onto_first b (part ∷ parts) = (b ∷ part) ∷ parts

-- the parts of a text that a separator closes or parts; `end` is what the end of the text leaves
unfoldable pub parts : ℕ → List Bytes → Bytes → List Bytes
parts separator end [] = end
parts separator end (b ∷ bs) = let rest = parts separator end bs in cond (eqb b separator) ([] ∷ rest) (onto_first b rest)

-- "each line closed by LF"
unfoldable pub lines : Bytes → List Bytes
lines text = parts line_feed [] text

-- "fields parted by one tab"
unfoldable pub fields : Bytes → List Bytes
fields line = parts tab ([] ∷ []) line

-- "A number is 1 to 5 decimal digits, no leading zero except `0` itself."
unfoldable pub is_digit : ℕ → Bool
is_digit b = leb 48 b && leb b 57

unfoldable pub all_digits : Bytes → Bool
all_digits [] = true
all_digits (b ∷ bs) = is_digit b && all_digits bs

unfoldable pub leading_zero : Bytes → Bool
leading_zero field = ltb 1 (length field) && eqb (get_or field 0 0) 48

unfoldable pub is_number : Bytes → Bool
is_number field = leb 1 (length field) && leb (length field) 5 && all_digits field && not (leading_zero field)

-- the digits' value behind the value of those before them
unfoldable pub value_from : ℕ → Bytes → ℕ
value_from v [] = v
value_from v (b ∷ bs) = value_from (v * 10 + (b - 48)) bs

unfoldable pub number_of : Bytes → Option ℕ
number_of field = cond (is_number field) (some (value_from 0 field)) none

-- a number's one spelling, of 1 to 5 digits
unfoldable pub digit_from : ℕ → ℕ → Bytes
digit_from unit n = cond (leb unit n) ((48 + n / unit % 10) ∷ []) []

unfoldable pub digits : ℕ → Bytes
digits n = digit_from 10000 n ++ digit_from 1000 n ++ digit_from 100 n ++ digit_from 10 n ++ ((48 + n % 10) ∷ [])

-- "A name is `r` or `v` and a number: a real or virtual register."
pub data Name : Type 0 where
  real : ℕ → Name
  virtual : ℕ → Name
  deriving Discrete as Name_discrete

unfoldable pub name_same : Discrete Name
name_same = Name_discrete ℕ_discrete

abbrev pub letter_r : ℕ
letter_r = 114

abbrev pub letter_v : ℕ
letter_v = 118

unfoldable pub name_of : Bytes → Option Name
name_of [] = none
name_of (b ∷ bs) = cond (eqb b letter_r) (map real (number_of bs)) (cond (eqb b letter_v) (map virtual (number_of bs)) none)

unfoldable pub name_text : Name → Bytes
name_text (real n) = letter_r ∷ digits n
name_text (virtual n) = letter_v ∷ digits n
