-- What the program writes of two reports: `D 0` where they are equal; `D line` where they part, and behind that line's LF the rest of
-- the longer one; `M side line` where one is malformed.
use Rattle.std.specs.Prelude.{◌≡◌, Bool, cond, ◌||◌, List, [], ◌∷◌, ◌++◌, ℕ, ◌≤◌, ltb, length}
use Rattle.paper.specs.Text.{Bytes, digits}
use Rattle.paper.specs.Report.{behind_tabs}
use Rattle.paper.specs.Answer.{laid}
use Rattle.paper.specs.Comparison.{side_number, compared, rest_of}
use Rattle.paper.specs.declared.Compared.{Compared}
use Rattle.paper.specs.declared.Compared.TheVariants.{Equal, Parts, Malformed}

abbrev pub letter_D : ℕ
letter_D = 68

abbrev pub letter_M : ℕ
letter_M = 77

unfoldable pub parted_text : ℕ → Bytes
parted_text line = letter_D ∷ behind_tabs (digits line ∷ [])

unfoldable pub malformed_text : ℕ → ℕ → Bytes
malformed_text side line = letter_M ∷ behind_tabs (digits side ∷ digits line ∷ [])

unfoldable pub said_text : Compared → Bytes → Bytes
said_text Equal rest = parted_text 0
said_text (Parts line place) rest = parted_text line ++ rest
said_text (Malformed side line) rest = malformed_text (side_number side) line

unfoldable pub compared_text : Bytes → Bytes → Bytes
compared_text first second = said_text (compared first second) (rest_of first second)

-- a report of up to a mebibyte is compared so, and the text has room for all of it and for a line before it
abbrev pub longest_report : ℕ
longest_report = 1048576

abbrev pub longest_text : ℕ
longest_text = 1048592

unfoldable pub no_room : Bytes → Bytes → List ℕ → Bool
no_room first second out = ltb longest_report (length first) || (ltb longest_report (length second) || ltb (length out) longest_text)

-- the length of the text, and the lent room afterwards
pub record Left : Type 0 where
  pub size : ℕ
  pub room : List ℕ

-- without room nothing is written, and the length is 0
unfoldable pub text_left : Bytes → Bytes → List ℕ → Left
text_left first second out =
    cond (no_room first second out) (record { size = 0; room = out })
    (let text = compared_text first second in record { size = length text; room = laid text out })

pub record Told (first second : Bytes) (before after : List ℕ) (r : ℕ) : Type 0 where
  pub whole : ◌≡◌ {A = Left} (record { size = r; room = after }) (text_left first second before)
  pub fits : r ≤ length after
