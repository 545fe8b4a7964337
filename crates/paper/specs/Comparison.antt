-- Document 02, A1: "compares two reports from two build machines". Is each well formed: "header, then E lines of document 01's shapes,
-- limits untested, as many as it counts"; "the first line where they part"; what is handed back "from that line on". A5 adds the line
-- `N block`, which the header does not count.
use Rattle.std.specs.Prelude.{Bool, true, false, cond, ◌&&◌, ◌||◌, List, [], ◌∷◌, ℕ, suc, ◌+◌, eqb, ltb, length, drop}
use Rattle.std.specs.Bool.{beq}
use Rattle.std.proofs.Math.Option.{Option, none, some}
use Rattle.paper.specs.Text.{Bytes, line_feed, parts, fields, number_of, digits, letter_r, name_of}
use Rattle.paper.specs.Refusals.{◌>>=◌, next, ended, any, empty}
use Rattle.paper.specs.Report.{letter_s, nothing, letter_E, letter_N, letter_R, rule_text}
use Rattle.paper.specs.declared.Rule.TheVariants.{Old, House}
use Rattle.paper.specs.declared.Compared.{Compared}
use Rattle.paper.specs.declared.Compared.TheVariants.{Equal, Parts, Malformed}
use Rattle.paper.specs.declared.Side.{Side}
use Rattle.paper.specs.declared.Side.TheVariants.{First, Second}

-- which texts may stand in a field
abbrev pub Shape : Type 0
Shape = Bytes → Bool

unfoldable pub given : {A : Type 0} → Option A → Bool
given none = false
given (some a) = true

-- this text and no other
unfoldable pub same_text : Bytes → Shape
same_text [] [] = true
same_text [] (y ∷ ys) = false
same_text (x ∷ xs) [] = false
same_text (x ∷ xs) (y ∷ ys) = eqb x y && same_text xs ys

-- a number and a name as document 01 reads them
unfoldable pub a_number : Shape
a_number field = given (number_of field)

unfoldable pub a_name : Shape
a_name field = given (name_of field)

-- a letter and a number behind it: `rN`, `sN`
unfoldable pub lettered : ℕ → Shape
lettered letter [] = false
lettered letter (b ∷ bs) = eqb b letter && a_number bs

-- a line's fields, each of its shape, and no field more
unfoldable pub fits : List Shape → List Bytes → Bool
fits [] fs = empty fs
fits (shape ∷ shapes) [] = false
fits (shape ∷ shapes) (f ∷ fs) = shape f && fits shapes fs

-- `E block place inst kind where expected actual`
unfoldable pub fault_shape : ℕ → Shape → Shape → Shape → List Shape
fault_shape kind place expected actual =
    same_text (letter_E ∷ []) ∷ a_number ∷ a_number ∷ a_number ∷ same_text (digits kind) ∷ place ∷ expected ∷ actual ∷ []

-- "Kinds and their fields": every line of a fault
unfoldable pub fault_shapes : List (List Shape)
fault_shapes =
    fault_shape 1 (same_text nothing) a_name (same_text nothing)
    ∷ fault_shape 2 (lettered letter_r) (same_text nothing) (same_text nothing)
    ∷ fault_shape 3 (lettered letter_r) a_name a_name
    ∷ fault_shape 4 (lettered letter_s) a_name (same_text nothing)
    ∷ fault_shape 5 (lettered letter_s) a_name a_name
    ∷ fault_shape 6 (lettered letter_s) (same_text nothing) (same_text nothing)
    ∷ fault_shape 7 (lettered letter_s) (same_text nothing) (same_text nothing)
    ∷ []

unfoldable pub fault_shaped : Bytes → Bool
fault_shaped line = any (λ shapes. fits shapes (fields line)) fault_shapes

-- `N block`
unfoldable pub unreached_shaped : Bytes → Bool
unreached_shaped line = fits (same_text (letter_N ∷ []) ∷ a_number ∷ []) (fields line)

-- the fields behind one of a shape
unfoldable pub past : Shape → List Bytes → Option (List Bytes)
past shape [] = none
past shape (f ∷ fs) = cond (shape f) (some fs) none

unfoldable pub a_rule : Shape
a_rule field = same_text (rule_text Old) field || same_text (rule_text House) field

-- "Header `R rule count`": its count, where it is one
unfoldable pub count_of : List Bytes → Option ℕ
count_of fs = do
  behind_letter ← past (same_text (letter_R ∷ [])) fs
  behind_rule ← past a_rule behind_letter
  count ← next number_of behind_rule
  ended count.rest count.value

-- what stands before each LF, and at last what no LF closes: nothing, where the last line is closed
unfoldable pub pieces : Bytes → List Bytes
pieces text = parts line_feed ([] ∷ []) text

-- of the lines from one on, behind a header that counts so many and so many faults before, the first bad one; 0 where none is. A line
-- that no LF closes is bad, and "a wrong count is line 1", where every line has its shape
unfoldable pub bad_from : (count faults line : ℕ) → List Bytes → ℕ
bad_from count faults line [] = line
bad_from count faults line (piece ∷ later) =
    cond (empty later)
    (cond (empty piece) (cond (eqb count faults) 0 1) line)
    (cond (fault_shaped piece) (bad_from count (suc faults) (suc line) later)
    (cond (unreached_shaped piece) (bad_from count faults (suc line) later) line))

unfoldable pub bad_behind : Option ℕ → List Bytes → ℕ
bad_behind none later = 1
bad_behind (some count) later = bad_from count 0 2 later

unfoldable pub bad_first : List Bytes → ℕ
bad_first [] = 1
bad_first (header ∷ later) = cond (empty later) 1 (bad_behind (count_of (fields header)) later)

-- the report's "first bad line", from 1; 0 where it is well formed
unfoldable pub bad_line : Bytes → ℕ
bad_line report = bad_first (pieces report)

-- two lines, or what stands behind the last line, are the same: the text, and that LF closes both or none
unfoldable pub same_line : Bytes → List Bytes → Bytes → List Bytes → Bool
same_line l later m further = same_text l m && beq (empty later) (empty further)

-- "the first line where they part", which differs, or which one of them lacks; and the place of its first byte, the same in both
unfoldable pub parting : (line place : ℕ) → List Bytes → List Bytes → Compared
parting line place [] [] = Equal
parting line place [] (m ∷ ms) = Parts line place
parting line place (l ∷ ls) [] = Parts line place
parting line place (l ∷ ls) (m ∷ ms) = cond (same_line l ls m ms) (parting (suc line) (place + suc (length l)) ls ms) (Parts line place)

-- a report's side as a number
unfoldable pub side_number : Side → ℕ
side_number First = 1
side_number Second = 2

-- "A malformed report is refused with its side and first bad line"
unfoldable pub refused_or : Side → (bad : ℕ) → Compared → Compared
refused_or side bad otherwise = cond (eqb bad 0) otherwise (Malformed side bad)

-- "the first report being judged first"
unfoldable pub compared : Bytes → Bytes → Compared
compared first second =
    refused_or First (bad_line first) (refused_or Second (bad_line second) (parting 1 0 (pieces first) (pieces second)))

-- "the longer report"; "of two equally long, the first"
unfoldable pub longer : Bytes → Bytes → Bytes
longer first second = cond (ltb (length first) (length second)) second first

-- where in the longer report, of so many bytes, begins what is handed back: "Equal reports give line 0 and an empty part", and so do
-- malformed ones
unfoldable pub rest_place : ℕ → Compared → ℕ
rest_place size Equal = size
rest_place size (Parts line place) = place
rest_place size (Malformed side line) = size

-- "from that line on" the rest of the longer report
unfoldable pub rest_of : Bytes → Bytes → Bytes
rest_of first second = let report = longer first second in drop (rest_place (length report) (compared first second)) report
