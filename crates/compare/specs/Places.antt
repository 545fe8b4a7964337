-- Lines and fields at a place of a report, and the shapes that the code's table says of their fields.
use Rattle.std.specs.Prelude.{Option, None, Some, Bool, true, false, cond, ◌&&◌, List, [], ◌∷◌, map, ℕ, ◌+◌, ◌≤◌, ◌<◌, zero, suc, eqb, ltb, length, get_or, drop, ◌≡◌}
use Rattle.std.proofs.Math.Option.{none}
use Rattle.std.specs.Borrow.{Bor}
use Rattle.paper.specs.Text.{Bytes, tab, line_feed, fields, letter_r}
use Rattle.paper.specs.Report.{letter_s}
use Rattle.fields.specs.Fields.{field_at, field_end, line_at, line_end, number_told}
use Rattle.paper.specs.Comparison.{side_number, Shape, same_text, a_number, a_name, lettered, count_of, compared, longer, rest_place, rest_of}
use Rattle.compare.specs.declared.Shape as Field
use Rattle.compare.specs.declared.Shape.TheVariants.{Number, Name, Register, Slot, Byte}
use Rattle.paper.specs.declared.Compared.{Compared}
use Rattle.paper.specs.declared.Compared.TheVariants.{Equal, Parts, Malformed}
use Rattle.compare.specs.declared.Judgement.{Judgement}

-- what each is to the definitions: a number, a name, `rN`, `sN`, a byte alone
unfoldable pub shape_of : Field.Shape → Shape
shape_of Number = a_number
shape_of Name = a_name
shape_of Register = lettered letter_r
shape_of Slot = lettered letter_s
shape_of (Byte b) = same_text (b ∷ [])

abbrev pub shapes_of : List Field.Shape → List Shape
shapes_of shapes = map shape_of shapes

-- a fault's lines, by their fields' shapes
unfoldable pub shapes_of_lines : List (List Field.Shape)
shapes_of_lines =
    (Byte 69 ∷ Number ∷ Number ∷ Number ∷ Byte 49 ∷ Byte 45 ∷ Name ∷ Byte 45 ∷ [])
    ∷ (Byte 69 ∷ Number ∷ Number ∷ Number ∷ Byte 50 ∷ Register ∷ Byte 45 ∷ Byte 45 ∷ [])
    ∷ (Byte 69 ∷ Number ∷ Number ∷ Number ∷ Byte 51 ∷ Register ∷ Name ∷ Name ∷ [])
    ∷ (Byte 69 ∷ Number ∷ Number ∷ Number ∷ Byte 52 ∷ Slot ∷ Name ∷ Byte 45 ∷ [])
    ∷ (Byte 69 ∷ Number ∷ Number ∷ Number ∷ Byte 53 ∷ Slot ∷ Name ∷ Name ∷ [])
    ∷ (Byte 69 ∷ Number ∷ Number ∷ Number ∷ Byte 54 ∷ Slot ∷ Byte 45 ∷ Byte 45 ∷ [])
    ∷ (Byte 69 ∷ Number ∷ Number ∷ Number ∷ Byte 55 ∷ Slot ∷ Byte 45 ∷ Byte 45 ∷ [])
    ∷ []

unfoldable pub place_told : ℕ → Bool → Option ℕ
place_told next true = Some next
place_told next false = None

-- the place behind the field at `at`, where it has the shape
unfoldable pub field_place : Shape → Bytes → ℕ → Option ℕ
field_place shape s at = place_told (field_end s at) (shape (field_at s at))

-- the place behind the field that stands behind a tab at `at`
unfoldable pub behind_place : Shape → Bytes → ℕ → Option ℕ
behind_place shape s at = place_told (field_end s (at + 1)) (eqb (get_or s at 0) tab && shape (field_at s (at + 1)))

-- the place of the line feed that closes the line at `at`, where the line is good
unfoldable pub line_place : Bool → Bytes → ℕ → Option ℕ
line_place good s at = place_told (line_end s at) (good && eqb (get_or s (line_end s at) 0) line_feed)

-- the count that the header says, and the place of its line feed
unfoldable pub header_told : Bytes → Option (ℕ × ℕ)
header_told s = number_told (line_end s 0) (cond (eqb (get_or s (line_end s 0) 0) line_feed) (count_of (fields (line_at s 0))) none)

-- a tab stands at `at` and its place is told, or none does
abbrev pub TabTold : Bytes → ℕ → Option ℕ → Type 0
TabTold s at None = get_or s at 0 ≡ tab → ⊥
TabTold s at (Some next) = (next ≡ at + 1) × (at < length s) × (get_or s at 0 ≡ tab)

-- the definitions' number of a line, which is 0 where there is none
abbrev pub line_found : ℕ → Option ℕ
line_found zero = None
line_found (suc n) = Some (suc n)

-- a place behind a field is inside the report, that of a line feed too
abbrev pub PlaceWithin : Bytes → ℕ → Option ℕ → Type 0
PlaceWithin s at None = Unit {0}
PlaceWithin s at (Some next) = (at ≤ next) × (next ≤ length s)

abbrev pub LineWithin : Bytes → ℕ → Option ℕ → Type 0
LineWithin s at None = Unit {0}
LineWithin s at (Some next) = (at ≤ next) × (next < length s)

abbrev pub HeaderWithin : Bytes → Option (ℕ × ℕ) → Type 0
HeaderWithin s None = Unit {0}
HeaderWithin s (Some x) = x.1 < length s

-- where two reports part is inside both, and a line is one of theirs or the next
abbrev pub ComparedWithin : Bytes → Bytes → Compared → Type 0
ComparedWithin first second Equal = Unit {0}
ComparedWithin first second (Parts line place) = (place ≤ length first) × (place ≤ length second) × (line ≤ length first + 1)
ComparedWithin first second (Malformed side line) = line ≤ length first + length second + 1

-- r is the part of a lent report from a place to its end: its bytes, and where they stand in memory. A part, not a copy
pub record PartOf (s : Bor (List ℕ)) (from : ℕ) (r : Bor (List ℕ)) : Type 0 where
  pub bytes : r.now ≡ drop from s.now
  pub block : r.ref_ptr.0 ≡ s.ref_ptr.0
  pub place : r.ref_ptr.1 ≡ from + s.ref_ptr.1

-- the longer of two lent reports; of two equally long, the first
unfoldable pub longer_lent : Bor (List ℕ) → Bor (List ℕ) → Bor (List ℕ)
longer_lent first second = cond (ltb (length first.now) (length second.now)) second first

-- what is handed back of two lent reports
pub record Handed (first second r : Bor (List ℕ)) : Type 0 where
  pub bytes : r.now ≡ rest_of first.now second.now
  pub part : PartOf (longer_lent first second) (rest_place (length (longer first.now second.now)) (compared first.now second.now)) r

-- over the C interface: 0 equal, 1 they part, 2 malformed; its side; the line and the place where they part
unfoldable pub judgement_of : Compared → Judgement
judgement_of Equal = record { answer = 0; side = 0; line = 0; place = 0 }
judgement_of (Parts line place) = record { answer = 1; side = 0; line = line; place = place }
judgement_of (Malformed side line) = record { answer = 2; side = side_number side; line = line; place = 0 }
