-- A field, a line and what a field says, at a place of a text. A field reaches to the next tab or line feed, a line to the
-- next line feed, and either to the end of the text where none follows.
use Rattle.std.specs.Prelude as read
use Rattle.std.specs.Prelude.{◌≡◌, Bool, true, false, cond, ◌||◌, List, [], ◌∷◌, ℕ, ◌+◌, ◌≤◌, ◌<◌, eqb, length, get_or, drop, Some, None, unwrap_or}
use Rattle.std.proofs.Math.Option.{Option, none, some}
use Rattle.paper.specs.Text.{Bytes, tab, line_feed, fields, number_of, Name, real, virtual, name_of}
use Rattle.paper.specs.Refusals.{allocation_of}
use Rattle.fields.specs.declared.Name as ReadName
use Rattle.fields.specs.declared.Name.TheVariants as name
use Rattle.fields.specs.declared.End as End
use Rattle.fields.specs.declared.End.TheVariants as end

-- the bytes before the first that stops
unfoldable pub until : (ℕ → Bool) → Bytes → Bytes
until stops [] = []
until stops (b ∷ bs) = cond (stops b) [] (b ∷ until stops bs)

unfoldable pub ends_line : ℕ → Bool
ends_line b = eqb b line_feed

unfoldable pub ends_field : ℕ → Bool
ends_field b = eqb b tab || eqb b line_feed

unfoldable pub line_at : Bytes → ℕ → Bytes
line_at s at = until ends_line (drop at s)

unfoldable pub field_at : Bytes → ℕ → Bytes
field_at s at = until ends_field (drop at s)

-- the place of the byte that ends the line or the field
unfoldable pub line_end : Bytes → ℕ → ℕ
line_end s at = at + length (line_at s at)

unfoldable pub field_end : Bytes → ℕ → ℕ
field_end s at = at + length (field_at s at)

-- the line's fields behind a place where a field ends: there are some behind a tab alone
unfoldable pub fields_behind : Bytes → ℕ → List Bytes
fields_behind s at = cond (eqb (get_or s at 0) tab) (fields (line_at s (at + 1))) []

-- the name that was read
unfoldable pub name_read : Name → ReadName.Name
name_read (real n) = name.Real n
name_read (virtual n) = name.Virtual n

-- what is told of a field that was read up to `next`
unfoldable pub number_told : ℕ → Option ℕ → read.Option (ℕ × ℕ)
number_told next none = None
number_told next (some v) = Some (v, next)

unfoldable pub name_told : ℕ → Option Name → read.Option (ReadName.Name × ℕ)
name_told next none = None
name_told next (some n) = Some (name_read n, next)

unfoldable pub allocation_told : ℕ → Option (Option ℕ) → read.Option (read.Option ℕ × ℕ)
allocation_told next none = None
allocation_told next (some none) = Some (None, next)
allocation_told next (some (some r)) = Some (Some r, next)

unfoldable pub number_at : Bytes → ℕ → read.Option (ℕ × ℕ)
number_at s at = number_told (field_end s at) (number_of (field_at s at))

unfoldable pub name_at : Bytes → ℕ → read.Option (ReadName.Name × ℕ)
name_at s at = name_told (field_end s at) (name_of (field_at s at))

unfoldable pub allocation_at : Bytes → ℕ → read.Option (read.Option ℕ × ℕ)
allocation_at s at = allocation_told (field_end s at) (allocation_of (field_at s at))

-- what ends a field at a place; past the end of the text nothing
unfoldable pub end_at : Bytes → ℕ → read.Option End.End
end_at s at = cond (eqb (get_or s at 0) tab) (Some end.Tab) (cond (eqb (get_or s at 0) line_feed) (Some end.LineFeed) None)

-- a value that a field at `at` says, and the place behind it, are within bounds
pub record Within (s : Bytes) (at v next : ℕ) : Type 0 where
  pub small : v < 100000
  pub further : at < next
  pub inside : next ≤ length s

abbrev pub NumberWithin : Bytes → ℕ → read.Option (ℕ × ℕ) → Type 0
NumberWithin s at None = Unit {0}
NumberWithin s at (Some x) = Within s at x.0 x.1

-- a name's number
abbrev pub number_in : ReadName.Name → ℕ
number_in (name.Real n) = n
number_in (name.Virtual n) = n

abbrev pub NameWithin : Bytes → ℕ → read.Option (ReadName.Name × ℕ) → Type 0
NameWithin s at None = Unit {0}
NameWithin s at (Some x) = Within s at (number_in x.0) x.1

abbrev pub AllocationWithin : Bytes → ℕ → read.Option (read.Option ℕ × ℕ) → Type 0
AllocationWithin s at None = Unit {0}
AllocationWithin s at (Some x) = Within s at (unwrap_or x.0 0) x.1

-- a tab or a line feed stands inside the text
abbrev pub EndWithin : Bytes → ℕ → read.Option End.End → Type 0
EndWithin s at None = (get_or s at 0 ≡ tab → ⊥) × (get_or s at 0 ≡ line_feed → ⊥)
EndWithin s at (Some end.Tab) = (at < length s) × (get_or s at 0 ≡ tab)
EndWithin s at (Some end.LineFeed) = (at < length s) × (get_or s at 0 ≡ line_feed)

-- the name with a number, real or virtual
unfoldable pub name_made : Bool → ℕ → Name
name_made true n = real n
name_made false n = virtual n

-- the paper's name for one that was read, and its register, where one is given
unfoldable pub named : ReadName.Name → Name
named (name.Real n) = real n
named (name.Virtual n) = virtual n

unfoldable pub allocated : read.Option ℕ → Option ℕ
allocated None = none
allocated (Some r) = some r
