-- The two numbers of document 01's `S slot reg`, `L reg slot` and `M into from`, and what is told of them at a place of a text.
use Rattle.std.specs.Prelude as read
use Rattle.std.specs.Prelude.{◌≡◌, ℕ, Some, None}
use Rattle.std.proofs.Math.Path.{refl}
use Rattle.std.proofs.Common.{◌∙◌}
use mathlib.Core.List.{List, [], ◌∷◌}
use Rattle.std.proofs.Math.Option.{Option, none, some, map}
use Rattle.paper.specs.Text.{Bytes, fields, number_of}
use Rattle.paper.specs.Sheet.{Step}
use Rattle.paper.specs.Refusals.{Record, step_record, Read, ◌>>=◌, next, ended, two_numbers_of}
use Rattle.fields.specs.Fields.{line_at, line_end}

-- two numbers, and no field more
unfoldable pub pair_of : List Bytes → Option (ℕ × ℕ)
pair_of fs = do
  a ← next number_of fs
  b ← next number_of a.rest
  ended b.rest (a.value, b.value)

-- what is told of a line that was read up to its end
unfoldable pub pair_told : ℕ → Option (ℕ × ℕ) → read.Option (ℕ × ℕ × ℕ)
pair_told end none = None
pair_told end (some p) = Some (p.0, p.1, end)

unfoldable pub pair_at : Bytes → ℕ → read.Option (ℕ × ℕ × ℕ)
pair_at s at = pair_told (line_end s at) (pair_of (fields (line_at s at)))

-- the record of a step of two numbers, where both were read
abbrev pub record_told : (ℕ → ℕ → Step) → read.Option (ℕ × ℕ × ℕ) → Option Record
record_told step None = none
record_told step (Some p) = some (step_record (step p.0 p.1))

module _ (step : ℕ → ℕ → Step) where
  abbrev made : ℕ × ℕ → Record
  made p = step_record (step p.0 p.1)

  last : (p : ℕ × ℕ) (rest : List Bytes) → ended rest (made p) ≡ map made (ended rest p)
  unfolding ended
  last p [] = refl
  last p (field ∷ rest) = refl

  second : (a : ℕ) (o : Option (Read ℕ)) → (o >>= λ b. ended b.rest (made (a, b.value))) ≡ map made (o >>= λ b. ended b.rest (a, b.value))
  second a none = refl
  second a (some b) = last (a, b.value) b.rest

  two_numbers : (fs : List Bytes) → two_numbers_of step fs ≡ map made (pair_of fs)
  unfolding two_numbers_of pair_of
  two_numbers fs = first (next number_of fs)
    where
      first : (o : Option (Read ℕ)) → (o >>= λ a. next number_of a.rest >>= λ b. ended b.rest (made (a.value, b.value)))
          ≡ map made (o >>= λ a. next number_of a.rest >>= λ b. ended b.rest (a.value, b.value))
      first none = refl
      first (some a) = second a.value (next number_of a.rest)

  -- the pair at a place is what document 01 reads of a line's fields there
  pub pair_record : (s : Bytes) (at : ℕ) → two_numbers_of step (fields (line_at s at)) ≡ record_told step (pair_at s at)
  unfolding pair_at pair_told
  pair_record s at = two_numbers (fields (line_at s at)) ∙ told (pair_of (fields (line_at s at)))
    where
      told : (o : Option (ℕ × ℕ)) → map made o ≡ record_told step (pair_told (line_end s at) o)
      told none = refl
      told (some p) = refl
