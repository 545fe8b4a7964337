-- How far reading has come, what one line does to the loaded words, and what loading a sheet promises.
use Rattle.std.specs.Prelude.{◌≡◌, List, ℕ, ◌+◌, ◌-◌, ◌≤◌, ◌<◌, eqb, leb, length, get_or, Ok, Err}
use Rattle.std.specs.declared.result.Result.{Result}
use Rattle.std.proofs.Math.Option.{Option, some}
use Rattle.paper.specs.Text.{Bytes, line_feed, fields}
use Rattle.paper.specs.Sheet.{Sheet}
use Rattle.paper.specs.Limits.{max_steps, max_sheet}
use Rattle.paper.specs.Refusals.{Record, field_of, Reading, loaded, refused, good, bad, read_record, read}
use Rattle.paper.specs.declared.Refusal.{Refusal}
use Rattle.paper.specs.Refusals as paper
use Rattle.layout.specs.Layout.{opened_word, steps_word}
use Rattle.fields.specs.Fields.{line_at, line_end}
use Rattle.records.specs.Records.{Counted}
use Rattle.records.specs.declared.Place.{Place}
use Rattle.records.specs.declared.Breach.{Breach}
use Rattle.loaded.specs.declared.Counts.{Counts}
use Rattle.loaded.specs.declared.CopyKind.{CopyKind}
use Rattle.loaded.specs.declared.CopyKind.TheVariants.{Spill, Reload, Move}
use Rattle.loaded.specs.Filling.{Blank, Begun}
use Rattle.loaded.specs.Loaded.{sheet_of, so_far, counts_of, Loaded}
use Rattle.sheet.specs.declared.CopyLimits.{CopyLimits}

-- what `no_text` lets pass
pub record SheetText (sheet : Bytes) : Type 0 where
  pub some_bytes : 0 < length sheet
  pub size : length sheet ≤ max_sheet
  pub last : get_or sheet (length sheet - 1) 0 ≡ line_feed

-- how far reading has come

pub data Progress (words : List ℕ) : Type 0 where
  blank : Blank words → Progress words
  begun : Begun words → Progress words

-- a step is out of place before the first block, and one too many behind the last that there is room for
abbrev pub step_place : List ℕ → Place
step_place words = record { misplaced = eqb (get_or words opened_word 0) 0; surplus = leb max_steps (get_or words steps_word 0) }

-- what the two numbers of a copy are held against
unfoldable pub limits_of : CopyKind → Counts → CopyLimits
limits_of Spill counts = record { into = counts.slots; from = counts.regs }
limits_of Reload counts = record { into = counts.regs; from = counts.slots }
limits_of Move counts = record { into = counts.regs; from = counts.regs }

-- one line

-- a good line comes with the place of the next one
unfoldable pub lined_of : ℕ → paper.Lined → Result ℕ Breach
lined_of next (good S) = Ok next
lined_of next (bad number) = Err (record { number = number })

-- behind a good line the words hold the sheet that it makes; a bad one leaves them
pub record GoodLine (sheet : Bytes) (at : ℕ) (words : List ℕ) (S : Sheet) : Type 0 where
  pub inside : line_end sheet at < length sheet
  pub sheet_so_far : so_far words ≡ some S
  pub progress : Progress words

-- the line that ends behind `at` was read as `read`
pub record LineRead (read : Option Record) (sheet : Bytes) (at : ℕ) (before after : List ℕ) (r : Result ℕ Breach) : Type 0 where
  pub answer : r ≡ lined_of (line_end sheet at + 1) (read_record (so_far before) read)
  pub same_length : length after ≡ length before
  pub good_line : (S : Sheet) → read_record (so_far before) read ≡ good S → GoodLine sheet at after S
  pub bad_line : (number : ℕ) → read_record (so_far before) read ≡ bad number → after ≡ before

-- what is told of a bad line, beside the sheet whose counts are in the words
pub record BadLine (sheet : Bytes) (at : ℕ) (words : List ℕ) (breach : Breach) (line : ℕ) (r : Refusal) : Type 0 where
  pub number_is : r.number ≡ breach.number
  pub line_is : r.line ≡ line
  pub field_is : (S : Sheet) → Counted S (counts_of words) → r.field ≡ field_of breach.number S (fields (line_at sheet at))

-- a sheet

unfoldable pub loading_of : Reading → Result (Unit {0}) Refusal
loading_of (loaded S) = Ok tt
loading_of (refused refusal) = Err refusal

-- what loading promises, whatever the words held before. A refusal's words may be anything.
pub record Load (sheet : Bytes) (before after : List ℕ) (r : Result (Unit {0}) Refusal) : Type 0 where
  pub answer : r ≡ loading_of (read sheet)
  pub same_length : length after ≡ length before
  pub meaning : (S : Sheet) → read sheet ≡ loaded S → (sheet_of after ≡ S) × Loaded after
