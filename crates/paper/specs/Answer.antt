-- Document 01: what is answered to any bytes, and what the lent buffers hold afterwards. "Refusal 1 changes nothing. Any other
-- answer leaves the scratch all zero. A refusal leaves the report as it was; otherwise the report text stands at its start and
-- later bytes keep their values."
use Rattle.std.specs.Prelude.{Bool, cond, ◌||◌, List, [], ◌∷◌, ◌++◌, ℕ, ltb, length, drop, replicate}
use Prim.Native.Char.{code}
use Rattle.paper.specs.Text.{Bytes, digits}
use Rattle.paper.specs.Limits.{report_size, words_size, queue_size}
use Rattle.paper.specs.Refusals.{Reading, loaded, refused, read}
use Rattle.paper.specs.Report.{Line, Entry, behind_tabs, entries, faults_in, report_text}
use Rattle.paper.specs.declared.Rule.{Rule}
use Rattle.paper.specs.declared.Refusal.{Refusal}
use Rattle.paper.specs.declared.Answer.{Answer}
use Rattle.paper.specs.declared.Answer.TheVariants.{Accepted, Faulty, Refused}

-- one of three answers: "Accepted and faulty come with the report's length", here with its bytes; refused with its number, line and field
pub data Said : Type 0 where
  accepted : (text : Bytes) → Said
  faulty : (text : Bytes) → Said
  turned_away : Refusal → Said

-- accepted where there is no fault, else faulty
unfoldable pub said_by : List Line → Bytes → Said
said_by [] text = accepted text
said_by (l ∷ ls) text = faulty text

unfoldable pub said_of : Rule → List Entry → Said
said_of rule es = said_by (faults_in es) (report_text rule es)

unfoldable pub said_after : Rule → Reading → Said
said_after rule (refused refusal) = turned_away refusal
said_after rule (loaded S) = said_of rule (entries rule S)

-- the answer to a sheet where the lent buffers are large enough
unfoldable pub answer : Rule → Bytes → Said
answer rule sheet = said_after rule (read sheet)

-- what a program writes: the report, or `X number line field`
abbrev pub letter_X : ℕ
letter_X = code "X"

unfoldable pub written : Said → Bytes
written (accepted text) = text
written (faulty text) = text
written (turned_away refusal) = letter_X ∷ behind_tabs (digits refusal.number ∷ digits refusal.line ∷ digits refusal.field ∷ [])

-- the buffers that are lent to a call
pub record Lent : Type 0 where
  pub report : List ℕ
  pub words : List ℕ
  pub queue : List ℕ

-- 1: the report shorter than its size, "or a scratch buffer shorter than its published size"; `size` is the report's
unfoldable pub too_short : (size : ℕ) → Lent → Bool
too_short size lent = ltb (length lent.report) size || (ltb (length lent.words) words_size || ltb (length lent.queue) queue_size)

-- a text at the start of a buffer, "and later bytes keep their values"
unfoldable pub laid : Bytes → List ℕ → List ℕ
laid text buffer = text ++ drop (length text) buffer

unfoldable pub zeros : List ℕ → List ℕ
zeros buffer = replicate (length buffer) 0

-- the answer as it is returned
unfoldable pub answer_of : Said → Answer
answer_of (accepted text) = Accepted (length text)
answer_of (faulty text) = Faulty (length text)
answer_of (turned_away refusal) = Refused refusal

-- "A refusal leaves the report as it was; otherwise the report text stands at its start"
unfoldable pub report_of : Said → List ℕ → List ℕ
report_of (accepted text) report = laid text report
report_of (faulty text) report = laid text report
report_of (turned_away refusal) report = report

-- the answer that is returned, and the buffers afterwards
pub record Outcome : Type 0 where
  pub answer : Answer
  pub lent : Lent

-- "Any other answer leaves the scratch all zero"
unfoldable pub outcome_of : Said → Lent → Outcome
outcome_of said lent =
    record { answer = answer_of said; lent = record { report = report_of said lent.report; words = zeros lent.words; queue = zeros lent.queue } }

-- "First 1"; "Refusal 1 changes nothing"
unfoldable pub outcome : Rule → Bytes → Lent → Outcome
outcome rule sheet lent = cond (too_short report_size lent) (record { answer = Refused (record { number = 1; line = 0; field = 0 }); lent = lent }) (outcome_of (answer rule sheet) lent)
