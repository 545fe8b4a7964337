-- What a call leaves behind, against the paper's `outcome`: the answer and the three lent buffers in one equation.
use Rattle.std.specs.Prelude.{◌≡◌, cond, List, ℕ, zero, suc, ◌+◌, ◌≤◌, length}
use Rattle.paper.specs.Text.{Bytes}
use Rattle.paper.specs.Limits.{report_size, max_sheet, max_steps}
use Rattle.paper.specs.Refusals.{step_count}
use Rattle.paper.specs.Answer.{Said, turned_away, written, Lent, too_short, laid, zeros, answer_of, report_of, Outcome, outcome}
use Rattle.loaded.specs.Loaded.{sheet_of}
use Rattle.paper.specs.declared.Rule.{Rule}
use Rattle.paper.specs.declared.Rule.TheVariants.{Old, House}
use Rattle.paper.specs.declared.Refusal.{Refusal}
use Rattle.paper.specs.declared.Answer.{Answer}
use Rattle.paper.specs.declared.Answer.TheVariants.{Accepted, Faulty, Refused}
use Rattle.checker.specs.declared.Verdict.{Verdict}

-- the sheet in the words has at most 1,024 steps
abbrev pub Few : List ℕ → Type 0
Few words = step_count (sheet_of words).body ≤ max_steps

-- `X number line field`
unfoldable pub refusal_text : Refusal → Bytes
refusal_text refusal = written (turned_away refusal)

abbrev pub lent : List ℕ → List ℕ → List ℕ → Lent
lent report words queue = record { report = report; words = words; queue = queue }

-- the numbers of a refusal and of an answer keep their bounds
abbrev pub RefusalWithin : Refusal → Type 0
RefusalWithin refusal = (refusal.number ≤ 9) × (refusal.line ≤ max_sheet + 1) × (refusal.field ≤ max_sheet + 2)

abbrev pub AnswerWithin : Answer → Type 0
AnswerWithin (Accepted n) = n ≤ report_size
AnswerWithin (Faulty n) = n ≤ report_size
AnswerWithin (Refused refusal) = RefusalWithin refusal

-- what is said of a sheet was answered, and stands in the report; the scratch keeps its lengths
pub record Answered (said : Said) (report words queue report' words' queue' : List ℕ) (r : Answer) : Type 0 where
  pub answer_is : r ≡ answer_of said
  pub report_is : report' ≡ report_of said report
  pub same_words : length words' ≡ length words
  pub same_queue : length queue' ≡ length queue
  pub within : AnswerWithin r

-- the whole of a call
pub record Checked (rule : Rule) (sheet : Bytes) (before after : Lent) (r : Answer) : Type 0 where
  pub whole : ◌≡◌ {A = Outcome} (record { answer = r; lent = after }) (outcome rule sheet before)
  pub within : AnswerWithin r

-- of a call that leaves a text: the length that is returned, and the lent buffers afterwards
pub record TextOutcome : Type 0 where
  pub text_length : ℕ
  pub buffers : Lent

-- `size` is what refusal 1 asks of the first buffer. It changes nothing, and the length is 0; else the text stands at that buffer's
-- start, later bytes keep their values, and the scratch is all zero
unfoldable pub text_outcome : (size : ℕ) → Bytes → Lent → TextOutcome
text_outcome size text before =
    cond (too_short size before) (record { text_length = 0; buffers = before })
    (record { text_length = length text; buffers = record { report = laid text before.report; words = zeros before.words; queue = zeros before.queue } })

-- the whole of a call that leaves a text
pub record Stated (size : ℕ) (text : Bytes) (before after : Lent) (r : ℕ) : Type 0 where
  pub whole : ◌≡◌ {A = TextOutcome} (record { text_length = r; buffers = after }) (text_outcome size text before)
  pub fits : r ≤ length after.report

-- over the C interface: 0 accepted, 1 faulty, 2 refused; the report's length; the refusal's number, line and field
unfoldable pub verdict_of : Answer → Verdict
verdict_of (Accepted n) = record { answer = 0; number = 0; length = n; line = 0; field = 0 }
verdict_of (Faulty n) = record { answer = 1; number = 0; length = n; line = 0; field = 0 }
verdict_of (Refused refusal) = record { answer = 2; number = refusal.number; length = 0; line = refusal.line; field = refusal.field }

-- the rule by its number over the C interface: 0 alone is the old rule
unfoldable pub rule_of : ℕ → Rule
rule_of zero = Old
rule_of (suc n) = House

pub record Exported (rule : ℕ) (sheet : Bytes) (before after : Lent) (r : Verdict) : Type 0 where
  pub verdict_is : r ≡ verdict_of (outcome (rule_of rule) sheet before).answer
  pub lent_is : after ≡ (outcome (rule_of rule) sheet before).lent
