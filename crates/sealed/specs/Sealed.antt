-- What a sealed call leaves behind, against the paper's `sealed_outcome`: the answer and the three lent buffers in one equation.
use Rattle.std.specs.Prelude.{◌≡◌, List, ℕ, ◌≤◌, length}
use Rattle.paper.specs.Text.{Bytes}
use Rattle.paper.specs.Answer.{Lent, Outcome}
use Rattle.paper.specs.Seal.{sealed_outcome}
use Rattle.paper.specs.declared.Rule.{Rule}
use Rattle.paper.specs.declared.Answer.{Answer}
use Rattle.paper.specs.declared.Answer.TheVariants.{Accepted, Faulty, Refused}
use Rattle.checker.specs.Checked.{verdict_of, rule_of}
use Rattle.checker.specs.declared.Verdict.{Verdict}

-- the text of an answer stands inside the report
abbrev pub AnswerInside : List ℕ → Answer → Type 0
AnswerInside report (Accepted n) = n ≤ length report
AnswerInside report (Faulty n) = n ≤ length report
AnswerInside report (Refused refusal) = Unit {0}

-- the whole of a sealed call
pub record CheckedSealed (rule : Rule) (sheet : Bytes) (before after : Lent) (r : Answer) : Type 0 where
  pub whole : ◌≡◌ {A = Outcome} (record { answer = r; lent = after }) (sealed_outcome rule sheet before)
  pub inside : AnswerInside after.report r

-- the same over the C interface
pub record ExportedSealed (rule : ℕ) (sheet : Bytes) (before after : Lent) (r : Verdict) : Type 0 where
  pub verdict_is : r ≡ verdict_of (sealed_outcome (rule_of rule) sheet before).answer
  pub lent_is : after ≡ (sealed_outcome (rule_of rule) sheet before).lent
