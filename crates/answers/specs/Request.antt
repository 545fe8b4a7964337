-- A request is the letter of a rule, in upper case for a sealed report, and a sheet; what it is answered with.
use Rattle.std.specs.Prelude.{◌≡◌, [], ◌∷◌, cond, ℕ, ◌≤◌, eqb, length, Option, None, Some, IfSome}
use Rattle.paper.specs.Text.{Bytes}
use Rattle.paper.specs.Limits.{report_size, sealed_size}
use Rattle.paper.specs.Answer.{Lent, answer, written}
use Rattle.paper.specs.Seal.{sealed_said}
use Rattle.paper.specs.declared.Rule.TheVariants as rule
use Rattle.checker.specs.Checked.{TextOutcome, text_outcome}
use Rattle.answers.specs.declared.Asked.{Asked}
use Rattle.answers.specs.declared.Asked.TheVariants.{For, Sealed}

abbrev pub letter_h : ℕ
letter_h = 104

abbrev pub letter_o : ℕ
letter_o = 111

abbrev pub letter_H : ℕ
letter_H = 72

abbrev pub letter_O : ℕ
letter_O = 79

-- the rule that a letter asks for, with or without a seal
unfoldable pub rule_asked : ℕ → Option Asked
rule_asked letter =
    cond (eqb letter letter_h) (Some (For rule.House))
    (cond (eqb letter letter_o) (Some (For rule.Old))
    (cond (eqb letter letter_H) (Some (Sealed rule.House)) (cond (eqb letter letter_O) (Some (Sealed rule.Old)) None)))

pub record ReplyOutcome : Type 0 where
  pub reply : Option ℕ
  pub buffers : Lent

abbrev pub texted : TextOutcome → ReplyOutcome
texted t = record { reply = Some t.text_length; buffers = t.buffers }

-- under a rule the text is the answer to the sheet; where none is asked for nothing changes
unfoldable pub reply_under : Option Asked → Bytes → Lent → ReplyOutcome
reply_under (Some (For rule)) sheet before = texted (text_outcome report_size (written (answer rule sheet)) before)
reply_under (Some (Sealed rule)) sheet before = texted (text_outcome sealed_size (written (sealed_said (answer rule sheet))) before)
reply_under None sheet before = record { reply = None; buffers = before }

-- the first byte asks for the rule, and the sheet is what stands behind it
unfoldable pub reply_outcome : Bytes → Lent → ReplyOutcome
reply_outcome [] before = record { reply = None; buffers = before }
reply_outcome (letter ∷ sheet) before = reply_under (rule_asked letter) sheet before

-- the whole of an answer to a request
pub record Replied (request : Bytes) (before after : Lent) (r : Option ℕ) : Type 0 where
  pub whole : ◌≡◌ {A = ReplyOutcome} (record { reply = r; buffers = after }) (reply_outcome request before)
  pub fits : IfSome r (λ n. n ≤ length after.report)
