-- What the program writes, where the bytes of its input are known: the house report of the sheet that they are, or its refusal.
use Rattle.std.specs.Prelude.{Option, IfSome, ℕ, take}
use Rattle.std.specs.Io.KnownBytes.{Appends}
use Rattle.paper.specs.Text.{Bytes}
use Rattle.paper.specs.Answer.{answer, written}
use Rattle.paper.specs.declared.Rule.TheVariants as rule

-- one byte more than the longest sheet: what stands behind it is not read, and a sheet that has it is too long
abbrev pub most_read : ℕ
most_read = 65537

abbrev pub AnswersInput : Option Bytes → Option Bytes → Option Bytes → Type 0
AnswersInput input output output' = IfSome input (λ bytes. Appends output output' (written (answer rule.House (take most_read bytes))))
