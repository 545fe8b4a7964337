-- The sheet is all that was read of the input, and what is said of it is all that was written.
use Rattle.std.proofs.Common.{◌≡◌, ◌≤◌, ◌<◌, rules, arith, take, length, subst, length-take-le}
use Rattle.std.specs.Io.KnownBytes.{Appends, IsAtEnd}
use Rattle.paper.specs.Text.{Bytes}
use Rattle.paper.specs.Answer.{answer, written}
use Rattle.paper.specs.declared.Rule.TheVariants as rule
use Rattle.regcheck.proofs.Laws.{none_left, sheet_is, stated_text, on_ok_as}
use Rattle.regcheck.proofs.answer.Goals as goal

pub returns : goal.returns
returns g c =
    let read = c.read_sheet-read in
    let sheet : Bytes = take read.result.count read.new.room in
    let size : length sheet ≡ read.result.count = length-take-le _ _ read.ensures.within in
    let short : length sheet ≤ 65537 = omega (arith, size, read.auto.room, read.ensures.within) in
    let end : length sheet < 65537 → IsAtEnd (g.R.Read.remaining read.new.input) = λ h. read.ensures.whole (none_left read.result.failure c.in_default.not-Some) (omega (arith, h, size, read.auto.room)) in
    let said = stated_text _ _ _ _ _ (search rules) (search rules) (search rules) c.answer_text-length.ensures in
    let held = g.W.Write.contents c.args.output.now in
    let holds = g.W.Write.contents c.write_all.new.self in
    on_ok_as c.write_all.result c.map_err.result c.map_err.ensures.variant
    (λ p. sheet_is (g.R.Read.remaining c.args.input.now) (g.R.Read.remaining read.new.input) sheet 65537 (λ bytes. Appends held holds (written (answer rule.House bytes)))
    read.ensures.taken short end (subst (Appends held holds) said p))
    c.write_all.ensures.bytes
