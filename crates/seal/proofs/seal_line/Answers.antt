-- `seal::seal_line` meets its contract: each digit is that of the paper.
use Rattle.seal.proofs.Laws.{line_spelled}
use Rattle.seal.proofs.seal_line.Goals as goal

pub returns : goal.returns
returns c =
    rw (c.hex_digit.ensures, c.hex_digit-2.ensures, c.hex_digit-3.ensures, c.hex_digit-4.ensures)
    (rw (c.hex_digit-5.ensures, c.hex_digit-6.ensures, c.hex_digit-7.ensures, c.hex_digit-8.ensures) (line_spelled _))
