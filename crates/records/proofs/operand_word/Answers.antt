-- `records::operand_word` meets its contract: each part is stated by its function; the most, 63 * 1024 + 512 + 511, fits 16 bits.
use native.Mathlib.Omega.{arith}
use Rattle.records.specs.Parts.{word}
use Rattle.records.proofs.LawsWords.{mark_most}
use Rattle.records.proofs.operand_word.Goals as goal

pub overflow_add-result : goal.overflow_add-result
overflow_add-result c =
    omega (arith, c.mark_word.ensures, c.register_word.ensures, mark_most c.args.typed.now c.args.operand.name, c.requires.1.register_small)

pub overflow_add-result-2 : goal.overflow_add-result-2
overflow_add-result-2 c =
    omega (arith, c.name_word.ensures, c.mark_word.ensures, c.register_word.ensures, mark_most c.args.typed.now c.args.operand.name, c.requires.1.register_small, c.requires.1.name_small)

pub returns : goal.returns
unfolding word
returns c = rw (c.name_word.ensures, c.mark_word.ensures, c.register_word.ensures)
