-- Definitions of `paper` that are spelled anew have the meaning that their old spelling had.
use Rattle.std.specs.Prelude.{◌≡◌, refl, Bool, cond, ◌||◌, [], ◌∷◌, ◌+◌, ◌*◌, ltb, length}
use Rattle.paper.specs.Text.{Bytes}
use Rattle.paper.specs.Limits.{max_steps, report_size, words_size, queue_size}
use Rattle.paper.specs.Report.{letter_s, letter_E, letter_R, rule_text}
use Rattle.paper.specs.Answer.{letter_X, Lent, too_short, answer, outcome_of, outcome}
use Rattle.paper.specs.declared.Rule.{Rule}
use Rattle.paper.specs.declared.Rule.TheVariants.{Old, House}
use Rattle.paper.specs.declared.Answer.TheVariants.{Refused}

-- the longest lines by name, and document 02's figure
report_size_by_figures : report_size ≡ max_steps * 33 + 16 + 128 * 6
report_size_by_figures = refl

report_size_is : report_size ≡ 34576
report_size_is = refl

-- what is published of the scratch: 65,536 bytes of words, and a byte for each visit of the old run at its bound
words_size_is : 2 * words_size ≡ 65536
words_size_is = refl

queue_size_is : queue_size ≡ 32769
queue_size_is = refl

-- letters
letters_as_before : (letter_s ∷ letter_E ∷ letter_R ∷ letter_X ∷ []) ≡ (115 ∷ 69 ∷ 82 ∷ 88 ∷ [])
letters_as_before = refl

old_as_before : rule_text Old ≡ 111 ∷ 108 ∷ 100 ∷ []
unfolding rule_text
old_as_before = refl

house_as_before : rule_text House ≡ 104 ∷ 111 ∷ 117 ∷ 115 ∷ 101 ∷ []
unfolding rule_text
house_as_before = refl

-- refusal 1 over a size
too_short_before : Lent → Bool
too_short_before lent =
    ltb (length lent.report) report_size || (ltb (length lent.words) words_size || ltb (length lent.queue) queue_size)

too_short_as_before : (lent : Lent) → too_short report_size lent ≡ too_short_before lent
unfolding too_short too_short_before
too_short_as_before lent = refl

outcome_as_before : (rule : Rule) (sheet : Bytes) (lent : Lent)
    → outcome rule sheet lent ≡ cond (too_short_before lent) (record { answer = Refused (record { number = 1; line = 0; field = 0 }); lent = lent }) (outcome_of (answer rule sheet) lent)
unfolding outcome too_short too_short_before
outcome_as_before rule sheet lent = refl
