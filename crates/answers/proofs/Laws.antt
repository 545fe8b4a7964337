-- What a request is answered with, by what the code looks at: its length, its first byte, what stands behind it.
use Rattle.std.proofs.Common.{◌≡◌, refl, ap, sym, ◌∙◌, [], ◌∷◌, ℕ, arith, length, None, Some}
use Rattle.paper.specs.Text.{Bytes}
use Rattle.paper.specs.Limits.{report_size, sealed_size}
use Rattle.paper.specs.Answer.{Lent, answer, written}
use Rattle.paper.specs.Seal.{sealed_said}
use Rattle.paper.specs.declared.Rule.{Rule}
use Rattle.checker.specs.Checked.{Stated}
use Rattle.answers.specs.Request.{rule_asked, texted, reply_under, reply_outcome, Replied}
use Rattle.answers.specs.declared.Asked.TheVariants.{For, Sealed}

-- a request without a byte asks for nothing
pub reply_empty : (request : Bytes) (b : Lent) → length request ≡ 0 → Replied request b b None
unfolding reply_outcome
reply_empty [] b e = record { whole = refl; fits = tt }
reply_empty (x ∷ xs) b e = absurd (omega (arith, e))

module _ (request sheet : Bytes) (letter : ℕ) (parted : request ≡ letter ∷ sheet) where
  under : (b : Lent) → reply_outcome request b ≡ reply_under (rule_asked letter) sheet b
  unfolding reply_outcome
  under b = ap (λ r. reply_outcome r b) parted

  -- its letter asks for no rule
  pub reply_nothing : (b : Lent) → rule_asked letter ≡ None → Replied request b b None
  unfolding reply_under
  reply_nothing b e = record { whole = sym (under b ∙ ap (λ a. reply_under a sheet b) e); fits = tt }

  -- its letter asks for a rule, under which what stands behind it was answered, without a seal or with one
  pub reply_text : (rule : Rule) (b after : Lent) (n : ℕ) → rule_asked letter ≡ Some (For rule)
      → Stated report_size (written (answer rule sheet)) b after n → Replied request b after (Some n)
  unfolding reply_under
  reply_text rule b after n e s = record { whole = ap texted s.whole ∙ sym (under b ∙ ap (λ a. reply_under a sheet b) e); fits = s.fits }

  pub reply_sealed : (rule : Rule) (b after : Lent) (n : ℕ) → rule_asked letter ≡ Some (Sealed rule)
      → Stated sealed_size (written (sealed_said (answer rule sheet))) b after n → Replied request b after (Some n)
  unfolding reply_under
  reply_sealed rule b after n e s = record { whole = ap texted s.whole ∙ sym (under b ∙ ap (λ a. reply_under a sheet b) e); fits = s.fits }
