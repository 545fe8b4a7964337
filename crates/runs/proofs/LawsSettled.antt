-- The settled blocks through a visit: the block that is visited is settled, and each successor to which something new
-- comes is not. So the settled blocks have passed their states on, but for what the visit has still to pass on.
use mathlib.Core.Path.{◌≡◌, refl, sym, ap, subst, ◌∙◌}
use mathlib.Core.Bool.{Bool, true, false, cond}
use mathlib.Core.List.{List, [], ◌∷◌}
use mathlib.Core.Option.{Option, none, some}
use Prim.Native.Nat.{ℕ, zero, suc}
use lib.ListN.{get_or, set, replicate}
use lib.Seq.{get_or-set_other}
use Rattle.paper.specs.Sheet.{Sheet}
use Rattle.paper.specs.Cells.{pick}
use Rattle.paper.specs.Steps.{State}
use Rattle.paper.specs.Runs.{Flow, Run, store, push_at, push, meet_states, state_same, flow}
use Rattle.paper.specs.Walks.{Below}
use Rattle.paper.specs.declared.Rule.{Rule}
use Rattle.walks.specs.Choices.{some_inj, some_not_none}
use Rattle.walks.specs.Passing.{PassedOn, Passing, below_left, below_right, store_passing, skip_passing, visit_passing}
use Rattle.walks.specs.Effects.{states_idem, meet_laws}
use Rattle.tables.specs.Table.{arrives, Came}
use Rattle.runs.specs.Settled.{Settled, unsettled, Unsettled}

not_both : {x : Bool} → x ≡ false → x ≡ true → ⊥
not_both p q = cc

-- no block is settled
none_there : (n b : ℕ) → ◌≡◌ {A = Bool} (get_or (replicate n false) b false) false
none_there zero b = refl
none_there (suc n) zero = refl
none_there (suc n) (suc b) = none_there n b

pub none_settled : (n : ℕ) (F : Flow State) (table : ℕ → Option State) → PassedOn F (Settled (replicate n false)) table
none_settled n F table = record { closed = λ b a e q. absurd (not_both (none_there n b) q) }

-- block s is settled no more, and each other block as before
cleared_there : (l : List Bool) (s : ℕ) → get_or (set l s false) s false ≡ false
cleared_there [] s = refl
cleared_there (x ∷ l) zero = refl
cleared_there (x ∷ l) (suc s) = cleared_there l s

not_cleared : (settled : List Bool) (s b : ℕ) → Settled (set settled s false) b → ¬ (b ≡ s)
not_cleared settled s b q p = not_both (cleared_there settled s) (ap (λ (k : ℕ). get_or (set settled s false) k false) (sym p) ∙ q)

still_settled : (settled : List Bool) (s : ℕ) (v : Bool) (b : ℕ) → ¬ (b ≡ s) → Settled (set settled s v) b → Settled settled b
still_settled settled s v b n q = sym (get_or-set_other settled s b v false n) ∙ q

module _ (rule : Rule) (S : Sheet) where
  abbrev F : Flow State
  F = flow rule S

  -- a result comes to block s
  pub push_passing : (s : ℕ) (x : State) (ss : List ℕ) (settled : List Bool) (r : Run State) → Passing F (Settled settled) x (s ∷ ss) r.table
      → Passing F (Settled (unsettled (arrives rule (r.table s) x) s settled)) x ss (push F s x r).table
  unfolding push push_at store arrives unsettled flow
  push_passing s x ss settled r g = at (r.table s) refl
    where
      stored : (y : State) → ((a : State) → r.table s ≡ some a → Below F y a) → Below F y x → Passing F (Settled (set settled s false)) x ss (store F s y r).table
      stored y low yx =
          store_passing F (meet_laws rule S) r.table s y low x ss yx (λ b q. not_cleared settled s b q)
          (λ b q. still_settled settled s false b (not_cleared settled s b q) q) g

      met : (a : State) → r.table s ≡ some a → (d : Dec (meet_states rule a x ≡ a))
          → Passing F (Settled (cond (pick d false true) (set settled s false) settled)) x ss (pick d r (store F s (meet_states rule a x) r)).table
      met a e (yes l) = skip_passing F r.table x s ss a e l g
      met a e (no n) =
          stored (meet_states rule a x) (λ c h. subst (Below F (meet_states rule a x)) (some_inj e h) (below_left F (meet_laws rule S) a x))
          (below_right F (meet_laws rule S) a x)

      at : (o : Option State) → r.table s ≡ o → Passing F (Settled (cond (arrives rule o x) (set settled s false) settled)) x ss (push_at F o s x r).table
      at none e = stored x (λ c h. absurd (some_not_none e h)) (states_idem rule x)
      at (some a) e = met a e (state_same (meet_states rule a x) a)

  -- block b is visited
  pub passing_first : (b : ℕ) (a : State) (settled : List Bool) (table : ℕ → Option State) → table b ≡ some a → PassedOn F (Settled settled) table
      → Passing F (Settled (set settled b true)) (F.result b a) (F.succs b) table
  passing_first b a settled table e g = visit_passing F table b a e (F.succs b) (λ s i. i) (λ c n q. still_settled settled b true c n q) g

-- a state that came unsettles its block where it is new
pub unsettled_came : {rule : Rule} {b : ℕ} {s : List (List ℕ)} {words words' queue : List ℕ} {settled settled' : List Bool} {new : Bool} → Came rule b s words words' new
    → settled' ≡ unsettled new b settled → Unsettled rule words queue b s settled settled'
unsettled_came {b = b} {settled = settled} came e = record { is = λ S r h. e ∙ ap (λ (x : Bool). unsettled x b settled) (came.is_new S r.table h.tables) }
