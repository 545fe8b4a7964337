-- Blocks that have passed on what they make of their state, over any problem whose meet is associative, commutative and idempotent;
-- no block's effect need distribute. Visits keep them so, and a state that was passed on changes nothing when it comes again.
use Rattle.std.specs.Prelude.{◌≡◌, ◌⊎◌, ℕ}
use Rattle.std.proofs.Math.Path.{refl, ap}
use Rattle.std.proofs.Common.{sym, ◌∙◌, subst, inl, inr}
use mathlib.Core.List.{List, [], ◌∷◌}
use Rattle.std.proofs.Math.Option.{Option, some}
use Rattle.std.proofs.Math.Decide.{ℕ_discrete}
use Rattle.paper.specs.Runs.{Flow, Run, update, push_at, push, spread}
use Rattle.paper.specs.Walks.{In, here, there, Below}
use Rattle.walks.specs.Choices.{pick_yes, some_inj, in_nil, update_same, update_other}

-- what the meet has to obey
pub record Semilattice {A : Type 0} (F : Flow A) : Type 0 where
  pub assoc : (x y z : A) → F.meet (F.meet x y) z ≡ F.meet x (F.meet y z)
  pub comm : (x y : A) → F.meet x y ≡ F.meet y x
  pub idem : (x : A) → F.meet x x ≡ x

-- block s has a state, and it is at or below x
pub record Covered {A : Type 0} (F : Flow A) (table : ℕ → Option A) (s : ℕ) (x : A) : Type 0 where
  pub state : A
  pub holds : table s ≡ some state
  pub under : Below F state x

-- each block that is done has passed its state on
pub record PassedOn {A : Type 0} (F : Flow A) (Done : ℕ → Type 0) (table : ℕ → Option A) : Type 0 where
  pub closed : (b : ℕ) (a : A) → table b ≡ some a → Done b → (s : ℕ) → In s (F.succs b) → Covered F table s (F.result b a)

-- in the middle of a visit: it has, or what it makes of its state is x, which has still to be passed on to the pending blocks
pub record Passing {A : Type 0} (F : Flow A) (Done : ℕ → Type 0) (x : A) (pending : List ℕ) (table : ℕ → Option A) : Type 0 where
  pub closed : (b : ℕ) (a : A) → table b ≡ some a → Done b → (s : ℕ) → In s (F.succs b)
      → Covered F table s (F.result b a) ⊎ (In s pending × (F.result b a ≡ x))

module _ {A : Type 0} (F : Flow A) (M : Semilattice F) where
  pub below_trans : {x y z : A} → Below F x y → Below F y z → Below F x z
  below_trans {x} {y} {z} p q = cc (M.assoc x y z)

  pub below_left : (x y : A) → Below F (F.meet x y) x
  below_left x y = cc (M.assoc x y x, M.comm y x, M.assoc x x y, M.idem x)

  pub below_right : (x y : A) → Below F (F.meet x y) y
  below_right x y = cc (M.assoc x y y, M.idem y)

  -- storing y at s, where it is at or below what stood there
  module _ (table : ℕ → Option A) (s : ℕ) (y : A) (low : (a : A) → table s ≡ some a → Below F y a) where
    pub covered_update : (c : ℕ) (x : A) → Covered F table c x → Covered F (update table s y) c x
    covered_update c x v = go (ℕ_discrete c s)
      where
        go : Dec (c ≡ s) → Covered F (update table s y) c x
        go (yes p) = record { state = y; holds = ap (update table s y) p ∙ update_same table s y; under = below_trans (low v.state (ap table (sym p) ∙ v.holds)) v.under }
        go (no n) = record { state = v.state; holds = update_other table s y c n ∙ v.holds; under = v.under }

    -- s is not done from then on
    pub store_passing : {Done Left : ℕ → Type 0} (x : A) (ss : List ℕ) → Below F y x → ((b : ℕ) → Left b → ¬ (b ≡ s)) → ((b : ℕ) → Left b → Done b)
        → Passing F Done x (s ∷ ss) table → Passing F Left x ss (update table s y)
    store_passing {Done} {Left} x ss yx ns done g = record { closed = closed }
      where
        t' : ℕ → Option A
        t' = update table s y

        closed : (b : ℕ) (a : A) → t' b ≡ some a → Left b → (c : ℕ) → In c (F.succs b) → Covered F t' c (F.result b a) ⊎ (In c ss × (F.result b a ≡ x))
        closed b a e l c i = go (g.closed b a (sym (update_other table s y b (ns b l)) ∙ e) (done b l) c i)
          where
            go : Covered F table c (F.result b a) ⊎ (In c (s ∷ ss) × (F.result b a ≡ x)) → Covered F t' c (F.result b a) ⊎ (In c ss × (F.result b a ≡ x))
            go (inl v) = inl (covered_update c (F.result b a) v)
            go (inr (here p, h)) = inl (record { state = y; holds = ap t' p ∙ update_same table s y; under = subst (Below F y) (sym h) yx })
            go (inr (there m, h)) = inr (m, h)

module _ {A : Type 0} (F : Flow A) (table : ℕ → Option A) where
  -- block b is visited: what it makes of its state is to be passed on to ss, where its successors are
  pub visit_passing : {Done Left : ℕ → Type 0} (b : ℕ) (a : A) → table b ≡ some a → (ss : List ℕ) → ((s : ℕ) → In s (F.succs b) → In s ss) → ((c : ℕ) → ¬ (c ≡ b) → Left c → Done c)
      → PassedOn F Done table → Passing F Left (F.result b a) ss table
  visit_passing {Left = Left} b a h ss all done g = record { closed = closed }
    where
      closed : (c : ℕ) (d : A) → table c ≡ some d → Left c → (s : ℕ) → In s (F.succs c) → Covered F table s (F.result c d) ⊎ (In s ss × (F.result c d ≡ F.result b a))
      closed c d k l s i = go (ℕ_discrete c b)
        where
          go : Dec (c ≡ b) → Covered F table s (F.result c d) ⊎ (In s ss × (F.result c d ≡ F.result b a))
          go (yes p) = inr (all s (subst (λ (e : ℕ). In s (F.succs e)) p i), cc (some_inj h (ap table (sym p) ∙ k)))
          go (no n) = inl (g.closed c d k (done c n l) s i)

  module _ {Done : ℕ → Type 0} (x : A) where
    -- x is at or above what block s holds
    pub skip_passing : (s : ℕ) (ss : List ℕ) (a : A) → table s ≡ some a → Below F a x → Passing F Done x (s ∷ ss) table → Passing F Done x ss table
    skip_passing s ss a e l g = record { closed = λ b d k q c i. go (g.closed b d k q c i) }
      where
        go : {c : ℕ} {z : A} → Covered F table c z ⊎ (In c (s ∷ ss) × (z ≡ x)) → Covered F table c z ⊎ (In c ss × (z ≡ x))
        go (inl v) = inl v
        go (inr (here p, h)) = inl (record { state = a; holds = ap table p ∙ e; under = subst (Below F a) (sym h) l })
        go (inr (there m, h)) = inr (m, h)

    -- nothing is pending
    pub passing_done : Passing F Done x [] table → PassedOn F Done table
    passing_done g = record { closed = λ b a e q s i. go (g.closed b a e q s i) }
      where
        go : {s : ℕ} {z : A} → Covered F table s z ⊎ (In s [] × (z ≡ x)) → Covered F table s z
        go (inl v) = v
        go (inr p) = absurd (in_nil p.0)

-- what is covered changes nothing
module _ {A : Type 0} (F : Flow A) (x : A) (r : Run A) where
  push_covered : (s : ℕ) → Covered F r.table s x → push F s x r ≡ r
  unfolding push push_at
  push_covered s v = ap (λ (o : Option A). push_at F o s x r) v.holds ∙ pick_yes (F.same (F.meet v.state x) v.state) r _ v.under

  pub spread_covered : (ss : List ℕ) → ((s : ℕ) → In s ss → Covered F r.table s x) → spread F ss x r ≡ r
  unfolding spread
  spread_covered [] h = refl
  spread_covered (s ∷ ss) h = ap (spread F ss x) (push_covered s (h s (here refl))) ∙ spread_covered ss (λ t i. h t (there i))
