-- A run over any distributive problem ends at the meet over all walks, in whatever order it serves the blocks. The invariant is
-- `Good`: each visited block's state is a finite meet of walks' states, and each visited block that does not wait has passed its
-- state on. At an empty queue that is the greatest state at or below every walk's.
use Rattle.std.specs.Prelude.{◌≡◌, ◌⊎◌}
use Rattle.std.proofs.Math.Path.{refl, ap, subst}
use Rattle.std.proofs.Common.{sym, ◌∙◌, inl, inr}
use mathlib.Core.List.{List, [], ◌∷◌}
use Rattle.std.proofs.Math.Option.{Option, none, some}
use Prim.Native.Nat.{ℕ}
use Rattle.std.proofs.Math.Decide.{ℕ_discrete}
use Rattle.paper.specs.Cells.{pick}
use Rattle.paper.specs.Runs.{Flow, Run, update, store, push_at, push, spread}
use Rattle.paper.specs.Walks.{In, here, there, Walk, start, then, along, Below, MeetOverWalks}
use Rattle.walks.specs.Choices.{some_not_none, some_inj, in_nil, in_left, in_right, update_same, update_other}
use Rattle.walks.specs.Passing.{Semilattice, Covered, PassedOn, Passing, below_trans, below_left, below_right, covered_update, store_passing, skip_passing, visit_passing, passing_done}

-- what the meet and the blocks' effects have to obey
pub record Laws {A : Type 0} (F : Flow A) : Type 0 where
  pub meets : Semilattice F
  pub distributes : (b : ℕ) (x y : A) → F.result b (F.meet x y) ≡ F.meet (F.result b x) (F.result b y)

-- a state made from walks' states by finitely many meets
pub data Meets {A : Type 0} (F : Flow A) (b : ℕ) : A → Type 0 where
  one : {a : A} (w : Walk F b) → along F w ≡ a → Meets F b a
  two : {x y a : A} → Meets F b x → Meets F b y → F.meet x y ≡ a → Meets F b a

pub record Good {A : Type 0} (F : Flow A) (r : Run A) : Type 0 where
  pub rooted : Covered F r.table F.entry F.first
  pub met : (b : ℕ) (a : A) → r.table b ≡ some a → Meets F b a
  pub passed : PassedOn F (λ b. ¬ In b r.queue) r.table

-- in the middle of a visit: x has still to be met into the states of the pending blocks
record Mid {A : Type 0} (F : Flow A) (x : A) (pending : List ℕ) (r : Run A) : Type 0 where
  rooted : Covered F r.table F.entry F.first
  met : (b : ℕ) (a : A) → r.table b ≡ some a → Meets F b a
  passing : Passing F (λ b. ¬ In b r.queue) x pending r.table
  fresh : (s : ℕ) → In s pending → Meets F s x

module _ {A : Type 0} (F : Flow A) (L : Laws F) where
  below_meet : (x y z : A) → Below F x y → Below F x z → Below F x (F.meet y z)
  below_meet x y z p q = cc (L.meets.assoc x y z)

  result_mono : (b : ℕ) (x y : A) → Below F x y → Below F (F.result b x) (F.result b y)
  result_mono b x y p = cc (L.distributes b x y)

  pub meet_unique : (b : ℕ) (x y : A) → MeetOverWalks F b x → MeetOverWalks F b y → x ≡ y
  meet_unique b x y p q = cc (L.meets.comm x y, q.greatest x p.lower, p.greatest y q.lower)

  meets_result : {b : ℕ} {a : A} (s : ℕ) → In s (F.succs b) → Meets F b a → Meets F s (F.result b a)
  unfolding along
  meets_result {b} s m (one w e) = one (then w m) (ap (F.result b) e)
  meets_result {b} {a} s m (two {x} {y} p q e) =
      two (meets_result s m p) (meets_result s m q) (sym (L.distributes b x y) ∙ ap (F.result b) e)

  above_meets : {b : ℕ} {a : A} (x : A) → ((w : Walk F b) → Below F x (along F w)) → Meets F b a → Below F x a
  above_meets x h (one w e) = subst (Below F x) e (h w)
  above_meets x h (two {x = y} {y = z} p q e) = subst (Below F x) e (below_meet x y z (above_meets x h p) (above_meets x h q))

  some_walk : {b : ℕ} {a : A} → Meets F b a → Walk F b
  some_walk (one w e) = w
  some_walk (two p q e) = some_walk p

  -- storing y at s, where it is at or below what stood there
  store_mid : (r : Run A) (s : ℕ) (y : A) → ((a : A) → r.table s ≡ some a → Below F y a) → (x : A) (ss : List ℕ) → Below F y x → Meets F s y → Mid F x (s ∷ ss) r → Mid F x ss (store F s y r)
  unfolding store
  store_mid r s y low x ss yx my g = record {
    rooted = covered_update F L.meets r.table s y low F.entry F.first g.rooted;
    met = met;
    passing = store_passing F L.meets r.table s y low x ss yx (λ b nq p. nq (in_right r.queue (here p))) (λ b nq m. nq (in_left (s ∷ []) m)) g.passing;
    fresh = λ c i. g.fresh c (there i);
  }
    where
      t' : ℕ → Option A
      t' = update r.table s y

      met : (b : ℕ) (a : A) → t' b ≡ some a → Meets F b a
      met b a e = go (ℕ_discrete b s)
        where
          go : Dec (b ≡ s) → Meets F b a
          go (yes p) = subst (λ (c : ℕ). Meets F c a) (sym p) (subst (Meets F s) (some_inj (update_same r.table s y) (ap t' (sym p) ∙ e)) my)
          go (no n) = g.met b a (sym (update_other r.table s y b n) ∙ e)

  push_mid : (s : ℕ) (x : A) (ss : List ℕ) (r : Run A) → Mid F x (s ∷ ss) r → Mid F x ss (push F s x r)
  unfolding push push_at
  push_mid s x ss r g = at (r.table s) refl
    where
      skip : (a : A) → r.table s ≡ some a → Below F a x → Mid F x ss r
      skip a e l = record { rooted = g.rooted; met = g.met; passing = skip_passing F r.table x s ss a e l g.passing; fresh = λ c i. g.fresh c (there i) }

      met : (a : A) → r.table s ≡ some a → (d : Dec (F.meet a x ≡ a)) → Mid F x ss (pick d r (store F s (F.meet a x) r))
      met a e (yes l) = skip a e l
      met a e (no n) =
          store_mid r s (F.meet a x) (λ c h. subst (Below F (F.meet a x)) (some_inj e h) (below_left F L.meets a x)) x ss (below_right F L.meets a x)
          (two (g.met s a e) (g.fresh s (here refl)) refl) g

      at : (o : Option A) → r.table s ≡ o → Mid F x ss (push_at F o s x r)
      at none e = store_mid r s x (λ c h. absurd (some_not_none e h)) x ss (L.meets.idem x) (g.fresh s (here refl)) g
      at (some a) e = met a e (F.same (F.meet a x) a)

  spread_mid : (ss : List ℕ) (x : A) (r : Run A) → Mid F x ss r → Mid F x [] (spread F ss x r)
  unfolding spread
  spread_mid [] x r g = g
  spread_mid (s ∷ ss) x r g = spread_mid ss x (push F s x r) (push_mid s x ss r g)

  mid_good : (x : A) (r : Run A) → Mid F x [] r → Good F r
  mid_good x r g = record { rooted = g.rooted; met = g.met; passed = passing_done F r.table x g.passing }

  -- A visit of any visited block b keeps the invariant: `rest` are the blocks that wait from then on, every one that waited but b
  -- among them, and `ss` are b's successors in any order.
  module _ (r : Run A) (g : Good F r) (b : ℕ) (rest : List ℕ) (wait : (c : ℕ) → In c r.queue → (c ≡ b) ⊎ In c rest) where
    left : (c : ℕ) → ¬ (c ≡ b) → ¬ In c rest → ¬ In c r.queue
    left c n m i = go (wait c i)
      where
        go : (c ≡ b) ⊎ In c rest → ⊥
        go (inl p) = n p
        go (inr j) = m j

    pub visit_good : (a : A) → r.table b ≡ some a → (ss : List ℕ) → ((s : ℕ) → In s (F.succs b) → In s ss) → ((s : ℕ) → In s ss → In s (F.succs b))
        → Good F (spread F ss (F.result b a) (record { table = r.table; queue = rest }))
    visit_good a h ss all only =
        mid_good x (spread F ss x r') (spread_mid ss x r' (record {
          rooted = g.rooted;
          met = g.met;
          passing = visit_passing F r.table b a h ss all left g.passed;
          fresh = λ s i. meets_result s (only s i) (g.met b a h);
        }))
      where
        x : A
        x = F.result b a

        r' : Run A
        r' = record { table = r.table; queue = rest }

    -- an unvisited block may leave the queue
    pub skip_good : r.table b ≡ none → Good F (record { table = r.table; queue = rest })
    skip_good h = record {
      rooted = g.rooted;
      met = g.met;
      passed = record { closed = λ c a k nq. g.passed.closed c a k (left c (λ p. some_not_none h (ap r.table (sym p) ∙ k)) nq) };
    }

  -- the start: the entry alone is visited
  pub start_good : (queue : List ℕ) → In F.entry queue → Good F (record { table = update (λ b. none) F.entry F.first; queue = queue })
  unfolding along
  start_good queue waits = record {
    rooted = record { state = F.first; holds = update_same (λ b. none) F.entry F.first; under = L.meets.idem F.first };
    met = λ b a e. subst (λ (c : ℕ). Meets F c a) (sym (only b a e)) (one start (some_inj (update_same (λ b. none) F.entry F.first) (ap t' (sym (only b a e)) ∙ e)));
    passed = record { closed = λ b a e n s i. absurd (n (subst (λ (c : ℕ). In c queue) (sym (only b a e)) waits)) };
  }
    where
      t' : ℕ → Option A
      t' = update (λ b. none) F.entry F.first

      only : (b : ℕ) (a : A) → t' b ≡ some a → b ≡ F.entry
      only b a e = go (ℕ_discrete b F.entry)
        where
          go : Dec (b ≡ F.entry) → b ≡ F.entry
          go (yes p) = p
          go (no n) = absurd (some_not_none (update_other (λ b. none) F.entry F.first b n) e)

  -- at an empty queue
  module _ (r : Run A) (g : Good F r) (done : r.queue ≡ []) where
    walked : {b : ℕ} (w : Walk F b) → Covered F r.table b (along F w)
    unfolding along
    walked start = g.rooted
    walked (then {b} {s} w m) =
        let v = walked w in
        let u = g.passed.closed b v.state v.holds (λ i. in_nil (subst (In b) done i)) s m in
        record { state = u.state; holds = u.holds; under = below_trans F L.meets u.under (result_mono b v.state (along F w) v.under) }

    pub is_meet : (b : ℕ) (a : A) → r.table b ≡ some a → MeetOverWalks F b a
    is_meet b a e = record { lower = λ w. low w (walked w); greatest = λ x h. above_meets x h (g.met b a e) }
      where
        low : (w : Walk F b) → Covered F r.table b (along F w) → Below F a (along F w)
        low w v = subst (λ (c : A). Below F c (along F w)) (some_inj v.holds e) v.under

    pub reached : (b : ℕ) (a : A) → r.table b ≡ some a → Walk F b
    reached b a e = some_walk (g.met b a e)

    pub unreached : (b : ℕ) → r.table b ≡ none → ¬ Walk F b
    unreached b e w = some_not_none e (walked w).holds
