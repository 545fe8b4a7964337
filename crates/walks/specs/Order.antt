-- Runs that serve the blocks in any order, and the run of document 01 as one of them: all that finish hold the same table.
use Rattle.std.specs.Prelude.{◌≡◌, ◌⊎◌}
use Rattle.std.proofs.Math.Path.{refl}
use Rattle.std.proofs.Common.{◌∙◌, subst}
use Rattle.std.proofs.Math.Logic.{inl, inr, ⊎_map}
use mathlib.Core.List.{List, [], ◌∷◌}
use Rattle.std.proofs.Math.Option.{Option, none, some}
use Prim.Native.Nat.{ℕ, suc, zero}
use Rattle.std.proofs.Math.Decide.{ℕ_discrete}
use Rattle.paper.specs.Cells.{pick}
use Rattle.paper.specs.Runs.{Flow, Run, spread, visit_at, step_at, step, run}
use Rattle.paper.specs.Walks.{In, here, there}
use Rattle.walks.specs.Flow.{Laws, Good, visit_good, skip_good, meet_unique, is_meet, reached, unreached}

module _ {A : Type 0} (F : Flow A) where
  -- Runs from r: at each visit any visited block b is served, its successors in any order, repeated or not; `rest` waits from then
  -- on: every block that waited but b, in any order, with whatever else.
  pub data Served (r : Run A) : Run A → Type 0 where
    begun : Served r r
    serve : {r₁ : Run A} (b : ℕ) (a : A) (rest ss : List ℕ) → r₁.table b ≡ some a
        → ((c : ℕ) → In c r₁.queue → (c ≡ b) ⊎ In c rest)
        → ((s : ℕ) → In s (F.succs b) → In s ss) → ((s : ℕ) → In s ss → In s (F.succs b))
        → Served r r₁ → Served r (spread F ss (F.result b a) (record { table = r₁.table; queue = rest }))

  -- the waiting blocks without the first b
  unfoldable pub without : ℕ → List ℕ → List ℕ
  without b [] = []
  without b (c ∷ queue) = pick (ℕ_discrete c b) queue (c ∷ without b queue)

  -- blocks served in a given order
  unfoldable pub in_order : List ℕ → Run A → Run A
  in_order [] r = r
  in_order (b ∷ order) r = in_order order (visit_at F (r.table b) b (record { table = r.table; queue = without b r.queue }))

  module _ (L : Laws F) where
    pub served_good : {r r₁ : Run A} → Good F r → Served r r₁ → Good F r₁
    served_good g begun = g
    served_good g (serve {r₁} b a rest ss h wait all only s) = visit_good F L r₁ (served_good g s) b rest wait a h ss all only

    still_waits : (b c : ℕ) (queue : List ℕ) → In c queue → (c ≡ b) ⊎ In c (without b queue)
    unfolding without
    still_waits b c [] i = elim i [ ]
    still_waits b c (d ∷ queue) i = go (ℕ_discrete d b) i (λ j. still_waits b c queue j)
      where
        go : (e : Dec (d ≡ b)) → In c (d ∷ queue) → (In c queue → (c ≡ b) ⊎ In c (without b queue)) → (c ≡ b) ⊎ In c (pick e queue (d ∷ without b queue))
        go (yes e) (here p) rec = inl (p ∙ e)
        go (yes e) (there j) rec = inr j
        go (no e) (here p) rec = inr (here p)
        go (no e) (there j) rec = ⊎_map (λ q. q) there (rec j)

    -- any visit of any block
    attend_good : (r : Run A) → Good F r → (b : ℕ) (rest : List ℕ) → ((c : ℕ) → In c r.queue → (c ≡ b) ⊎ In c rest)
        → Good F (visit_at F (r.table b) b (record { table = r.table; queue = rest }))
    unfolding visit_at
    attend_good r g b rest wait = visited (r.table b) refl
      where
        visited : (o : Option A) → r.table b ≡ o → Good F (visit_at F o b (record { table = r.table; queue = rest }))
        visited none h = skip_good F L r g b rest wait h
        visited (some x) h = visit_good F L r g b rest wait x h (F.succs b) (λ s i. i) (λ s i. i)

    pub in_order_good : (order : List ℕ) (r : Run A) → Good F r → Good F (in_order order r)
    unfolding in_order
    in_order_good [] r g = g
    in_order_good (b ∷ order) r g = in_order_good order _ (attend_good r g b (without b r.queue) (λ c i. still_waits b c r.queue i))

    step_good : (r : Run A) → Good F r → Good F (step F r)
    unfolding step step_at
    step_good r g = at r.queue refl
      where
        at : (q : List ℕ) → r.queue ≡ q → Good F (step_at F q r)
        at [] e = g
        at (b ∷ q) e = attend_good r g b q (λ c i. go c (subst (In c) e i))
          where
            go : (c : ℕ) → In c (b ∷ q) → (c ≡ b) ⊎ In c q
            go c (here p) = inl p
            go c (there j) = inr j

    pub run_good : (k : ℕ) (r : Run A) → Good F r → Good F (run F k r)
    unfolding run
    run_good zero r g = g
    run_good (suc k) r g = run_good k (step F r) (step_good r g)

    -- two finished runs hold the same table
    pub same_end : (r r₁ : Run A) → Good F r → Good F r₁ → r.queue ≡ [] → r₁.queue ≡ [] → (b : ℕ) → r.table b ≡ r₁.table b
    same_end r r₁ g g₁ e e₁ b = at (r.table b) (r₁.table b) refl refl
      where
        at : (o o₁ : Option A) → r.table b ≡ o → r₁.table b ≡ o₁ → r.table b ≡ r₁.table b
        at none none p q = cc
        at none (some y) p q = absurd (unreached F L r g e b p (reached F L r₁ g₁ e₁ b y q))
        at (some x) none p q = absurd (unreached F L r₁ g₁ e₁ b q (reached F L r g e b x p))
        at (some x) (some y) p q = cc (meet_unique F L b x y (is_meet F L r g e b x p) (is_meet F L r₁ g₁ e₁ b y q))
