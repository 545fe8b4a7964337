-- Small facts that every file uses: a decision's two sides, membership in a list, an option's two cases, an updated table.
use Rattle.std.specs.Prelude.{◌≡◌, ◌⊎◌, List, [], ◌∷◌, ◌++◌, ℕ}
use Rattle.std.proofs.Math.Path.{refl}
use Rattle.std.proofs.Common.{sym, ◌∙◌, ap, subst, inl, inr, arith}
use Rattle.std.proofs.Math.Option.{Option, none, some}
use Rattle.std.proofs.Math.Decide.{ℕ_discrete}
use Rattle.paper.specs.Cells.{pick}
use Rattle.paper.specs.Runs.{update}
use Rattle.paper.specs.Walks.{In, here, there}

pub pick_yes : {P B : Type 0} (d : Dec P) (x y : B) → P → pick d x y ≡ x
pick_yes (yes p) x y h = refl
pick_yes (no n) x y h = absurd (n h)

pub pick_no : {P B : Type 0} (d : Dec P) (x y : B) → ¬ P → pick d x y ≡ y
pick_no (yes p) x y h = absurd (h p)
pick_no (no n) x y h = refl

pub some_not_none : {A : Type 0} {a : A} {o : Option A} → o ≡ none → o ≡ some a → ⊥
some_not_none p q = let z : ◌≡◌ {A = ℕ} 0 1 = cc in omega arith

pub some_inj : {A : Type 0} {a b : A} {o : Option A} → o ≡ some a → o ≡ some b → a ≡ b
some_inj p q = cc

module _ {A : Type 0} where
  pub in_nil : {a : A} → In a [] → ⊥
  in_nil i = elim i [ ]

  pub in_left : {a : A} {l : List A} (m : List A) → In a l → In a (l ++ m)
  in_left m (here e) = here e
  in_left m (there i) = there (in_left m i)

  pub in_right : {a : A} (l : List A) {m : List A} → In a m → In a (l ++ m)
  in_right [] i = i
  in_right (x ∷ l) i = there (in_right l i)

  pub in_append : {a : A} (l m : List A) → In a (l ++ m) → In a l ⊎ In a m
  in_append [] m i = inr i
  in_append (y ∷ l) m (here e) = inl (here e)
  in_append {a} (y ∷ l) m (there i) = go (in_append l m i)
    where
      go : In a l ⊎ In a m → In a (y ∷ l) ⊎ In a m
      go (inl j) = inl (there j)
      go (inr j) = inr j

module _ {A : Type 0} (table : ℕ → Option A) (b : ℕ) (a : A) where
  pub update_same : update table b a b ≡ some a
  unfolding update
  update_same = pick_yes (ℕ_discrete b b) (some a) (table b) refl

  pub update_other : (c : ℕ) → ¬ (c ≡ b) → update table b a c ≡ table c
  unfolding update
  update_other c h = pick_no (ℕ_discrete c b) (some a) (table c) h

  -- what holds of all that is in a table holds behind an update, if it holds of what came
  pub update_holds : (P : A → Type 0) → P a → ((c : ℕ) (x : A) → table c ≡ some x → P x) → (c : ℕ) (x : A) → update table b a c ≡ some x → P x
  update_holds P p h c x e = go (ℕ_discrete c b)
    where
      go : Dec (c ≡ b) → P x
      go (yes q) = subst P (some_inj update_same (ap (update table b a) (sym q) ∙ e)) p
      go (no d) = h c x (sym (update_other c d) ∙ e)
