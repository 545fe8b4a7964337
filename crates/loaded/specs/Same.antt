-- Steps in words: words that agree where a step stands mean the same step, with the same bounds.
use Rattle.std.specs.Prelude.{◌≡◌, Bool, List, [], ◌∷◌, ◌++◌, map, ℕ, zero, suc, ◌+◌, ◌*◌, ◌≤◌, ◌<◌, length, get_or}
use Rattle.std.proofs.Math.Path.{refl, ap}
use Rattle.std.proofs.Common.{ap₂, add-zero, add-one, arith}
use Rattle.lists.specs.Region.{same_region}
use Rattle.paper.specs.Text.{Name}
use Rattle.paper.specs.Sheet.{Step}
use Rattle.layout.specs.Layout.{step_base, step_words, operand_base, defs_from, operand_words}
use Rattle.loaded.specs.Actions.{operand_of, operands, step_of, action_of, action_at, steps_at, ActionWithin, DefsMarked, Packs, RoomFor}
use Rattle.loaded.specs.declared.Action.{Action}
use Rattle.loaded.specs.declared.Action.TheVariants.{Copy, Change, Operation, Safepoint}

-- the operands of the first n steps are the same
pub record SameOperands (l m : List ℕ) (n : ℕ) : Type 0 where
  pub same_length : length m ≡ length l
  pub words : (i : ℕ) → operand_base ≤ i → i < operand_base + n * operand_words → get_or m i 0 ≡ get_or l i 0

-- the words of the first n steps are the same
pub record SameSteps (l m : List ℕ) (n : ℕ) : Type 0 where
  pub operands : SameOperands l m n
  pub words : (i : ℕ) → step_base ≤ i → i < step_base + n * step_words → get_or m i 0 ≡ get_or l i 0

packs_of : (k tag a b inst x y : ℕ) → a < 64 → b < 64 → Packs k (action_of k tag a b inst x y)
unfolding action_of
packs_of k zero a b inst x y ha hb = (ha, hb)
packs_of k (suc zero) a b inst x y ha hb = (ha, hb)
packs_of k (suc (suc zero)) a b inst x y ha hb = (ha, hb)
packs_of k (suc (suc (suc zero))) a b inst x y ha hb = ha
packs_of k (suc (suc (suc (suc zero)))) a b inst x y ha hb = (refl, ha, hb)
packs_of k (suc (suc (suc (suc (suc zero))))) a b inst x y ha hb = tt
packs_of k (suc (suc (suc (suc (suc (suc t)))))) a b inst x y ha hb = (omega arith, omega arith)

-- a step's operands stand at its own place
pub packs_at : (l : List ℕ) (k : ℕ) → Packs k (action_at l k)
unfolding action_at
packs_at l k = packs_of k _ _ _ _ _ _ (omega arith) (omega arith)

pub same_action : {l m : List ℕ} {n : ℕ} → SameSteps l m n → (k : ℕ) → k < n → action_at m k ≡ action_at l k
unfolding action_at
same_action same k h =
    let at : ℕ = step_base + k * step_words in
    rw (
      same.words at (omega arith) (omega arith),
      same.words (at + 1) (omega arith) (omega arith),
      same.words (at + 2) (omega arith) (omega arith),
      same.words (at + 3) (omega arith) (omega arith),
    )

module _ {l m : List ℕ} {n : ℕ} (same : SameOperands l m n) (k : ℕ) (h : k < n) where
  module _ (at : ℕ) (e : at ≡ operand_base + k * operand_words) where
    same_operand : (i : ℕ) → i < operand_words → get_or m (at + i) 0 ≡ get_or l (at + i) 0
    same_operand i q = same.words (at + i) (omega arith) (omega arith)

    same_def : (i : ℕ) → i < defs_from → get_or m (at + defs_from + i) 0 ≡ get_or l (at + defs_from + i) 0
    same_def i q = same.words (at + defs_from + i) (omega arith) (omega arith)

    same_uses : (count : ℕ) → count ≤ defs_from → at + operand_words ≤ length l → operands at count m ≡ operands at count l
    unfolding operands
    same_uses count q fits =
        ap (map operand_of) (same_region at count l m (omega arith) same.same_length λ i hi. same_operand i (omega arith))

    same_defs : (count : ℕ) → count ≤ defs_from → at + operand_words ≤ length l → operands (at + defs_from) count m ≡ operands (at + defs_from) count l
    unfolding operands
    same_defs count q fits =
        ap (map operand_of) (same_region (at + defs_from) count l m (omega arith) same.same_length λ i hi. same_def i (omega arith))

  pub same_step : (a : Action) → Packs k a → RoomFor a l → step_of m a ≡ step_of l a
  unfolding step_of
  same_step (Copy kind into from) p q = refl
  same_step (Change inst slot from to) p q = refl
  same_step (Operation inst at uses defs) p q =
      rw (same_uses at p.0 uses q.0 q.2, same_defs at p.0 defs q.1 q.2)
  same_step (Safepoint inst mask) p q = refl

  pub same_within : (counts : List ℕ) (Register : ℕ → Type 0) (a : Action) → Packs k a → ActionWithin counts Register l a → ActionWithin counts Register m a
  same_within counts Register (Copy kind into from) p w = w
  same_within counts Register (Change inst slot from to) p w = w
  same_within counts Register (Operation inst at uses defs) p w = (
    w.0,
    w.1,
    rw same.same_length w.2,
    (λ i h. rw (same_operand at p.0 i (omega arith)) (w.3 i h)),
    λ i h. rw (same_def at p.0 i (omega arith)) (w.4 i h),
  )
  same_within counts Register (Safepoint inst mask) p w = w

  module _ (ref ref' : Name → Bool) (e : (name : Name) → ref' name ≡ ref name) where
    pub same_honest : (a : Action) → Packs k a → RoomFor a l → DefsMarked ref l a → DefsMarked ref' m a
    same_honest (Copy kind into from) p q t = t
    same_honest (Change inst slot from to) p q t = t
    same_honest (Operation inst at uses defs) p q t = λ i h. rw (same_def at p.0 i (omega arith), e) (t i h)
    same_honest (Safepoint inst mask) p q t = t

-- a run of steps

pub length_steps : (l : List ℕ) (k n : ℕ) → length (steps_at l k n) ≡ n
unfolding steps_at
length_steps l k zero = refl
length_steps l k (suc n) = ap suc (length_steps l (k + 1) n)

-- one step more
steps_suc : (l : List ℕ) (k n : ℕ) → steps_at l k (suc n) ≡ steps_at l k n ++ (step_of l (action_at l (k + n)) ∷ [])
unfolding steps_at
steps_suc l k zero = rw add-zero
steps_suc l k (suc n) =
    let e : k + 1 + n ≡ k + suc n = omega arith in
    rw (← e) (ap (λ (t : List Step). step_of l (action_at l k) ∷ t) (steps_suc l (k + 1) n))

pub steps_more : (l : List ℕ) (k n : ℕ) → steps_at l k (n + 1) ≡ steps_at l k n ++ (step_of l (action_at l (k + n)) ∷ [])
steps_more l k n = rw add-one (steps_suc l k n)

-- the same steps, one by one
pub steps_alike : (l m : List ℕ) (k n : ℕ)
    → ((i : ℕ) → k ≤ i → i < k + n → step_of m (action_at m i) ≡ step_of l (action_at l i)) → steps_at m k n ≡ steps_at l k n
unfolding steps_at
steps_alike l m k zero e = refl
steps_alike l m k (suc n) e = ap₂ (λ (x : Step) (t : List Step). x ∷ t) (e k (omega arith) (omega arith)) (steps_alike l m (k + 1) n (λ i a b. e i (omega arith) (omega arith)))
