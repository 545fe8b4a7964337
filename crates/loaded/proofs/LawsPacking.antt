-- Actions in words: what is written is read back.
use mathlib.Core.Path.{◌≡◌, refl, sym, ap, ◌∙◌}
use mathlib.Core.List.{List, [], ◌∷◌}
use Prim.Native.Nat.{ℕ, zero, suc, ◌+◌, ◌*◌, ◌/◌, ◌%◌, ◌≤◌, ◌<◌}
use native.Mathlib.Nat.{add-zero}
use native.Mathlib.Omega.{arith}
use lib.ListN.{length, get_or}
use Rattle.lists.specs.Over.{over, getD_over_in}
use Rattle.lists.specs.Kept.{Kept, kept_over}
use Rattle.paper.specs.Limits.{max_steps}
use Rattle.layout.specs.Layout.{step_base, step_words, all_words}
use Rattle.loaded.specs.Actions.{no_register, tag_of, action_of, action_at, packed, Packs}
use Rattle.loaded.specs.declared.CopyKind.TheVariants.{Spill, Reload, Move}
use Rattle.loaded.specs.declared.Action.{Action}
use Rattle.loaded.specs.declared.Action.TheVariants.{Copy, Change, Operation, Safepoint}

-- a tag that no step has
pub last_tag : (k t a b inst x y : ℕ) → (t ≡ 0 → ⊥) → (t ≡ 1 → ⊥) → (t ≡ 2 → ⊥) → (t ≡ 3 → ⊥) → (t ≡ 4 → ⊥) → (t ≡ 5 → ⊥)
    → Copy Move no_register no_register ≡ action_of k t a b inst x y
unfolding action_of
last_tag k zero a b inst x y h0 h1 h2 h3 h4 h5 = absurd (h0 refl)
last_tag k (suc zero) a b inst x y h0 h1 h2 h3 h4 h5 = absurd (h1 refl)
last_tag k (suc (suc zero)) a b inst x y h0 h1 h2 h3 h4 h5 = absurd (h2 refl)
last_tag k (suc (suc (suc zero))) a b inst x y h0 h1 h2 h3 h4 h5 = absurd (h3 refl)
last_tag k (suc (suc (suc (suc zero)))) a b inst x y h0 h1 h2 h3 h4 h5 = absurd (h4 refl)
last_tag k (suc (suc (suc (suc (suc zero))))) a b inst x y h0 h1 h2 h3 h4 h5 = absurd (h5 refl)
last_tag k (suc (suc (suc (suc (suc (suc t)))))) a b inst x y h0 h1 h2 h3 h4 h5 = refl

-- the words of an action, taken apart
abbrev from_words : ℕ → List ℕ → Action
from_words k p = action_of k (get_or p 0 0 % 8) (get_or p 0 0 / 8 % 64) (get_or p 0 0 / 512 % 64) (get_or p 1 0) (get_or p 2 0) (get_or p 3 0)

module _ (k inst x y : ℕ) where
  head_apart : (tag a b : ℕ) → tag < 8 → a < 64 → b < 64
      → from_words k ((tag + a * 8 + b * 512) ∷ inst ∷ x ∷ y ∷ []) ≡ action_of k tag a b inst x y
  head_apart tag a b ht ha hb =
      let e₁ : (tag + a * 8 + b * 512) % 8 ≡ tag = omega arith in
      let q₂ : (tag + a * 8 + b * 512) / 8 ≡ a + b * 64 = omega arith in
      let q₃ : (tag + a * 8 + b * 512) / 512 ≡ b = omega arith in
      let e₂ : (a + b * 64) % 64 ≡ a = omega arith in
      let e₃ : b % 64 ≡ b = omega arith in
      rw (e₁, q₂, q₃, e₂, e₃)

apart : (k : ℕ) (action : Action) → Packs k action → from_words k (packed action) ≡ action
unfolding packed action_of tag_of
apart k (Copy Spill into from) h = head_apart k 0 0 0 0 into from (omega arith) h.0 h.1
apart k (Copy Reload into from) h = head_apart k 0 0 0 1 into from (omega arith) h.0 h.1
apart k (Copy Move into from) h = head_apart k 0 0 0 2 into from (omega arith) h.0 h.1
apart k (Change inst slot from to) h = head_apart k inst from to 3 slot 0 (omega arith) h (omega arith)
apart k (Operation inst at n m) h = head_apart k inst 0 0 4 n m (omega arith) h.1 h.2 ∙ ap (λ (q : ℕ). Operation inst q n m) (sym h.0)
apart k (Safepoint inst mask) h =
    let e : mask % 65536 + mask / 65536 * 65536 ≡ mask = omega arith in
    head_apart k inst (mask % 65536) (mask / 65536) 5 0 0 (omega arith) (omega arith) (omega arith) ∙ rw e

pub written : (l l₁ p : List ℕ) (k : ℕ) (action : Action) → k < max_steps → all_words ≤ length l → Packs k action → p ≡ packed action
    → l₁ ≡ over (step_base + k * step_words) 4 (λ i w. get_or p i 0) l
    → (action_at l₁ k ≡ action) × Kept (step_base + k * step_words) step_words l l₁
unfolding action_at
written l l₁ p k action hk hl packs ep e =
    let at : ℕ = step_base + k * step_words in
    let f : ℕ → ℕ → ℕ = λ i w. get_or p i 0 in
    let g₀ : get_or l₁ at 0 ≡ get_or p 0 0 = rw e (rw add-zero at (getD_over_in at 4 f l 0 0 (omega arith) (omega arith))) in
    let g₁ : get_or l₁ (at + 1) 0 ≡ get_or p 1 0 = rw e (getD_over_in at 4 f l 1 0 (omega arith) (omega arith)) in
    let g₂ : get_or l₁ (at + 2) 0 ≡ get_or p 2 0 = rw e (getD_over_in at 4 f l 2 0 (omega arith) (omega arith)) in
    let g₃ : get_or l₁ (at + 3) 0 ≡ get_or p 3 0 = rw e (getD_over_in at 4 f l 3 0 (omega arith) (omega arith)) in
    (rw (g₀, g₁, g₂, g₃, ep) (apart k action packs), rw e (kept_over at 4 f l))
