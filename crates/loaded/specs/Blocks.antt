-- Blocks in words: one by one, one block more, one step more in the last one, and what a change elsewhere leaves as it was.
use Rattle.std.specs.Prelude.{◌≡◌, List, [], ◌∷◌, ◌++◌, ℕ, zero, suc, ◌+◌, ◌*◌, ◌≤◌, ◌<◌, length, get_or}
use Rattle.std.proofs.Math.Path.{refl}
use Rattle.std.proofs.Common.{ap, ap₂, ◌∙◌, zero-add, add-zero, add-one, arith}
use Rattle.lists.specs.Region.{region, same_region}
use Rattle.paper.specs.Text.{Name, real, virtual}
use Rattle.paper.specs.Sheet.{Step, Block, no_block, succs_of, steps_of, reference_typed}
use Rattle.paper.specs.Refusals.{add_step, step_count}
use Rattle.layout.specs.Layout.{regs_word, slots_word, blocks_word, opened_word, steps_word, typed_base, typed_words, block_base, step_total_word, succ_total_word, succs_from, block_words, succ_base, all_words}
use Rattle.loaded.specs.Actions.{step_of, action_at, steps_at}
use Rattle.loaded.specs.Loaded.{counts_in, first_step, step_total, succ_total, block_at, blocks_at, sheet_of, BlockBounds, StepBounds, Bounds}
use Rattle.loaded.specs.Laws.{MayStand, room_within}
use Rattle.loaded.specs.Same.{SameSteps, packs_at, same_action, same_step, same_within, same_honest, steps_alike}

-- a run of blocks

pub length_blocks : (l : List ℕ) (b n : ℕ) → length (blocks_at l b n) ≡ n
unfolding blocks_at
length_blocks l b zero = refl
length_blocks l b (suc n) = ap suc (length_blocks l (b + 1) n)

blocks_suc : (l : List ℕ) (b n : ℕ) → blocks_at l b (suc n) ≡ blocks_at l b n ++ (block_at l (b + n) ∷ [])
unfolding blocks_at
blocks_suc l b zero = rw add-zero
blocks_suc l b (suc n) =
    let e : b + 1 + n ≡ b + suc n = omega arith in
    rw (← e) (ap (λ (t : List Block). block_at l b ∷ t) (blocks_suc l (b + 1) n))

-- one block more
pub blocks_more : (l : List ℕ) (n : ℕ) → blocks_at l 0 (n + 1) ≡ blocks_at l 0 n ++ (block_at l n ∷ [])
blocks_more l n = rw add-one (rw zero-add at (blocks_suc l 0 n))

blocks_alike : (l m : List ℕ) (b n : ℕ) → ((i : ℕ) → b ≤ i → i < b + n → block_at m i ≡ block_at l i) → blocks_at m b n ≡ blocks_at l b n
unfolding blocks_at
blocks_alike l m b zero e = refl
blocks_alike l m b (suc n) e =
    ap₂ (λ (B : Block) (t : List Block). B ∷ t) (e b (omega arith) (omega arith)) (blocks_alike l m (b + 1) n (λ i p q. e i (omega arith) (omega arith)))

-- the blocks from `from` on, one by one
block_from : (words : List ℕ) (from n b : ℕ) → b < n → get_or (blocks_at words from n) b no_block ≡ block_at words (from + b)
unfolding blocks_at
block_from words from zero b h = absurd (omega arith)
block_from words from (suc n) zero h = rw add-zero
block_from words from (suc n) (suc b) h = block_from words (from + 1) n b (omega arith) ∙ ap (block_at words) (omega arith)

block_beyond : (words : List ℕ) (from n b : ℕ) → n ≤ b → get_or (blocks_at words from n) b no_block ≡ no_block
unfolding blocks_at
block_beyond words from zero b h = refl
block_beyond words from (suc n) zero h = absurd (omega arith)
block_beyond words from (suc n) (suc b) h = block_beyond words (from + 1) n b (omega arith)

pub succs_in_words : (words : List ℕ) (b : ℕ) → b < get_or words opened_word 0 → succs_of (sheet_of words) b ≡ region (succ_base b) (succ_total words b) words
unfolding sheet_of block_at
succs_in_words words b h = ap (λ (x : Block). x.succs) (block_from words 0 _ b h ∙ ap (block_at words) (zero-add b))

pub succs_beyond : (words : List ℕ) (b : ℕ) → get_or words opened_word 0 ≤ b → succs_of (sheet_of words) b ≡ []
unfolding sheet_of
succs_beyond words b h = ap (λ (x : Block). x.succs) (block_beyond words 0 _ b h)

pub steps_in_words : (words : List ℕ) (b : ℕ) → b < get_or words opened_word 0 → steps_of (sheet_of words) b ≡ steps_at words (first_step words b) (step_total words b)
unfolding sheet_of block_at
steps_in_words words b h = ap (λ (x : Block). x.steps) (block_from words 0 _ b h ∙ ap (block_at words) (zero-add b))

-- one step more

pub add_step_last : (x : Step) (Bs : List Block) (B : Block)
    → add_step x (Bs ++ (B ∷ [])) ≡ Bs ++ (record { succs = B.succs; steps = B.steps ++ (x ∷ []) } ∷ [])
unfolding add_step
add_step_last x [] B = refl
add_step_last x (A ∷ []) B = refl
add_step_last x (A ∷ C ∷ Bs) B = ap (λ (t : List Block). A ∷ t) (add_step_last x (C ∷ Bs) B)

pub step_count_more : (Bs : List Block) (B : Block) → step_count (Bs ++ (B ∷ [])) ≡ step_count Bs + length B.steps
unfolding step_count
step_count_more [] B = omega arith
step_count_more (A ∷ Bs) B = rw (step_count_more Bs B) (omega arith)

-- what a change leaves

-- the header's words but for how many blocks and steps there are, and the typed names
pub record SameHead (l m : List ℕ) : Type 0 where
  pub words : (i : ℕ) → i < block_base → (i ≡ opened_word → ⊥) → (i ≡ steps_word → ⊥) → get_or m i 0 ≡ get_or l i 0

-- a block's words but for how many steps it has
pub record SameLinks (l m : List ℕ) (b : ℕ) : Type 0 where
  pub words : (i : ℕ) → i < block_words → (i ≡ step_total_word → ⊥) → get_or m (block_base + b * block_words + i) 0 ≡ get_or l (block_base + b * block_words + i) 0

pub same_typed : {l m : List ℕ} → SameHead l m → all_words ≤ length l → length m ≡ length l → region typed_base typed_words m ≡ region typed_base typed_words l
same_typed {l} {m} head size e =
    same_region typed_base typed_words l m (omega arith) e λ i h. head.words (typed_base + i) (omega arith) (λ q. omega arith) (λ q. omega arith)

module _ {l m : List ℕ} (bounds : Bounds l) (head : SameHead l m) (steps : SameSteps l m (get_or l steps_word 0)) where
  pub same_references : (n : Name) → reference_typed (sheet_of m) n ≡ reference_typed (sheet_of l) n
  unfolding reference_typed sheet_of
  same_references (real n) = refl
  same_references (virtual n) = rw (same_typed head bounds.size steps.operands.same_length)

  kept_step : (k : ℕ) → k < get_or l steps_word 0 → step_of m (action_at m k) ≡ step_of l (action_at l k)
  kept_step k h =
      rw (same_action steps k h)
      (same_step steps.operands k h (action_at l k) (packs_at l k) (room_within (counts_in l) (MayStand (counts_in l)) l (action_at l k) (bounds.each_step k h).ranged))

  pub kept_steps : (k n : ℕ) → k + n ≤ get_or l steps_word 0 → steps_at m k n ≡ steps_at l k n
  kept_steps k n h = steps_alike l m k n λ i p q. kept_step i (omega arith)

  pub kept_step_bounds : (k : ℕ) → k < get_or l steps_word 0 → StepBounds m k
  kept_step_bounds k h =
      let old = bounds.each_step k h in
      let regs : get_or m regs_word 0 ≡ get_or l regs_word 0 = head.words regs_word (omega arith) (λ q. omega arith) (λ q. omega arith) in
      let slots : get_or m slots_word 0 ≡ get_or l slots_word 0 = head.words slots_word (omega arith) (λ q. omega arith) (λ q. omega arith) in
      record {
        ranged = rw (regs, slots, same_action steps k h) (same_within steps.operands k h (counts_in l) (MayStand (counts_in l)) (action_at l k) (packs_at l k) old.ranged);
        honest = rw (same_action steps k h)
            (same_honest steps.operands k h _ _ same_references (action_at l k) (packs_at l k) (room_within (counts_in l) (MayStand (counts_in l)) l (action_at l k) old.ranged) old.honest);
      }

  module _ (b : ℕ) (h : b < get_or l opened_word 0) (same : SameLinks l m b) where
    same_succ_total : succ_total m b ≡ succ_total l b
    same_succ_total = same.words succ_total_word (omega arith) (λ e. omega arith)

    pub same_first : first_step m b ≡ first_step l b
    same_first = rw add-zero at (same.words 0 (omega arith) (λ e. omega arith))

    same_succ : (i : ℕ) → i < succ_total l b → get_or m (succ_base b + i) 0 ≡ get_or l (succ_base b + i) 0
    same_succ i q =
        let few = (bounds.each_block b h).succs in
        let e : block_base + b * block_words + (succs_from + i) ≡ succ_base b + i = omega arith in
        rw e at (same.words (succs_from + i) (omega arith) (λ e. omega arith))

    pub same_succs : region (succ_base b) (succ_total m b) m ≡ region (succ_base b) (succ_total l b) l
    same_succs =
        let few = (bounds.each_block b h).succs in
        let size = bounds.size in
        let opened = bounds.opened in
        let blocks = bounds.blocks in
        rw same_succ_total (same_region (succ_base b) (succ_total l b) l m (omega arith) steps.operands.same_length same_succ)

    -- the bounds of a block that has the steps up to those that there are now
    pub kept_links : first_step m b + step_total m b ≤ get_or m steps_word 0 → BlockBounds m b
    kept_links fits =
        let old = bounds.each_block b h in
        let blocks : get_or m blocks_word 0 ≡ get_or l blocks_word 0 = head.words blocks_word (omega arith) (λ q. omega arith) (λ q. omega arith) in
        record {
          steps = fits;
          succs = rw same_succ_total old.succs;
          below = λ i q. let q' : i < succ_total l b = rw same_succ_total at q in rw (blocks, same_succ i q') (old.below i q');
        }

    module _ (total : step_total m b ≡ step_total l b) where
      kept_block : block_at m b ≡ block_at l b
      unfolding block_at
      kept_block =
          rw (same_succs, same_first, total, kept_steps (first_step l b) (step_total l b) (bounds.each_block b h).steps)

      pub kept_block_bounds : get_or l steps_word 0 ≤ get_or m steps_word 0 → BlockBounds m b
      kept_block_bounds grows = kept_links (rw (same_first, total) (omega (arith, (bounds.each_block b h).steps)))

  pub kept_blocks : (n : ℕ) → n ≤ get_or l opened_word 0 → ((b : ℕ) → b < n → SameLinks l m b) → ((b : ℕ) → b < n → step_total m b ≡ step_total l b)
      → blocks_at m 0 n ≡ blocks_at l 0 n
  kept_blocks n h links totals =
      blocks_alike l m 0 n λ b p q. kept_block b (omega arith) (links b (omega arith)) (totals b (omega arith))
