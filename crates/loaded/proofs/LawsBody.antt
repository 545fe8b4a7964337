-- What `B` and a step store: behind the words that were read, so that they mean the same sheet with one block or one step more.
use mathlib.Core.Path.{◌≡◌, sym, ap, ◌∙◌}
use mathlib.Core.List.{List, [], ◌∷◌, ◌++◌}
use Prim.Native.Nat.{ℕ, ◌+◌, ◌*◌, ◌≤◌, ◌<◌}
use native.Mathlib.Omega.{arith}
use lib.Dec.{leb}
use lib.ListN.{length, get_or, set, take, length-set}
use lib.Seq.{get_or-set_same, get_or-set_other, ext_get_or, get_or-take, length-take-le}
use Rattle.lists.specs.Over.{over, length_over, getD_over_in, getD_over_below, getD_over_above}
use Rattle.lists.specs.Region.{region, length_region, getD_region}
use Rattle.lists.specs.Kept.{Kept}
use Rattle.lists.specs.Split.{by_order}
use Rattle.paper.specs.Sheet.{Block, Sheet}
use Rattle.paper.specs.Limits.{max_blocks, max_succs, max_steps}
use Rattle.paper.specs.Refusals.{block_record, step_record, add_record, add_step, step_count, ascending}
use Rattle.layout.specs.Layout.{regs_word, slots_word, vregs_word, blocks_word, entry_word, opened_word, steps_word, least_typed_word, begun_word, typed_base, typed_words, block_base, block_words, succ_base, step_base, step_words, operand_base, all_words}
use Rattle.loaded.specs.Filling.{BlockWithin, Begun, StepFits, RecordStored}
use Rattle.loaded.specs.Actions.{step_of, action_at, steps_at}
use Rattle.loaded.specs.declared.Action.{Action}
use Rattle.loaded.specs.Loaded.{counts_in, first_step, step_total, succ_total, block_at, blocks_at, marked_from, sheet_of, BlockBounds, StepBounds, Bounds}
use Rattle.loaded.specs.Laws.{MayStand, room_within}
use Rattle.loaded.specs.Same.{SameOperands, SameSteps, same_action, same_step, same_within, same_honest, steps_more, length_steps}
use Rattle.loaded.specs.Blocks.{SameHead, SameLinks, same_typed, same_references, kept_steps, kept_step_bounds, same_first, same_succs, kept_links, kept_block_bounds, kept_blocks, blocks_more, add_step_last, step_count_more}

-- a sheet that stands in the words but for its body
unfoldable pub with_body : List ℕ → List Block → Sheet
with_body l body = record {
  regs = get_or l regs_word 0;
  slots = get_or l slots_word 0;
  vregs = get_or l vregs_word 0;
  blocks = get_or l blocks_word 0;
  entry = get_or l entry_word 0;
  typed = marked_from 0 (region typed_base typed_words l);
  body = body;
}

-- what stays

module _ {l m : List ℕ} (begun : Begun l) (head : SameHead l m) (steps : SameSteps l m (get_or l steps_word 0)) where
  -- a word of the header that neither `B` nor a step changes
  same_word : (i : ℕ) → i < opened_word → get_or m i 0 ≡ get_or l i 0
  same_word i h = head.words i (omega arith) (λ e. omega arith) (λ e. omega arith)

  -- the bounds, where the counts of blocks and steps keep theirs
  pub bounds_after : get_or m opened_word 0 ≤ get_or l blocks_word 0 → get_or m steps_word 0 ≤ max_steps
      → ((b : ℕ) → b < get_or m opened_word 0 → BlockBounds m b) → ((k : ℕ) → k < get_or m steps_word 0 → StepBounds m k) → Bounds m
  bounds_after opened few each_block each_step =
      let old = begun.bounds in
      record {
        size = rw steps.operands.same_length old.size;
        regs = rw (same_word regs_word (omega arith)) old.regs;
        slots = rw (same_word slots_word (omega arith)) old.slots;
        vregs = rw (same_word vregs_word (omega arith)) old.vregs;
        blocks = rw (same_word blocks_word (omega arith)) old.blocks;
        entry = rw (same_word blocks_word (omega arith), same_word entry_word (omega arith)) old.entry;
        opened = rw (same_word blocks_word (omega arith)) opened;
        steps = few;
        each_block = each_block;
        each_step = each_step;
      }

  -- what the next `T` is held against
  pub least_after : (n : ℕ) → ascending (marked_from 0 (region typed_base typed_words m) ++ (n ∷ [])) ≡ leb (get_or m least_typed_word 0) n
  least_after n =
      rw (same_typed head begun.bounds.size steps.operands.same_length, head.words least_typed_word (omega arith) (λ e. omega arith) (λ e. omega arith))
      (begun.least n)

  pub begun_after : get_or m begun_word 0 ≡ 1
  begun_after = head.words begun_word (omega arith) (λ e. omega arith) (λ e. omega arith) ∙ begun.begun

  pub meaning_after : sheet_of m ≡ with_body l (blocks_at m 0 (get_or m opened_word 0))
  unfolding sheet_of with_body
  meaning_after =
      rw (
        same_word regs_word (omega arith),
        same_word slots_word (omega arith),
        same_word vregs_word (omega arith),
        same_word blocks_word (omega arith),
        same_word entry_word (omega arith),
        same_typed head begun.bounds.size steps.operands.same_length,
      )

-- `B`

-- the words of one block more
pub record BlockWritten (l m : List ℕ) (count : ℕ) (succs : List ℕ) : Type 0 where
  pub same_length : length m ≡ length l
  pub head : (i : ℕ) → i < block_base → (i ≡ opened_word → ⊥) → get_or m i 0 ≡ get_or l i 0
  pub opened : get_or m opened_word 0 ≡ get_or l opened_word 0 + 1
  pub first : first_step m (get_or l opened_word 0) ≡ get_or l steps_word 0
  pub total : step_total m (get_or l opened_word 0) ≡ 0
  pub succ_count : succ_total m (get_or l opened_word 0) ≡ count
  pub listed : (k : ℕ) → k < count → get_or m (succ_base (get_or l opened_word 0) + k) 0 ≡ get_or succs k 0
  pub earlier : (i : ℕ) → block_base ≤ i → i < block_base + get_or l opened_word 0 * block_words → get_or m i 0 ≡ get_or l i 0
  pub behind : (i : ℕ) → step_base ≤ i → get_or m i 0 ≡ get_or l i 0

module _ (l m : List ℕ) (begun : Begun l) (count : ℕ) (succs : List ℕ) (room : get_or l opened_word 0 < get_or l blocks_word 0)
    (within : BlockWithin (get_or l blocks_word 0) count succs) (all : length succs ≡ max_succs) (w : BlockWritten l m count succs) where
  b : ℕ
  b = get_or l opened_word 0

  head : SameHead l m
  head = record { words = λ i h p q. w.head i h p }

  steps : SameSteps l m (get_or l steps_word 0)
  steps = record {
    operands = record { same_length = w.same_length; words = λ i h q. w.behind i (omega arith) };
    words = λ i h q. w.behind i h;
  }

  steps_count : get_or m steps_word 0 ≡ get_or l steps_word 0
  steps_count = w.head steps_word (omega arith) (λ e. omega arith)

  links : (k : ℕ) → k < b → SameLinks l m k
  unfolding b
  links k h = record { words = λ i q d. w.earlier (block_base + k * block_words + i) (omega arith) (omega arith) }

  totals : (k : ℕ) → k < b → step_total m k ≡ step_total l k
  unfolding b
  totals k h = w.earlier (block_base + k * block_words + 1) (omega arith) (omega arith)

  succs_of_block : region (succ_base b) (succ_total m b) m ≡ take count succs
  unfolding b
  succs_of_block =
      let size = begun.bounds.size in
      let blocks = begun.bounds.blocks in
      let same = w.same_length in
      let few = within.few in
      let lr : length (region (succ_base b) count m) ≡ count = length_region (succ_base b) count m (omega arith) in
      rw w.succ_count
      (ext_get_or 0 _ _ (lr ∙ sym (length-take-le count succs (omega arith))) λ i h.
      let q : i < count = omega arith in
      getD_region (succ_base b) count m i q ∙ w.listed i q ∙ sym (get_or-take count succs i 0 q))

  new_block : block_at m b ≡ record { succs = take count succs; steps = [] }
  unfolding b block_at steps_at
  new_block = rw (succs_of_block, w.total)

  body : blocks_at m 0 (get_or m opened_word 0) ≡ blocks_at l 0 b ++ (record { succs = take count succs; steps = [] } ∷ [])
  unfolding b
  body = rw (w.opened, blocks_more m (get_or l opened_word 0), new_block, kept_blocks begun.bounds head steps b (omega arith) links totals)

  block_begun : Begun m
  unfolding b
  block_begun = record {
    begun = begun_after begun head steps;
    bounds = bounds_after begun head steps (rw w.opened (omega arith)) (rw steps_count begun.bounds.steps)
        (λ k h. by_order k b
        (λ q. kept_block_bounds begun.bounds head steps k q (links k q) (totals k q) (omega (arith, steps_count)))
        λ q. let e : k ≡ b = omega (arith, w.opened) in rw e block_bounds)
        (λ k h. kept_step_bounds begun.bounds head steps k (omega (arith, steps_count)));
    least = least_after begun head steps;
    counted = rw (body, step_count_more, begun.counted, steps_count) (omega arith);
    last = λ k e. let q : k ≡ b = omega (arith, w.opened) in rw (q, w.first, w.total, steps_count) (omega arith);
  }
    where
      block_bounds : BlockBounds m b
      block_bounds = record {
        steps = rw (w.first, w.total, steps_count) (omega arith);
        succs = rw w.succ_count within.few;
        below = λ i h.
            let q : i < count = rw w.succ_count at h in
            rw (w.listed i q, w.head blocks_word (omega arith) (λ e. omega arith)) (within.below i q);
      }

  pub block_stored : RecordStored l m (block_record (take count succs))
  unfolding b add_record sheet_of with_body
  block_stored = record {
    same_length = w.same_length;
    meaning = meaning_after begun head steps ∙ ap (with_body l) body;
    progress = block_begun;
  }

-- the words after the stores of `add_block`
pub block_written : (l m : List ℕ) (count : ℕ) (succs : List ℕ) → all_words ≤ length l → get_or l opened_word 0 < max_blocks → count ≤ max_succs
    → let at = block_base + get_or l opened_word 0 * block_words in
    m ≡ set (over (at + 3) count (λ k x. get_or succs k 0) (set (set (set l at (get_or l steps_word 0)) (at + 1) 0) (at + 2) count)) opened_word (get_or l opened_word 0 + 1)
    → BlockWritten l m count succs
block_written l m count succs size small few e = rw e (record {
  same_length = simp (length-set, length_over);
  head = λ i h d. other i d ∙ low i (omega arith);
  opened = get_or-set_same four opened_word (b + 1) 0 (rw lengths (omega arith));
  first = other at (λ q. omega arith) ∙ below at (omega arith) ∙ get_or-set_other two (at + 2) at count 0 (λ q. omega arith)
      ∙ get_or-set_other one (at + 1) at 0 0 (λ q. omega arith) ∙ get_or-set_same l at _ 0 (omega arith);
  total = other (at + 1) (λ q. omega arith) ∙ below (at + 1) (omega arith) ∙ get_or-set_other two (at + 2) (at + 1) count 0 (λ q. omega arith)
      ∙ get_or-set_same one (at + 1) 0 0 (rw length-set (omega arith));
  succ_count = other (at + 2) (λ q. omega arith) ∙ below (at + 2) (omega arith) ∙ get_or-set_same two (at + 2) count 0 (rw (length-set, length-set) (omega arith));
  listed = λ k h. other (at + 3 + k) (λ q. omega arith)
      ∙ getD_over_in (at + 3) count (λ k x. get_or succs k 0) three k 0 h (rw (length-set, length-set, length-set) (omega arith));
  earlier = λ i p q. other i (λ d. omega arith) ∙ low i q;
  behind = λ i h. other i (λ d. omega arith) ∙ high i (omega arith);
})
  where
    b : ℕ
    b = get_or l opened_word 0

    at : ℕ
    at = block_base + b * block_words

    one : List ℕ
    one = set l at (get_or l steps_word 0)

    two : List ℕ
    two = set one (at + 1) 0

    three : List ℕ
    three = set two (at + 2) count

    four : List ℕ
    four = over (at + 3) count (λ k x. get_or succs k 0) three

    lengths : length four ≡ length l
    lengths = simp (length_over, length-set)

    other : (i : ℕ) → (i ≡ opened_word → ⊥) → get_or (set four opened_word (b + 1)) i 0 ≡ get_or four i 0
    other i d = get_or-set_other four opened_word i (b + 1) 0 d

    below : (i : ℕ) → i < at + 3 → get_or four i 0 ≡ get_or three i 0
    below i h = getD_over_below (at + 3) count (λ k x. get_or succs k 0) three i 0 h

    three_same : (i : ℕ) → (i ≡ at → ⊥) → (i ≡ at + 1 → ⊥) → (i ≡ at + 2 → ⊥) → get_or three i 0 ≡ get_or l i 0
    three_same i p q r = get_or-set_other two (at + 2) i count 0 r ∙ get_or-set_other one (at + 1) i 0 0 q ∙ get_or-set_other l at i _ 0 p

    low : (i : ℕ) → i < at → get_or four i 0 ≡ get_or l i 0
    low i h = below i (omega arith) ∙ three_same i (λ q. omega arith) (λ q. omega arith) (λ q. omega arith)

    high : (i : ℕ) → at + block_words ≤ i → get_or four i 0 ≡ get_or l i 0
    high i h =
        getD_over_above (at + 3) count (λ k x. get_or succs k 0) three i 0 (omega arith)
        ∙ three_same i (λ q. omega arith) (λ q. omega arith) (λ q. omega arith)

-- a step

-- the words of one step more: k is its place, b the last block
pub record StepWritten (l m : List ℕ) (b : ℕ) (action : Action) : Type 0 where
  pub same_length : length m ≡ length l
  pub head : (i : ℕ) → i < block_base → (i ≡ steps_word → ⊥) → get_or m i 0 ≡ get_or l i 0
  pub count : get_or m steps_word 0 ≡ get_or l steps_word 0 + 1
  pub total : step_total m b ≡ step_total l b + 1
  pub blocks : (i : ℕ) → block_base ≤ i → i < step_base → (i ≡ block_base + b * block_words + 1 → ⊥) → get_or m i 0 ≡ get_or l i 0
  pub says : action_at m (get_or l steps_word 0) ≡ action
  pub earlier : (i : ℕ) → step_base ≤ i → i < step_base + get_or l steps_word 0 * step_words → get_or m i 0 ≡ get_or l i 0
  pub behind : (i : ℕ) → operand_base ≤ i → get_or m i 0 ≡ get_or l i 0

module _ (l m : List ℕ) (begun : Begun l) (b : ℕ) (last : b + 1 ≡ get_or l opened_word 0) (room : get_or l steps_word 0 < max_steps) (action : Action)
    (fits : StepFits l action) (w : StepWritten l m b action) where
  k : ℕ
  k = get_or l steps_word 0

  step_head : SameHead l m
  step_head = record { words = λ i h p q. w.head i h q }

  step_operands : (n : ℕ) → SameOperands l m n
  step_operands n = record { same_length = w.same_length; words = λ i h q. w.behind i h }

  step_steps : SameSteps l m (get_or l steps_word 0)
  step_steps = record { operands = step_operands (get_or l steps_word 0); words = w.earlier }

  step_opened : get_or m opened_word 0 ≡ b + 1
  step_opened = w.head opened_word (omega arith) (λ e. omega arith) ∙ sym last

  step_links : (i : ℕ) → i < get_or l opened_word 0 → SameLinks l m i
  step_links i h =
      let blocks = begun.bounds.blocks in
      let opened = begun.bounds.opened in
      record { words = λ j q d. w.blocks (block_base + i * block_words + j) (omega arith) (omega arith) (λ e. d (omega arith)) }

  step_totals : (i : ℕ) → i < b → step_total m i ≡ step_total l i
  step_totals i h =
      let blocks = begun.bounds.blocks in
      let opened = begun.bounds.opened in
      w.blocks (block_base + i * block_words + 1) (omega arith) (omega arith) (λ e. omega arith)

  new_step : step_of m (action_at m k) ≡ step_of l action
  unfolding k
  new_step = rw w.says (same_step (step_operands (k + 1)) k (omega arith) action fits.packs (room_within (counts_in l) (MayStand (counts_in l)) l action fits.ranged))

  new_bounds : StepBounds m k
  unfolding k
  new_bounds =
      let regs : get_or m regs_word 0 ≡ get_or l regs_word 0 = w.head regs_word (omega arith) (λ e. omega arith) in
      let slots : get_or m slots_word 0 ≡ get_or l slots_word 0 = w.head slots_word (omega arith) (λ e. omega arith) in
      record {
        ranged = rw (regs, slots, w.says) (same_within (step_operands (k + 1)) k (omega arith) (counts_in l) (MayStand (counts_in l)) action fits.packs fits.ranged);
        honest = rw w.says
            (same_honest (step_operands (k + 1)) k (omega arith) _ _ (same_references begun.bounds step_head step_steps) action fits.packs
            (room_within (counts_in l) (MayStand (counts_in l)) l action fits.ranged) fits.honest);
      }

  -- the step stands behind those of the last block
  place : first_step l b + step_total l b ≡ get_or l steps_word 0
  place = begun.last b last

  last_block : block_at m b ≡ record { succs = (block_at l b).succs; steps = (block_at l b).steps ++ (step_of l action ∷ []) }
  unfolding block_at k
  last_block =
      rw (
        same_succs begun.bounds step_head step_steps b (omega arith) (step_links b (omega arith)),
        same_first begun.bounds step_head step_steps b (omega arith) (step_links b (omega arith)),
        w.total,
        steps_more m (first_step l b) (step_total l b),
        kept_steps begun.bounds step_head step_steps (first_step l b) (step_total l b) (omega (arith, place)),
        last_step,
      )
    where
      last_step : step_of m (action_at m (first_step l b + step_total l b)) ≡ step_of l action
      last_step = rw place new_step

  step_body : blocks_at m 0 (get_or m opened_word 0) ≡ add_step (step_of l action) (blocks_at l 0 (get_or l opened_word 0))
  step_body =
      rw (
        step_opened,
        ← last,
        blocks_more m b,
        blocks_more l b,
        add_step_last,
        last_block,
        kept_blocks begun.bounds step_head step_steps b (omega arith) (λ i h. step_links i (omega arith)) step_totals,
      )

  counted_before : step_count (blocks_at l 0 b) + step_total l b ≡ get_or l steps_word 0
  unfolding block_at
  counted_before =
      rw (length_steps l (first_step l b) (step_total l b)) at
      (sym (step_count_more (blocks_at l 0 b) (block_at l b)) ∙ rw (← last, blocks_more l b) at begun.counted)

  counted_after : step_count (blocks_at m 0 (get_or m opened_word 0)) ≡ get_or m steps_word 0
  unfolding block_at
  counted_after =
      rw (
        step_opened,
        blocks_more m b,
        step_count_more,
        length_steps m (first_step m b) (step_total m b),
        w.total,
        w.count,
        kept_blocks begun.bounds step_head step_steps b (omega arith) (λ i h. step_links i (omega arith)) step_totals,
      )
      (omega (arith, counted_before))

  step_begun : Begun m
  unfolding k
  step_begun = record {
    begun = begun_after begun step_head step_steps;
    bounds = bounds_after begun step_head step_steps (omega (arith, begun.bounds.opened, step_opened)) (omega (arith, w.count))
        each_block each_step;
    least = least_after begun step_head step_steps;
    counted = counted_after;
    last = λ i e. let q : i ≡ b = omega (arith, step_opened) in rw q ends;
  }
    where
      ends : first_step m b + step_total m b ≡ get_or m steps_word 0
      ends =
          rw (same_first begun.bounds step_head step_steps b (omega arith) (step_links b (omega arith)), w.total, w.count)
          (omega (arith, place))

      each_block : (i : ℕ) → i < get_or m opened_word 0 → BlockBounds m i
      each_block i h = by_order i b
          (λ q. kept_block_bounds begun.bounds step_head step_steps i (omega arith) (step_links i (omega arith)) (step_totals i q) (omega (arith, w.count)))
          λ q.
          let e : i ≡ b = omega (arith, step_opened) in
          rw e (kept_links begun.bounds step_head step_steps b (omega arith) (step_links b (omega arith)) (omega (arith, ends)))

      each_step : (i : ℕ) → i < get_or m steps_word 0 → StepBounds m i
      each_step i h = by_order i (get_or l steps_word 0)
          (λ q. kept_step_bounds begun.bounds step_head step_steps i q)
          λ q. let e : i ≡ get_or l steps_word 0 = omega (arith, w.count) in rw e new_bounds

  pub step_stored : RecordStored l m (step_record (step_of l action))
  unfolding add_record sheet_of with_body
  step_stored = record {
    same_length = w.same_length;
    meaning = meaning_after begun step_head step_steps ∙ ap (with_body l) step_body;
    progress = step_begun;
  }

-- the words after the stores of `add_step`
pub step_written : (l m₁ m : List ℕ) (b : ℕ) (action : Action) → all_words ≤ length l → b < max_blocks → get_or l steps_word 0 < max_steps
    → Kept (step_base + get_or l steps_word 0 * step_words) step_words l m₁ → action_at m₁ (get_or l steps_word 0) ≡ action
    → let total = block_base + b * block_words + 1 in
    m ≡ set (set m₁ total (get_or m₁ total 0 + 1)) steps_word (get_or l steps_word 0 + 1) → StepWritten l m b action
step_written l m₁ m b action size small room kept says e = rw e (record {
  same_length = rw (length-set, length-set) kept.same_length;
  head = λ i h d. other i (λ q. omega arith) d ∙ kept.below i (omega arith);
  count = get_or-set_same two steps_word (k + 1) 0 (rw (length-set, kept.same_length) (omega arith));
  total = get_or-set_other two steps_word total (k + 1) 0 (λ q. omega arith)
      ∙ get_or-set_same m₁ total (get_or m₁ total 0 + 1) 0 (rw kept.same_length (omega arith)) ∙ ap (λ n. n + 1) (kept.below total (omega arith));
  blocks = λ i p q d. other i d (λ w. omega arith) ∙ kept.below i (omega arith);
  says = same_action same k (omega arith) ∙ says;
  earlier = λ i p q. other i (λ w. omega arith) (λ w. omega arith) ∙ kept.below i q;
  behind = λ i h. other i (λ w. omega arith) (λ w. omega arith) ∙ kept.above i (omega arith);
})
  where
    k : ℕ
    k = get_or l steps_word 0

    total : ℕ
    total = block_base + b * block_words + 1

    two : List ℕ
    two = set m₁ total (get_or m₁ total 0 + 1)

    other : (i : ℕ) → (i ≡ total → ⊥) → (i ≡ steps_word → ⊥) → get_or (set two steps_word (k + 1)) i 0 ≡ get_or m₁ i 0
    other i p q = get_or-set_other two steps_word i (k + 1) 0 q ∙ get_or-set_other m₁ total i (get_or m₁ total 0 + 1) 0 p

    same : SameSteps m₁ (set two steps_word (k + 1)) (k + 1)
    same = record {
      operands = record { same_length = rw (length-set, length-set); words = λ i p q. other i (λ w. omega arith) (λ w. omega arith) };
      words = λ i p q. other i (λ w. omega arith) (λ w. omega arith);
    }
