-- The operands of the next step, stored before it: nothing that was read changes, and the action finds them there.
use mathlib.Core.Path.{◌≡◌, sym, ap, ◌∙◌}
use mathlib.Core.List.{List, map}
use Prim.Native.Nat.{ℕ, ◌+◌, ◌*◌, ◌≤◌, ◌<◌}
use native.Mathlib.Nat.{add-zero, zero-add}
use native.Mathlib.Omega.{arith}
use lib.ListN.{length, get_or}
use lib.Seq.{ext_get_or}
use Rattle.lists.specs.Over.{over, length_over, getD_over_in, getD_over_below}
use Rattle.lists.specs.Region.{region, length_region, getD_region}
use Rattle.paper.specs.Sheet.{Sheet, operation}
use Rattle.paper.specs.Refusals.{Record, add_record}
use Rattle.paper.specs.Limits.{max_operands}
use Rattle.layout.specs.Layout.{regs_word, opened_word, steps_word, block_base, block_words, operand_base, defs_from, operand_words}
use Rattle.loaded.specs.Filling.{GroupWithin, Begun, StepFits, RecordStored}
use Rattle.loaded.specs.Actions.{operand_of, operands, step_of}
use Rattle.loaded.specs.declared.Action.TheVariants.{Operation}
use Rattle.loaded.specs.Loaded.{step_total, blocks_at, sheet_of}
use Rattle.loaded.specs.Same.{SameSteps}
use Rattle.loaded.specs.Blocks.{SameHead, SameLinks, kept_step_bounds, kept_block_bounds, kept_blocks, same_first}
use Rattle.loaded.proofs.LawsBody.{with_body, bounds_after, least_after, begun_after, meaning_after}

-- the place of the next step's operands
abbrev pub operands_place : List ℕ → ℕ
operands_place l = operand_base + get_or l steps_word 0 * operand_words

module _ (row l m : List ℕ) (e : m ≡ over (operands_place l) operand_words (λ k x. get_or row k 0) l) where
  size : length m ≡ length l
  size = rw e (length_over _ _ _ l)

  low : (i : ℕ) → i < operands_place l → get_or m i 0 ≡ get_or l i 0
  low i h = rw e (getD_over_below (operands_place l) operand_words (λ k x. get_or row k 0) l i 0 h)

  pub counts_still : (get_or m opened_word 0 ≡ get_or l opened_word 0) × (get_or m steps_word 0 ≡ get_or l steps_word 0)
  counts_still = (low opened_word (omega arith), low steps_word (omega arith))

  module _ (p : Begun l) where
    head : SameHead l m
    head = record { words = λ i h a b. low i (omega arith) }

    steps : SameSteps l m (get_or l steps_word 0)
    steps = record { operands = record { same_length = size; words = λ i a b. low i b }; words = λ i a b. low i (omega (arith, p.bounds.steps)) }

    links : (b : ℕ) → b < get_or l opened_word 0 → SameLinks l m b
    links b h = record { words = λ i a d. low (block_base + b * block_words + i) (omega (arith, p.bounds.opened, p.bounds.blocks)) }

    totals : (b : ℕ) → b < get_or l opened_word 0 → step_total m b ≡ step_total l b
    totals b h = low (block_base + b * block_words + 1) (omega (arith, p.bounds.opened, p.bounds.blocks))

    opened : get_or m opened_word 0 ≡ get_or l opened_word 0
    opened = low opened_word (omega arith)

    count : get_or m steps_word 0 ≡ get_or l steps_word 0
    count = low steps_word (omega arith)

    body : blocks_at m 0 (get_or m opened_word 0) ≡ blocks_at l 0 (get_or l opened_word 0)
    body = rw opened (kept_blocks p.bounds head steps (get_or l opened_word 0) (omega arith) links totals)

    pub begun_still : Begun m
    begun_still = record {
      begun = begun_after p head steps;
      bounds = bounds_after p head steps (rw opened p.bounds.opened) (rw count p.bounds.steps)
          (λ b h. let q : b < get_or l opened_word 0 = rw opened at h in kept_block_bounds p.bounds head steps b q (links b q) (totals b q) (omega (arith, count)))
          (λ k h. kept_step_bounds p.bounds head steps k (rw count at h));
      least = least_after p head steps;
      counted = rw (body, count) p.counted;
      last = λ b q.
          let h : b + 1 ≡ get_or l opened_word 0 = q ∙ opened in
          rw (same_first p.bounds head steps b (omega arith) (links b (omega arith)), totals b (omega arith), count) (p.last b h);
    }

    pub sheet_still : sheet_of m ≡ sheet_of l
    unfolding sheet_of with_body
    sheet_still = meaning_after p head steps ∙ ap (with_body l) body

  -- one record more from here is one more from there
  pub stored_from : Begun l → {l' : List ℕ} {r x : Record} → r ≡ x → RecordStored m l' r → RecordStored l l' x
  stored_from p {l'} {r} q stored = record {
    same_length = stored.same_length ∙ size;
    meaning = stored.meaning ∙ ap (λ (S : Sheet). add_record S r) (sheet_still p) ∙ ap (add_record (sheet_of l)) q;
    progress = stored.progress;
  }

  module _ (all : length row ≡ operand_words) (room : operands_place l + operand_words ≤ length l) where
    word_stored : (i : ℕ) → i < operand_words → get_or m (operands_place l + i) 0 ≡ get_or row i 0
    word_stored i h = rw e (getD_over_in (operands_place l) operand_words (λ k x. get_or row k 0) l i 0 h (omega arith))

    group_stored : (from count : ℕ) → from + count ≤ operand_words → operands (operands_place l + from) count m ≡ operands from count row
    unfolding operands region
    group_stored from count h =
        sym (ap (map operand_of)
        (ext_get_or 0 (region from count row) (region (operands_place l + from) count m)
        (length_region from count row (omega arith) ∙ sym (length_region (operands_place l + from) count m (omega (arith, size)))) λ i q.
        let qc : i < count = omega (arith, length_region from count row (omega arith)) in
        let place : operands_place l + from + i ≡ operands_place l + (from + i) = omega arith in
        getD_region from count row i qc ∙ sym (word_stored (from + i) (omega arith)) ∙ rw (← place) (sym (getD_region (operands_place l + from) count m i qc))))

    pub operation_stored : (inst n k : ℕ) → n ≤ max_operands → k ≤ max_operands
        → step_of m (Operation inst (operands_place l) n k) ≡ operation inst (operands 0 n row) (operands defs_from k row)
    unfolding step_of
    operation_stored inst n k hn hk = rw (← group_stored 0 n (omega arith), ← group_stored defs_from k (omega arith), add-zero)

    pub operation_fits : Begun l → (inst n k : ℕ) → GroupWithin (sheet_of l) (get_or l regs_word 0) 0 n row → GroupWithin (sheet_of l) (get_or l regs_word 0) defs_from k row
        → StepFits m (Operation inst (operands_place l) n k)
    operation_fits p inst n k us ds = record {
      packs = (rw (low steps_word (omega arith)), omega (arith, us.few), omega (arith, ds.few));
      ranged = rw (low regs_word (omega arith)) (
        us.few,
        ds.few,
        rw size room,
        (λ i h. rw (word_stored i (omega (arith, us.few))) (rw zero-add at (us.registers i h))),
        λ i h. rw (def_place i, word_stored (defs_from + i) (omega (arith, ds.few))) (ds.registers i h),
      );
      honest = λ i h.
          rw (sheet_still p, def_place i, word_stored (defs_from + i) (omega (arith, ds.few)))
          (ds.marks i h);
    }
      where
        def_place : (i : ℕ) → operands_place l + defs_from + i ≡ operands_place l + (defs_from + i)
        def_place i = omega arith

pub operands_room : (l : List ℕ) → Begun l → operands_place l + operand_words ≤ length l
operands_room l p = omega (arith, p.bounds.steps, p.bounds.size)
