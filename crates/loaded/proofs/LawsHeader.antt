-- What `F` and `T` store: the header and the typed names, before any block.
use mathlib.Core.Path.{◌≡◌, refl, sym, ap, ◌∙◌}
use mathlib.Core.Bool.{true}
use mathlib.Core.List.{List, [], ◌∷◌, ◌++◌}
use Prim.Native.Nat.{ℕ, ◌+◌, ◌≤◌, ◌<◌}
use native.Mathlib.Nat.{not-suc-le-zero}
use native.Mathlib.Omega.{arith}
use borrow.Author.Tests.{le-leb}
use lib.ListN.{length, get_or, set, drop, length-set, length-drop}
use lib.Seq.{sets, sets-eq, drop-drop, get_or-set_same, get_or-set_other, take-set-lt, drop-set-lt, drop-set-add}
use Rattle.lists.specs.Region.{region, length_region}
use Rattle.paper.specs.Refusals.{function_record, typed_record, add_record, ascending, step_count}
use Rattle.layout.specs.Layout.{vregs_word, opened_word, steps_word, least_typed_word, begun_word, typed_base, typed_words}
use Rattle.loaded.specs.Filling.{FunctionWithin, Blank, Begun, RecordStored}
use Rattle.loaded.specs.Loaded.{blocks_at, marked_from, sheet_of, Bounds}
use Rattle.loaded.specs.Typed.{none_typed, marks_more, ascending_more, ascending_one}

-- `F`

module _ (l : List ℕ) (blank : Blank l) (regs slots vregs blocks entry : ℕ) (within : FunctionWithin regs slots vregs blocks entry) where
  -- the words with the header
  headed : List ℕ
  headed = regs ∷ slots ∷ vregs ∷ blocks ∷ entry ∷ 0 ∷ 0 ∷ 0 ∷ 1 ∷ drop 9 l

  typed_none : marked_from 0 (region typed_base typed_words headed) ≡ []
  unfolding headed region
  typed_none = rw (drop-drop 7 9 l) (none_typed l blank)

  headed_length : length headed ≡ length l
  unfolding headed
  headed_length = simp length-drop (omega (arith, blank.size))

  headed_bounds : Bounds headed
  unfolding headed
  headed_bounds = record {
    size = rw headed_length blank.size;
    regs = within.regs_most;
    slots = within.slots_most;
    vregs = within.vregs_most;
    blocks = within.blocks_most;
    entry = within.entry_below;
    opened = omega arith;
    steps = omega arith;
    each_block = λ b h. absurd (not-suc-le-zero h);
    each_step = λ k h. absurd (not-suc-le-zero h);
  }

  headed_begun : Begun headed
  unfolding headed blocks_at step_count
  headed_begun = record {
    begun = refl;
    bounds = headed_bounds;
    least = λ n. rw typed_none (ascending_one n);
    counted = refl;
    last = λ b e. absurd (omega arith);
  }

  headed_meaning : sheet_of headed ≡ add_record (sheet_of l) (function_record regs slots vregs blocks entry)
  unfolding headed sheet_of add_record blocks_at
  headed_meaning = ap (λ (t : List ℕ). record { regs = regs; slots = slots; vregs = vregs; blocks = blocks; entry = entry; typed = t; body = [] }) typed_none

  pub function_stored : (m : List ℕ) → m ≡ sets l 0 (regs ∷ slots ∷ vregs ∷ blocks ∷ entry ∷ 0 ∷ 0 ∷ 0 ∷ 1 ∷ [])
      → RecordStored l m (function_record regs slots vregs blocks entry)
  unfolding headed
  function_stored m e =
      let q : m ≡ headed = e ∙ sets-eq (regs ∷ slots ∷ vregs ∷ blocks ∷ entry ∷ 0 ∷ 0 ∷ 0 ∷ 1 ∷ []) l 0 (omega (arith, blank.size)) in
      rw q (record { same_length = headed_length; meaning = headed_meaning; progress = headed_begun })

-- `T`

-- a word of a region, stored
region_set : (at n : ℕ) (l : List ℕ) (i v : ℕ) → i < n → region at n (set l (at + i) v) ≡ set (region at n l) i v
unfolding region
region_set at n l i v h = rw (drop-set-add at l i v, take-set-lt n (drop at l) i v h)

region_behind : (at n : ℕ) (l : List ℕ) (i v : ℕ) → i < at → region at n (set l i v) ≡ region at n l
unfolding region
region_behind at n l i v h = rw (drop-set-lt at l i v h)

module _ (l : List ℕ) (begun : Begun l) (n : ℕ) (none : get_or l opened_word 0 ≡ 0) (below : n < get_or l vregs_word 0) (order : get_or l least_typed_word 0 ≤ n) where
  typed_now : List ℕ
  typed_now = marked_from 0 (region typed_base typed_words l)

  in_order : ascending (typed_now ++ (n ∷ [])) ≡ true
  unfolding typed_now
  in_order = begun.least n ∙ le-leb _ _ order

  small : n < typed_words
  small = omega (arith, begun.bounds.vregs)

  module _ (m : List ℕ) (e : m ≡ set (set l (typed_base + n) 1) least_typed_word (n + 1)) where
    typed_after : marked_from 0 (region typed_base typed_words m) ≡ typed_now ++ (n ∷ [])
    unfolding typed_now
    typed_after =
        rw (e, region_behind typed_base typed_words (set l (typed_base + n) 1) least_typed_word (n + 1) (omega arith), region_set typed_base typed_words l n 1 small)
        (marks_more (region typed_base typed_words l) n (rw (length_region typed_base typed_words l (omega (arith, begun.bounds.size))) small) in_order)

    -- the other words of the header
    header : (i : ℕ) → i < typed_base → (i ≡ least_typed_word → ⊥) → get_or m i 0 ≡ get_or l i 0
    header i h d = rw e (get_or-set_other (set l (typed_base + n) 1) least_typed_word i (n + 1) 0 d ∙ get_or-set_other l (typed_base + n) i 1 0 (λ q. omega arith))

    size : length m ≡ length l
    size = rw (e, length-set, length-set)

    least_after : get_or m least_typed_word 0 ≡ n + 1
    least_after = rw e (get_or-set_same (set l (typed_base + n) 1) least_typed_word (n + 1) 0 (rw length-set (omega (arith, begun.bounds.size))))

    no_steps : get_or l steps_word 0 ≡ 0
    unfolding step_count blocks_at
    no_steps = sym (rw none at begun.counted)

    typed_bounds : Bounds m
    typed_bounds =
        let old = begun.bounds in
        let h : (i : ℕ) → i < 7 → get_or m i 0 ≡ get_or l i 0 = λ i q. header i (omega arith) (λ w. omega arith) in
        record {
          size = rw size old.size;
          regs = rw (h 0 (omega arith)) old.regs;
          slots = rw (h 1 (omega arith)) old.slots;
          vregs = rw (h 2 (omega arith)) old.vregs;
          blocks = rw (h 3 (omega arith)) old.blocks;
          entry = rw (h 3 (omega arith), h 4 (omega arith)) old.entry;
          opened = rw (h 3 (omega arith), h 5 (omega arith)) old.opened;
          steps = rw (h 6 (omega arith)) old.steps;
          each_block = λ b q. absurd (omega (arith, h 5 (omega arith)));
          each_step = λ k q. absurd (omega (arith, h 6 (omega arith), no_steps));
        }

    typed_begun : Begun m
    unfolding blocks_at step_count
    typed_begun =
        let opened : get_or m opened_word 0 ≡ 0 = header opened_word (omega arith) (λ w. omega arith) ∙ none in
        let steps : get_or m steps_word 0 ≡ 0 = header steps_word (omega arith) (λ w. omega arith) ∙ no_steps in
        record {
          begun = header begun_word (omega arith) (λ w. omega arith) ∙ begun.begun;
          bounds = typed_bounds;
          least = λ k. rw (typed_after, least_after) (ascending_more typed_now n k in_order);
          counted = rw (opened, steps);
          last = λ b q. absurd (omega arith);
        }

    typed_meaning : sheet_of m ≡ add_record (sheet_of l) (typed_record n)
    unfolding sheet_of add_record blocks_at typed_now
    typed_meaning =
        let h : (i : ℕ) → i < 7 → get_or m i 0 ≡ get_or l i 0 = λ i q. header i (omega arith) (λ w. omega arith) in
        rw (typed_after, h 0 (omega arith), h 1 (omega arith), h 2 (omega arith), h 3 (omega arith), h 4 (omega arith), h 5 (omega arith), none)

    pub typed_stored : RecordStored l m (typed_record n)
    typed_stored = record { same_length = size; meaning = typed_meaning; progress = typed_begun }
