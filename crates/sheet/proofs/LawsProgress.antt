-- How far reading has come, in the paper's words: the sheet so far, the place of a line, and what a line is held against.
use mathlib.Core.Path.{◌≡◌, refl, sym}
use mathlib.Core.Bool.{false, not, ◌||◌, true≢false}
use mathlib.Core.List.{List}
use mathlib.Core.Option.{none, some}
use Prim.Native.Nat.{ℕ, zero, suc, ◌≤◌, ◌<◌}
use native.Mathlib.Omega.{arith}
use borrow.Author.Tests.{not-false, ne_eqb, eqb-true, eqb-false, leb-false}
use lib.Dec.{eqb, leb}
use lib.ListN.{length, get_or}
use Rattle.lists.specs.Region.{region}
use Rattle.paper.specs.Text.{Bytes}
use Rattle.paper.specs.Sheet.{Step}
use Rattle.paper.specs.Limits.{max_steps}
use Rattle.paper.specs.Refusals.{function_record, typed_record, block_record, step_record, empty, out_of_place, step_too_many, step_count, blank, so_far_of}
use Rattle.layout.specs.Layout.{blocks_word, opened_word, steps_word, least_typed_word, begun_word, typed_base, typed_words, all_words}
use Rattle.records.specs.Records.{InPlace, Placed, Counted, CountsWithin, TypedBy, Least}
use Rattle.loaded.specs.declared.Counts.{Counts}
use Rattle.records.specs.declared.Place.{Place}
use Rattle.loaded.specs.declared.Reached.{Reached}
use Rattle.loaded.specs.Loaded.{reached_of, blocks_at, sheet_of, so_far, counts_of}
use Rattle.loaded.specs.Filling.{Blank, Begun}
use Rattle.sheet.specs.Reading.{Progress, step_place}
use Rattle.sheet.specs.Reading as reading
use Rattle.loaded.specs.Typed.{listed_marked, ascending_one, none_typed}
use Rattle.loaded.specs.Blocks.{length_blocks}

-- the sheet so far

pub so_far_blank : (l : List ℕ) → Blank l → so_far l ≡ none
unfolding so_far
so_far_blank l p = rw (p.zeros begun_word (omega arith))

pub so_far_begun : (l : List ℕ) → Begun l → so_far l ≡ some (sheet_of l)
unfolding so_far
so_far_begun l p = rw p.begun

pub sheet_blank : (l : List ℕ) → Blank l → sheet_of l ≡ blank
unfolding sheet_of blocks_at
sheet_blank l p =
    rw (
      p.zeros 0 (omega arith),
      p.zeros 1 (omega arith),
      p.zeros 2 (omega arith),
      p.zeros 3 (omega arith),
      p.zeros 4 (omega arith),
      p.zeros 5 (omega arith),
      none_typed l p,
    )

-- before the `F` too, the words are those of the sheet so far
pub sheet_so_far : (l : List ℕ) → Progress l → so_far_of (so_far l) ≡ sheet_of l
sheet_so_far l (reading.blank p) = rw (so_far_blank l p) (sym (sheet_blank l p))
sheet_so_far l (reading.begun p) = rw (so_far_begun l p)

pub size_of : (l : List ℕ) → Progress l → all_words ≤ length l
size_of l (reading.blank p) = p.size
size_of l (reading.begun p) = p.bounds.size

-- where the `F` has not been read, and where it has and no `B`
module _ (l : List ℕ) (p : Progress l) {r : Reached} (e : r ≡ reached_of l) where
  pub blank_of : r.begun ≡ false → Blank l
  blank_of b = go p (rw e at b)
    where
      go : Progress l → not (eqb (get_or l begun_word 0) 0) ≡ false → Blank l
      go (reading.blank p) b = p
      go (reading.begun p) b = absurd (true≢false (rw p.begun at b))

  pub typed_ready : (not r.begun || not (eqb r.opened 0)) ≡ false → Begun l × (get_or l opened_word 0 ≡ 0)
  typed_ready b = go p (rw e at b)
    where
      go : Progress l → (not (not (eqb (get_or l begun_word 0) 0)) || not (eqb (get_or l opened_word 0) 0)) ≡ false → Begun l × (get_or l opened_word 0 ≡ 0)
      go (reading.blank p) b = absurd (true≢false (rw (p.zeros begun_word (omega arith)) at b))
      go (reading.begun p) b = (p, eqb-true _ _ (not-false _ (rw p.begun at b)))

  -- there is room for a block
  pub room_of : {blocks : ℕ} → blocks ≡ get_or l blocks_word 0 → leb blocks r.opened ≡ false → get_or l opened_word 0 < get_or l blocks_word 0
  room_of n b = leb-false (get_or l blocks_word 0) (get_or l opened_word 0) (rw (e, n) at b)

begun_by_opened : (l : List ℕ) → Progress l → (get_or l opened_word 0 ≡ 0 → ⊥) → Begun l
begun_by_opened l (reading.blank p) d = absurd (d (p.zeros opened_word (omega arith)))
begun_by_opened l (reading.begun p) d = p

pub begun_by_room : (l : List ℕ) → Progress l → get_or l opened_word 0 < get_or l blocks_word 0 → Begun l
begun_by_room l (reading.blank p) h = absurd (omega (arith, p.zeros blocks_word (omega arith)))
begun_by_room l (reading.begun p) h = p

-- where a step is in its place, there is a block that it belongs to and room for it
pub record Ready (l : List ℕ) : Type 0 where
  pub some_sheet : Begun l
  pub some_block : 0 < get_or l opened_word 0
  pub some_room : get_or l steps_word 0 < max_steps

pub step_ready : {l : List ℕ} {s : Bytes} {place : Place} {next : ℕ} → Progress l → place ≡ step_place l → InPlace s place next → Ready l
step_ready {l} {s} {place} {next} p e w =
    let placed : eqb (get_or l opened_word 0) 0 ≡ false = rw e at w.placed in
    let room : leb max_steps (get_or l steps_word 0) ≡ false = rw e at w.room in
    let opened = eqb-false (get_or l opened_word 0) 0 placed in
    record { some_sheet = begun_by_opened l p opened; some_block = omega (arith, opened); some_room = leb-false max_steps (get_or l steps_word 0) room }

-- the place of a line

empty_blocks : (l : List ℕ) (n : ℕ) → empty (blocks_at l 0 n) ≡ eqb n 0
unfolding empty blocks_at
empty_blocks l zero = refl
empty_blocks l (suc n) = sym (ne_eqb (suc n) 0 (λ e. omega arith))

module _ (l : List ℕ) where
  function_place : (p : Progress l) (a b c d e : ℕ) → out_of_place (so_far l) (function_record a b c d e) ≡ not (eqb (get_or l begun_word 0) 0)
  unfolding out_of_place
  function_place (reading.blank p) a b c d e = rw (so_far_blank l p, p.zeros begun_word (omega arith))
  function_place (reading.begun p) a b c d e = rw (so_far_begun l p, p.begun)

  typed_place : (p : Progress l) (n : ℕ) → out_of_place (so_far l) (typed_record n) ≡ (not (not (eqb (get_or l begun_word 0) 0)) || not (eqb (get_or l opened_word 0) 0))
  unfolding out_of_place sheet_of
  typed_place (reading.blank p) n = rw (so_far_blank l p, p.zeros begun_word (omega arith))
  typed_place (reading.begun p) n = rw (so_far_begun l p, p.begun, empty_blocks l (get_or l opened_word 0))

  block_place : (p : Progress l) (ns : List ℕ) → out_of_place (so_far l) (block_record ns) ≡ leb (get_or l blocks_word 0) (get_or l opened_word 0)
  unfolding out_of_place sheet_of
  block_place (reading.blank p) ns = rw (so_far_blank l p, p.zeros blocks_word (omega arith), p.zeros opened_word (omega arith))
  block_place (reading.begun p) ns = rw (so_far_begun l p, length_blocks l 0 (get_or l opened_word 0))

  step_out : (p : Progress l) (x : Step) → out_of_place (so_far l) (step_record x) ≡ eqb (get_or l opened_word 0) 0
  unfolding out_of_place sheet_of
  step_out (reading.blank p) x = rw (so_far_blank l p, p.zeros opened_word (omega arith))
  step_out (reading.begun p) x = rw (so_far_begun l p, empty_blocks l (get_or l opened_word 0))

  steps_many : (p : Progress l) (x : Step) → step_too_many (sheet_of l) (step_record x) ≡ leb max_steps (get_or l steps_word 0)
  unfolding step_too_many sheet_of blocks_at step_count
  steps_many (reading.blank p) x = rw (p.zeros opened_word (omega arith), p.zeros steps_word (omega arith))
  steps_many (reading.begun p) x = rw p.counted

module _ (l : List ℕ) (p : Progress l) where
  pub function_placed : {r : Reached} → r ≡ reached_of l → (a b c d e : ℕ) → Placed (so_far l) (function_record a b c d e) (record { misplaced = r.begun; surplus = false })
  unfolding step_too_many
  function_placed q a b c d e = rw q (record { where_it_stands = function_place l p a b c d e; how_many = refl })

  pub typed_placed : {r : Reached} → r ≡ reached_of l → (n : ℕ) → Placed (so_far l) (typed_record n) (record { misplaced = not r.begun || not (eqb r.opened 0); surplus = false })
  unfolding step_too_many
  typed_placed q n = rw q (record { where_it_stands = typed_place l p n; how_many = refl })

  pub block_placed : {r : Reached} {blocks : ℕ} → r ≡ reached_of l → blocks ≡ get_or l blocks_word 0 → (ns : List ℕ)
      → Placed (so_far l) (block_record ns) (record { misplaced = leb blocks r.opened; surplus = false })
  unfolding step_too_many
  block_placed q e ns = rw (q, e) (record { where_it_stands = block_place l p ns; how_many = refl })

  pub step_placed : (place : Place) → place ≡ step_place l → (x : Step) → Placed (so_far l) (step_record x) place
  step_placed place e x = rw e (record { where_it_stands = step_out l p x; how_many = rw (sheet_so_far l p) (steps_many l p x) })

-- what a line is held against

module _ (l : List ℕ) where
  pub counted_of : Counted (sheet_of l) (counts_of l)
  unfolding sheet_of
  counted_of = record { regs = refl; slots = refl; vregs = refl; blocks = refl }

  pub counts_within : Progress l → CountsWithin (counts_of l)
  counts_within (reading.blank p) =
      let z : (i : ℕ) → i < 4 → get_or l i 0 ≤ 0 = λ i h. omega (arith, p.zeros i (omega arith)) in
      record { regs = omega (arith, z 0 (omega arith)); slots = omega (arith, z 1 (omega arith)); vregs = omega (arith, z 2 (omega arith)); blocks = omega (arith, z 3 (omega arith)) }
  counts_within (reading.begun p) = record { regs = p.bounds.regs; slots = p.bounds.slots; vregs = p.bounds.vregs; blocks = p.bounds.blocks }

  pub within_by : (counts : Counts) → counts ≡ counts_of l → Progress l → CountsWithin counts
  within_by counts e p = rw e (counts_within p)

  pub typed_by : TypedBy (sheet_of l) (region typed_base typed_words l)
  unfolding sheet_of
  typed_by = record { agrees = λ n h. listed_marked (region typed_base typed_words l) n }

  least_of : Progress l → Least (sheet_of l) (get_or l least_typed_word 0)
  unfolding sheet_of
  least_of (reading.blank p) = record { agrees = λ n. rw (none_typed l p, p.zeros least_typed_word (omega arith)) (ascending_one n) }
  least_of (reading.begun p) = record { agrees = p.least }

-- the same of the sheet so far
module _ (l : List ℕ) (p : Progress l) where
  pub so_far_counted : (counts : Counts) → counts ≡ counts_of l → Counted (so_far_of (so_far l)) counts
  so_far_counted counts e = rw (sheet_so_far l p, e) (counted_of l)

  pub so_far_typed : TypedBy (so_far_of (so_far l)) (region typed_base typed_words l)
  so_far_typed = rw (sheet_so_far l p) (typed_by l)

  pub so_far_least : {r : Reached} → r ≡ reached_of l → Least (so_far_of (so_far l)) r.least
  so_far_least e = rw (sheet_so_far l p, e) (least_of l p)
