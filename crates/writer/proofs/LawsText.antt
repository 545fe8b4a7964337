-- From the parts to the text: a line of its parts, a step's line by its action, a block's lines, all lines; and what the reader's answer
-- to it says.
use Rattle.std.specs.Prelude.{is_ok}
use mathlib.Core.Path.{◌≡◌, refl, sym, ap, ◌∙◌}
use mathlib.Core.Bool.{true}
use mathlib.Core.List.{List, [], ◌∷◌, ◌++◌, map, append-nil, append_assoc}
use Prim.Native.Nat.{ℕ, suc, zero, ◌+◌, ◌-◌, ◌*◌, ◌≤◌, ◌<◌}
use native.Mathlib.Nat.{add-zero, zero-add}
use native.Mathlib.Numerals.{add-one}
use native.Mathlib.Omega.{arith}
use borrow.Author.Tests.{leb-true}
use lib.Dec.{leb}
use lib.ListN.{length, get_or, drop}
use lib.Seq.{drop-cons, drop-length}
use Rattle.lists.specs.Sets.{Wrote, then}
use Rattle.lists.specs.Split.{and_left, and_right}
use Rattle.lists.specs.Region.{region, length_region}
use Rattle.lists.specs.Bits.{set_bits}
use Rattle.paper.specs.Text.{Bytes, tab, line_feed, digits}
use Rattle.paper.specs.Sheet.{Operand, change, safepoint, Block}
use Rattle.paper.specs.Limits.{max_blocks, max_succs, max_steps, words_size}
use Rattle.paper.specs.Refusals.{typed_record, block_record, step_record, Reading, loaded, refused}
use Rattle.paper.specs.Report.{behind_tabs}
use Rattle.paper.specs.Writing.{operand_texts, letter_of, texts_of, record_text, records_text, block_records, records_of, sheet_text, is_read}
use Rattle.layout.specs.Layout.{operand_base, operand_words, typed_base, typed_words, opened_word, defs_from, succ_base}
use Rattle.cells.specs.Packed.{name_of_word}
use Rattle.loaded.specs.Actions.{operand_of, operands, copy_step, step_of, action_at, steps_at}
use Rattle.loaded.specs.Loaded.{first_step, step_total, succ_total, block_at, blocks_at, marked_from, sheet_of}
use Rattle.loaded.specs.Same.{packs_at}
use Rattle.loaded.specs.declared.CopyKind.{CopyKind}
use Rattle.loaded.specs.declared.CopyKind.TheVariants.{Spill, Reload, Move}
use Rattle.loaded.specs.declared.Action.TheVariants.{Copy, Change, Operation, Safepoint}
use Rattle.sheet.specs.Reading.{loading_of}
use Rattle.spelling.specs.Parted.{row, row_closed}
use Rattle.spelling.specs.Added.{text_append}
use Rattle.writer.specs.Form.{blocks_fit, BlockFits, fits, function_in, groups_text, copy_letter}
use Rattle.writer.specs.Filled.{Filled, whole}

-- lines of their parts

pub row_append : (fs gs : List Bytes) → row (fs ++ gs) ≡ row fs ++ row gs
unfolding row
row_append [] gs = refl
row_append (f ∷ fs) gs = ap (λ (t : Bytes). tab ∷ t) (ap (λ (t : Bytes). f ++ t) (row_append fs gs) ∙ sym (append_assoc f (row fs) (row gs)))

-- a group's count is that of its operands
pub length_operands : (at n : ℕ) (l : List ℕ) → at + n ≤ length l → length (operands at n l) ≡ n
unfolding operands
length_operands at n l h = go (region at n l) ∙ length_region at n l h
  where
    go : (ws : List ℕ) → length (map operand_of ws) ≡ length ws
    go [] = refl
    go (w ∷ ws) = ap suc (go ws)

pub group_row : (count : ℕ) (us : List Operand) → length us ≡ count
    → (tab ∷ digits count) ++ row (operand_texts us) ≡ row (digits (length us) ∷ operand_texts us)
unfolding row
group_row count us e = rw e

pub groups_line : (us ds : List Operand)
    → row (digits (length us) ∷ operand_texts us) ++ (row (digits (length ds) ∷ operand_texts ds) ++ (line_feed ∷ [])) ≡ groups_text us ds
unfolding groups_text
groups_line us ds =
    let fs : List Bytes = digits (length us) ∷ operand_texts us in
    let gs : List Bytes = digits (length ds) ∷ operand_texts ds in
    sym (append_assoc (row fs) (row gs) (line_feed ∷ []))
    ∙ ap (λ (t : Bytes). t ++ (line_feed ∷ [])) (sym (row_append fs gs))
    ∙ sym (row_closed (fs ++ gs))

pub safepoint_text : (inst : ℕ) (slots : List ℕ)
    → (letter_of (step_record (safepoint inst slots)) ∷ tab ∷ digits inst) ++ (row (map digits slots) ++ (line_feed ∷ [])) ≡ record_text (step_record (safepoint inst slots))
unfolding record_text letter_of texts_of behind_tabs
safepoint_text inst slots = rw (row_closed (map digits slots))

pub block_text : (succs : List ℕ) → (letter_of (block_record succs) ∷ []) ++ (row (map digits succs) ++ (line_feed ∷ [])) ≡ record_text (block_record succs)
unfolding record_text letter_of texts_of
block_text succs = rw (row_closed (map digits succs))

-- a step's line, by its action

copy_line : (l l' : List ℕ) (at j : ℕ) (kind : CopyKind) (a b : ℕ) → Wrote l at (copy_letter kind ∷ behind_tabs (digits a ∷ digits b ∷ [])) l' j
    → Wrote l at (record_text (step_record (copy_step kind a b))) l' j
unfolding copy_letter copy_step record_text letter_of texts_of
copy_line l l' at j Spill a b w = w
copy_line l l' at j Reload a b w = w
copy_line l l' at j Move a b w = w

module _ {l l' : List ℕ} {at j : ℕ} (words : List ℕ) (k : ℕ) where
  pub copy_written : {kind : CopyKind} {a b letter : ℕ} → action_at words k ≡ Copy kind a b → letter ≡ copy_letter kind
      → Wrote l at (letter ∷ behind_tabs (digits a ∷ digits b ∷ [])) l' j → Filled l at (record_text (step_record (step_of words (action_at words k)))) l' j
  unfolding step_of
  copy_written {kind} {a} {b} {letter} e q w = whole (rw e (copy_line l l' at j kind a b (rw q at w)))

  pub change_written : {inst slot from to : ℕ} → action_at words k ≡ Change inst slot from to
      → Wrote l at (record_text (step_record (change inst slot (name_of_word from) (name_of_word to)))) l' j
      → Filled l at (record_text (step_record (step_of words (action_at words k)))) l' j
  unfolding step_of
  change_written e w = whole (rw e w)

  pub safepoint_written : {inst mask : ℕ} → action_at words k ≡ Safepoint inst mask
      → Wrote l at (record_text (step_record (safepoint inst (set_bits mask)))) l' j
      → Filled l at (record_text (step_record (step_of words (action_at words k)))) l' j
  unfolding step_of
  safepoint_written e w = whole (rw e w)

  pub operation_written : {l₁ : List ℕ} {inst from uses defs i : ℕ} → action_at words k ≡ Operation inst from uses defs
      → Wrote l at (79 ∷ tab ∷ digits inst) l₁ i → Wrote l₁ i (groups_text (operands from uses words) (operands (from + defs_from) defs words)) l' j
      → Filled l at (record_text (step_record (step_of words (action_at words k)))) l' j
  unfolding step_of record_text letter_of texts_of behind_tabs groups_text
  operation_written e w v = whole (rw e (then w v))

module _ (words : List ℕ) (k : ℕ) where
  pub copy_small : {kind : CopyKind} {a b : ℕ} → action_at words k ≡ Copy kind a b → (a < 64) × (b < 64)
  copy_small e = rw e at (packs_at words k)

  pub change_small : {inst slot from to : ℕ} → action_at words k ≡ Change inst slot from to → slot < 64
  change_small e = rw e at (packs_at words k)

  pub operation_small : {inst from uses defs : ℕ} → action_at words k ≡ Operation inst from uses defs
      → (from ≡ operand_base + k * operand_words) × (uses < 64) × (defs < 64)
  operation_small e = rw e at (packs_at words k)

-- the steps and the blocks that are left

pub steps_left : List ℕ → ℕ → ℕ → ℕ → Bytes
steps_left words first n i = records_text (map step_record (steps_at words (first + i) (n - i)))

module _ (words : List ℕ) (first n : ℕ) where
  pub steps_next : (i : ℕ) → i < n
      → steps_left words first n i ≡ record_text (step_record (step_of words (action_at words (first + i)))) ++ steps_left words first n (i + 1)
  unfolding steps_left steps_at records_text
  steps_next i h =
      let count : n - i ≡ suc (n - (i + 1)) = omega arith in
      let place : first + i + 1 ≡ first + (i + 1) = omega arith in
      rw (count, place)

  pub steps_all : steps_left words first n 0 ≡ records_text (map step_record (steps_at words first n))
  unfolding steps_left
  steps_all = let count : n - 0 ≡ n = omega arith in rw (count, add-zero first)

  pub steps_end : (i : ℕ) → i ≡ n → steps_left words first n i ≡ []
  unfolding steps_left steps_at records_text
  steps_end i e = let count : n - i ≡ 0 = omega arith in rw count

pub block_lines : (words : List ℕ) (b : ℕ)
    → record_text (block_record (region (succ_base b) (succ_total words b) words)) ++ records_text (map step_record (steps_at words (first_step words b) (step_total words b)))
    ≡ records_text (block_records (block_at words b ∷ []))
unfolding block_at block_records records_text
block_lines words b = rw (append-nil (map step_record (steps_at words (first_step words b) (step_total words b))))

first_block : (B : Block) (Bs : List Block) → records_text (block_records (B ∷ Bs)) ≡ records_text (block_records (B ∷ [])) ++ records_text (block_records Bs)
unfolding block_records records_text
first_block B Bs =
    rw (append-nil (map step_record B.steps), text_append (map step_record B.steps) (block_records Bs))
    (sym (append_assoc (record_text (block_record B.succs)) (records_text (map step_record B.steps)) (records_text (block_records Bs))))

pub blocks_left : List ℕ → ℕ → ℕ → Bytes
blocks_left words n b = records_text (block_records (blocks_at words b (n - b)))

module _ (words : List ℕ) (n : ℕ) where
  pub blocks_next : (b : ℕ) → b < n → blocks_left words n b ≡ records_text (block_records (block_at words b ∷ [])) ++ blocks_left words n (b + 1)
  unfolding blocks_left blocks_at
  blocks_next b h =
      let count : n - b ≡ suc (n - (b + 1)) = omega arith in
      rw count (first_block (block_at words b) (blocks_at words (b + 1) (n - (b + 1))))

  pub blocks_all : blocks_left words n 0 ≡ records_text (block_records (blocks_at words 0 n))
  unfolding blocks_left
  blocks_all = let count : n - 0 ≡ n = omega arith in rw count

  pub blocks_begin : n ≡ get_or words opened_word 0 → blocks_left words n 0 ≡ records_text (block_records (blocks_at words 0 (get_or words opened_word 0)))
  blocks_begin e = rw (← e) blocks_all

  pub blocks_end : (b : ℕ) → b ≡ n → blocks_left words n b ≡ []
  unfolding blocks_left blocks_at block_records records_text
  blocks_end b e = let count : n - b ≡ 0 = omega arith in rw count

-- what it says that the words fit

each_fits : (words : List ℕ) (b n i : ℕ) → blocks_fit words b n ≡ true → i < n → BlockFits words (b + i)
unfolding blocks_fit
each_fits words b zero i e h = absurd (omega arith)
each_fits words b (suc n) zero e h = rw (add-zero b) (record {
  succs = leb-true _ _ (and_left _ _ e);
  steps = leb-true _ _ (and_left _ _ (and_right (leb (succ_total words b) max_succs) _ e));
})
each_fits words b (suc n) (suc i) e h =
    let place : b + 1 + i ≡ b + suc i = omega arith in
    let behind = and_right (leb (succ_total words b) max_succs) _ e in
    rw (← place) (each_fits words (b + 1) n i (and_right (leb (first_step words b + step_total words b) max_steps) _ behind) (omega arith))

pub record Fitting (words : List ℕ) : Type 0 where
  pub size : words_size ≤ length words
  pub opened : get_or words opened_word 0 ≤ max_blocks
  pub each : (b : ℕ) → b < get_or words opened_word 0 → BlockFits words b

pub fitting : (words : List ℕ) → fits words ≡ true → Fitting words
unfolding fits
fitting words e =
    let behind = and_right (leb words_size (length words)) _ e in
    record {
      size = leb-true _ _ (and_left _ _ e);
      opened = leb-true _ _ (and_left _ _ behind);
      each = λ b h.
          let all = and_right (leb (get_or words opened_word 0) max_blocks) _ behind in
          rw zero-add at (each_fits words 0 (get_or words opened_word 0) b all h);
    }

-- the whole text
pub whole_text : (words : List ℕ) → record_text (function_in words)
    ++ (records_text (map typed_record (marked_from 0 (region typed_base typed_words words)))
    ++ records_text (block_records (blocks_at words 0 (get_or words opened_word 0))))
    ≡ sheet_text (sheet_of words)
unfolding sheet_text records_of records_text sheet_of
whole_text words =
    rw (text_append (map typed_record (marked_from 0 (region typed_base typed_words words)))
    (block_records (blocks_at words 0 (get_or words opened_word 0))))

-- the reader's answer

pub read_answer : (R : Reading) → is_ok (loading_of R) ≡ is_read R
unfolding loading_of is_read
read_answer (loaded S) = refl
read_answer (refused refusal) = refl

-- the text, laid into a buffer
pub lay_next : (text : Bytes) (i j : ℕ) → i < length text → j ≡ i + 1 → drop i text ≡ (get_or text i 0 ∷ []) ++ drop j text
lay_next text i j h e = rw (e, add-one i, drop-cons text i 0 h)

pub lay_end : (text : Bytes) (i : ℕ) → i ≡ length text → drop i text ≡ []
lay_end text i e = rw (e, drop-length text)
