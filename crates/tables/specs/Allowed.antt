-- What a loaded sheet gives the analysis: its entry and successors are blocks, and where no allocation is missing its steps can
-- be run.
use Rattle.std.specs.Prelude.{◌≡◌, List, [], ◌∷◌, ℕ, suc, ◌+◌, ◌-◌, ◌≤◌, ◌<◌, length, get_or}
use Rattle.std.proofs.Common.{sym, arith}
use Rattle.lists.specs.Region.{region, length_region, getD_region}
use Rattle.lists.specs.Split.{by_order}
use Rattle.paper.specs.Sheet.{succs_of, reference_typed}
use Rattle.paper.specs.Report.{missing_allocations}
use Rattle.paper.specs.Walks.{In, here, there}
use Rattle.layout.specs.Layout.{blocks_word, opened_word, succ_base}
use Rattle.walks.specs.Choices.{in_nil}
use Rattle.walks.specs.Bounds.{Closed}
use Rattle.loaded.specs.Actions.{Runnable, StepsMarked}
use Rattle.loaded.specs.Loaded.{first_step, step_total, succ_total, sheet_of, Loaded, counts_in}
use Rattle.loaded.specs.Blocks.{succs_in_words, succs_beyond}
use Rattle.loaded.specs.Allocated.{opened_block, in_range_at, honest_at}

-- where an element of a list stands
record Found (a : ℕ) (l : List ℕ) : Type 0 where
  place : ℕ
  inside : place < length l
  is : get_or l place 0 ≡ a

found : (a : ℕ) (l : List ℕ) → In a l → Found a l
found a (x ∷ l) (here e) = record { place = 0; inside = omega arith; is = sym e }
found a (x ∷ l) (there i) = let f = found a l i in record { place = suc f.place; inside = omega (arith, f.inside); is = f.is }
found a [] x' = elim x' [ ]

pub loaded_closed : {words : List ℕ} → Loaded words → Closed (sheet_of words)
unfolding sheet_of
loaded_closed {words} L = record { entry_in = L.bounds.entry; succs_in = λ b s. by_order b (get_or words opened_word 0) (known b s) (beyond b s) }
  where
    known : (b s : ℕ) → b < get_or words opened_word 0 → In s (succs_of (sheet_of words) b) → s < get_or words blocks_word 0
    known b s h i =
        let e = L.bounds.each_block b h in
        let fits : succ_base b + succ_total words b ≤ length words = omega (arith, e.succs, L.bounds.opened, L.bounds.blocks, L.bounds.size) in
        let f = found s (region (succ_base b) (succ_total words b) words) (rw (succs_in_words words b h) at i) in
        let l : f.place < succ_total words b = omega (arith, f.inside, length_region (succ_base b) (succ_total words b) words fits) in
        omega (arith, e.below f.place l, f.is, getD_region (succ_base b) (succ_total words b) words f.place l)

    beyond : (b s : ℕ) → get_or words opened_word 0 ≤ b → In s (succs_of (sheet_of words) b) → s < get_or words blocks_word 0
    beyond b s h i = absurd (in_nil (rw (succs_beyond words b h) at i))

-- the steps of a block of a loaded sheet
module _ {words : List ℕ} (L : Loaded words) (b : ℕ) (h : b < get_or words blocks_word 0) where
  pub loaded_runnable : missing_allocations (sheet_of words) ≡ [] → Runnable (counts_in words) words (first_step words b) (step_total words b)
  loaded_runnable e = record {
    rows_fit = (L.bounds.regs, (L.bounds.slots, tt));
    steps_fit = omega (arith, (L.bounds.each_block b (opened_block L b h)).steps, L.bounds.steps);
    words_fit = L.bounds.size;
    in_range = λ k hk lk. let z : first_step words b + (k - first_step words b) ≡ k = omega arith in rw z at (in_range_at L b h e (k - first_step words b) (omega arith));
  }

  pub loaded_honest : StepsMarked (reference_typed (sheet_of words)) words (first_step words b) (step_total words b)
  loaded_honest k hk lk = let z : first_step words b + (k - first_step words b) ≡ k = omega arith in rw z at (honest_at L b h (k - first_step words b) (omega arith))
