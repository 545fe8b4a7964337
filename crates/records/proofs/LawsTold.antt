-- What is told of a line: of one whose form is bad, of one that is judged; and the lines of numbers alone.
use mathlib.Core.Path.{◌≡◌, refl, sym, ap, ◌∙◌}
use mathlib.Core.Bool.{Bool, true, false, not, ◌||◌}
use mathlib.Core.List.{List, ◌∷◌}
use mathlib.Core.Option.{Option, none, some}
use Prim.Native.Nat.{ℕ, ◌≤◌}
use native.Mathlib.Omega.{arith}
use borrow.Author.Tests.{le-leb, lt-leb, le-ltb, lt-ltb, leb-false, ltb-false}
use lib.Dec.{eqb, leb, ltb}
use lib.ListN.{length, get_or, take}
use lib.Seq.{get_or-take}
use Rattle.lists.specs.Split.{by_test, by_order, or_left, or_right}
use Rattle.paper.specs.Limits.{max_regs, max_slots, max_vregs, max_blocks}
use Rattle.paper.specs.Text.{Bytes}
use Rattle.paper.specs.Sheet.{Step, Sheet}
use Rattle.paper.specs.Refusals.{Record, function_record, typed_record, block_record, step_record, function_of, typed_of, block_of, two_numbers_of, beyond_limit, out_of_order, real_elsewhere, types_differ, any, so_far_of, Condition, first_holding, conditions}
use Rattle.fields.specs.Fields.{fields_behind}
use Rattle.loaded.specs.declared.Counts.{Counts}
use Rattle.records.specs.declared.Place.{Place}
use Rattle.records.specs.declared.Breach.{Breach}
use Rattle.std.specs.Prelude.{Ok, Err}
use Rattle.std.specs.Result.{IsErrAnd}
use Rattle.std.specs.declared.result.Result.{Result}
use Rattle.records.specs.Records.{holding, judged_of, good, bad, told_by, told, Placed, Ends, Counted, Least, Paired, InPlace, PairWithin}
use Rattle.loaded.specs.Filling.{FunctionWithin, BlockWithin}
use Rattle.records.specs.Parts.{few_numbers, NumbersKept, exactly, ExactlyKept}
use Rattle.records.specs.declared.Numbers.{Numbers}
use Rattle.records.proofs.LawsNumbers.{typed_exactly, pair_exactly, function_exactly, block_few}
use Rattle.records.proofs.LawsSearch.{any_each}

-- what was tested

-- nothing that was tested holds
pub record Clear (place : Place) (beyond disorder elsewhere differ : Bool) : Type 0 where
  pub placed : place.misplaced ≡ false
  pub within : beyond ≡ false
  pub ordered : disorder ≡ false
  pub home : elsewhere ≡ false
  pub alike : differ ≡ false
  pub room : place.surplus ≡ false

some≢none : {A : Type 0} {a : A} → ◌≡◌ {A = Option A} (some a) none → ⊥
some≢none {A} {a} e = let z : ◌≡◌ {A = ℕ} 0 1 = cc in omega arith

-- a condition that does not hold
pub passed : (n : ℕ) (b : Bool) (cs : List Condition) → first_holding (record { number = n; holds = b } ∷ cs) ≡ none → (b ≡ false) × (first_holding cs ≡ none)
unfolding first_holding
passed n true cs e = absurd (some≢none e)
passed n false cs e = (refl, e)

none_holding : (place : Place) (beyond disorder elsewhere differ : Bool) → first_holding (holding place beyond disorder elsewhere differ) ≡ none
    → Clear place beyond disorder elsewhere differ
unfolding holding
none_holding place beyond disorder elsewhere differ e =
    let a = passed 4 place.misplaced _ e in
    let b = passed 5 beyond _ a.1 in
    let c = passed 6 disorder _ b.1 in
    let d = passed 7 elsewhere _ c.1 in
    let f = passed 8 differ _ d.1 in
    let g = passed 9 place.surplus _ f.1 in
    record { placed = a.0; within = b.0; ordered = c.0; home = d.0; alike = f.0; room = g.0 }

-- what was tested is what document 01 asks of the line; beyond a limit nothing behind it plays a part
pub record Tested (so : Option Sheet) (r : Record) (place : Place) (beyond disorder elsewhere differ : Bool) : Type 0 where
  pub placed : Placed so r place
  pub limit : beyond ≡ beyond_limit (so_far_of so) r
  pub order : beyond ≡ false → disorder ≡ out_of_order (so_far_of so) r
  pub home : beyond ≡ false → elsewhere ≡ real_elsewhere r
  pub types : beyond ≡ false → differ ≡ types_differ (so_far_of so) r

pub as_tested : {so : Option Sheet} {r : Record} {place : Place} {beyond disorder elsewhere differ : Bool} → Tested so r place beyond disorder elsewhere differ
    → first_holding (holding place beyond disorder elsewhere differ) ≡ first_holding (conditions so r)
unfolding holding conditions first_holding
as_tested {so} {r} {place} {beyond} t =
    by_test beyond
    (λ e. rw (t.placed.where_it_stands, ← t.limit, e))
    λ e. rw (t.placed.where_it_stands, ← t.limit, e, t.order e, t.home e, t.types e, t.placed.how_many)

-- what was judged

module _ (o : Option ℕ) {j : Result (Unit {0}) Breach} (e : j ≡ judged_of o) where
  judged_none : j ≡ Ok tt → o ≡ none
  unfolding judged_of
  judged_none p = go o (sym e ∙ p)
    where
      go : (o : Option ℕ) → judged_of o ≡ Ok tt → o ≡ none
      go none f = refl
      go (some n) f = absurd (let z : ◌≡◌ {A = ℕ} 0 1 = cc in omega arith)

  judged_some : {breach : Breach} → j ≡ Err breach → o ≡ some breach.number
  unfolding judged_of
  judged_some {breach} p = go o (sym e ∙ p)
    where
      go : (o : Option ℕ) → judged_of o ≡ Err breach → o ≡ some breach.number
      go none f = absurd (let z : ◌≡◌ {A = ℕ} 0 1 = cc in omega arith)
      go (some n) f = let z : ◌≡◌ {A = Breach} (record { number = n }) breach = cc in ap (λ (b : Breach). some b.number) z

pub clear_of : {place : Place} {beyond disorder elsewhere differ : Bool} {j : Result (Unit {0}) Breach} → j ≡ judged_of (first_holding (holding place beyond disorder elsewhere differ))
    → j ≡ Ok tt → Clear place beyond disorder elsewhere differ
clear_of {place} {beyond} {disorder} {elsewhere} {differ} e p = none_holding place beyond disorder elsewhere differ (judged_none _ e p)

pub judged_by : {so : Option Sheet} {r : Record} {place : Place} {beyond disorder elsewhere differ : Bool} {j : Result (Unit {0}) Breach} → Tested so r place beyond disorder elsewhere differ
    → j ≡ judged_of (first_holding (holding place beyond disorder elsewhere differ)) → j ≡ judged_of (first_holding (conditions so r))
judged_by t e = e ∙ ap judged_of (as_tested t)

-- what is told

pub ill_formed : {read : Option Record} (so : Option Sheet) (end : ℕ) → read ≡ none → bad (record { number = 3 }) ≡ told so end read
unfolding told
ill_formed so end e = rw e

module _ (so : Option Sheet) {read : Option Record} {r : Record} (says : read ≡ some r) {j : Result (Unit {0}) Breach} (e : j ≡ judged_of (first_holding (conditions so r))) where
  pub breaks : {breach : Breach} (end : ℕ) → j ≡ Err breach → bad breach ≡ told so end read
  unfolding told told_by
  breaks end p = rw (says, judged_some _ e p)

  pub passes : {next end : ℕ} → j ≡ Ok tt → next ≡ end → good r next ≡ told so end read
  unfolding told told_by
  passes p n = rw (says, judged_none _ e p, n)

-- what a line function hands on of `lowest`
pub handed_on : {T : Type 0} {breach : Breach} (r : Result T Breach) → IsErrAnd r (λ b. b ≡ breach) → r ≡ Err breach
handed_on (Ok x) e = elim e [ ]
handed_on (Err b) e = ap Err e

pub in_place : {s : Bytes} {at next : ℕ} {place : Place} {beyond disorder elsewhere differ : Bool} → Ends s at next → Clear place beyond disorder elsewhere differ
    → InPlace s place next
in_place e c = record { inside = e.inside; placed = c.placed; room = c.room }

-- the lines of numbers alone

-- `F`
module _ {so : Option Sheet} {place : Place} where
  pub function_tested : (a b c d e : ℕ) {beyond : Bool} → Placed so (function_record a b c d e) place → beyond ≡ beyond_limit (so_far_of so) (function_record a b c d e)
      → Tested so (function_record a b c d e) place beyond false false false
  unfolding out_of_order real_elsewhere types_differ
  function_tested a b c d e p k = record { placed = p; limit = k; order = λ h. refl; home = λ h. refl; types = λ h. refl }

  -- `T`
  pub typed_tested : {counts : Counts} {least : ℕ} (n : ℕ) → Placed so (typed_record n) place → Counted (so_far_of so) counts → Least (so_far_of so) least
      → Tested so (typed_record n) place (leb counts.vregs n) (ltb n least) false false
  unfolding beyond_limit out_of_order real_elsewhere types_differ
  typed_tested {counts} {least} n p h l =
      record { placed = p; limit = rw h.vregs; order = λ z. rw (l.agrees n) (sym (not_leb least n)); home = λ z. refl; types = λ z. refl }
    where
      not_leb : (a b : ℕ) → not (leb a b) ≡ ltb b a
      not_leb a b = by_order b a (λ p. rw (lt-leb a b p, lt-ltb b a p)) λ p. rw (le-leb a b p, le-ltb b a p)

  -- `B`
  pub block_tested : {counts : Counts} {beyond : Bool} (ns : List ℕ) → Placed so (block_record ns) place → Counted (so_far_of so) counts
      → beyond ≡ any (leb counts.blocks) ns → Tested so (block_record ns) place beyond false false false
  unfolding beyond_limit out_of_order real_elsewhere types_differ
  block_tested ns p h k = record { placed = p; limit = rw h.blocks k; order = λ z. refl; home = λ z. refl; types = λ z. refl }

  -- `S`, `L`, `M`
  pub pair_tested : {first second : ℕ} (step : ℕ → ℕ → Step) (a b : ℕ) → Placed so (step_record (step a b)) place → Paired (so_far_of so) step first second
      → Tested so (step_record (step a b)) place (leb first a || leb second b) false false false
  unfolding beyond_limit out_of_order
  pair_tested step a b p h = record {
    placed = p;
    limit = sym (h.beyond a b);
    order = λ z. sym (h.order a b);
    home = λ z. sym (h.home a b);
    types = λ z. sym (h.types a b);
  }

-- `F` of five numbers, `T` of one, a step of two
module _ {s : Bytes} {at : ℕ} {r : Numbers} where
  pub function_says : ExactlyKept s at 5 r
      → function_of (fields_behind s at) ≡ some (function_record (get_or r.values 0 0) (get_or r.values 1 0) (get_or r.values 2 0) (get_or r.values 3 0) (get_or r.values 4 0))
  function_says w =
      function_exactly (fields_behind s at)
      ∙ rw (
        w.says,
        get_or-take 5 r.values 0 0 (omega arith),
        get_or-take 5 r.values 1 0 (omega arith),
        get_or-take 5 r.values 2 0 (omega arith),
        get_or-take 5 r.values 3 0 (omega arith),
        get_or-take 5 r.values 4 0 (omega arith),
      )

  pub typed_says : ExactlyKept s at 1 r → typed_of (fields_behind s at) ≡ some (typed_record (get_or r.values 0 0))
  typed_says w = typed_exactly (fields_behind s at) ∙ rw (w.says, get_or-take 1 r.values 0 0 (omega arith))

  pub pair_says : (step : ℕ → ℕ → Step) → ExactlyKept s at 2 r
      → two_numbers_of step (fields_behind s at) ≡ some (step_record (step (get_or r.values 0 0) (get_or r.values 1 0)))
  pair_says step w =
      pair_exactly step (fields_behind s at)
      ∙ rw (w.says, get_or-take 2 r.values 0 0 (omega arith), get_or-take 2 r.values 1 0 (omega arith))

  -- `B` of at most eight
  pub block_says : NumbersKept s at r → block_of (fields_behind s at) ≡ some (block_record (take r.count r.values))
  block_says w = block_few (fields_behind s at) ∙ rw w.says

module _ (s : Bytes) (at : ℕ) where
  pub function_bad : exactly 5 (fields_behind s at) ≡ none → function_of (fields_behind s at) ≡ none
  function_bad e = function_exactly (fields_behind s at) ∙ rw e

  pub typed_bad : exactly 1 (fields_behind s at) ≡ none → typed_of (fields_behind s at) ≡ none
  typed_bad e = typed_exactly (fields_behind s at) ∙ rw e

  pub pair_bad : (step : ℕ → ℕ → Step) → exactly 2 (fields_behind s at) ≡ none → two_numbers_of step (fields_behind s at) ≡ none
  pair_bad step e = pair_exactly step (fields_behind s at) ∙ rw e

  pub block_bad : few_numbers (fields_behind s at) ≡ none → block_of (fields_behind s at) ≡ none
  block_bad e = block_few (fields_behind s at) ∙ rw e

pub function_within : (S : Sheet) (regs slots vregs blocks entry : ℕ) {b : Bool} → b ≡ beyond_limit S (function_record regs slots vregs blocks entry) → b ≡ false
    → FunctionWithin regs slots vregs blocks entry
unfolding beyond_limit
function_within S regs slots vregs blocks entry k z =
    let a = sym k ∙ z in
    let b = or_right (ltb max_regs regs) _ a in
    let c = or_right (ltb max_slots slots) _ b in
    let d = or_right (ltb max_vregs vregs) _ c in
    let e = or_right (ltb max_blocks blocks) _ d in
    record {
      regs_most = ltb-false max_regs regs (or_left _ _ a);
      slots_most = ltb-false max_slots slots (or_left _ _ b);
      vregs_most = ltb-false max_vregs vregs (or_left _ _ c);
      blocks_most = ltb-false max_blocks blocks (or_left _ _ d);
      entry_below = leb-false blocks entry (or_right (eqb blocks 0) _ e);
    }

pub block_within : {blocks count : ℕ} {succs : List ℕ} {b : Bool} → count ≤ 8 → length succs ≡ 8 → b ≡ any (leb blocks) (take count succs) → b ≡ false
    → BlockWithin blocks count succs
block_within {blocks} {count} {succs} h l k z =
    record { few = h; below = λ i p. leb-false _ _ (any_each succs count (omega arith) (leb blocks) 0 (sym k ∙ z) i p) }

pub pair_within : (first second a b : ℕ) → (leb first a || leb second b) ≡ false → PairWithin first second a b
pair_within first second a b e =
    record { first_below = leb-false first a (or_left _ _ e); second_below = leb-false second b (or_right (leb first a) _ e) }
