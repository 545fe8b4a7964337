-- What a sheet that is read is known to obey, from the refusals that were not made: 5 gives an entry and successors below the
-- number of blocks, and counts, names, slots and insts of at most five digits, 8 gives changes of ownership between names of one
-- type, 9 gives at most 1,024 steps; 4 keeps `T` before `B`, so that no later `T` changes a name's type. The reader adds a record at a
-- time, and each keeps it so.
use Rattle.std.specs.Prelude.{◌≡◌, refl, ◌⊎◌, Bool, true, false, cond, not, List, [], ◌∷◌, ◌++◌, ℕ, suc, zero, ◌+◌, ◌≤◌, ◌<◌, eqb, leb, ltb, length, get_or}
use Rattle.std.proofs.Common.{sym, ◌∙◌, ap, subst, inl, inr, true≢false, arith, length-append}
use Rattle.std.proofs.Math.Logic.{⊎_map}
use Rattle.std.specs.Bool.{beq}
use Rattle.std.proofs.Math.Option.{Option, none, some}
use borrow.Author.Tests.{leb-false, ltb-false, not-false}
use Rattle.paper.specs.Text.{Bytes, lines, fields, Name, real, virtual}
use Rattle.paper.specs.Sheet.{Operand, Step, spill, reload, move, change, operation, safepoint, Block, Sheet, no_block, listed, reference_typed, steps_of}
use Rattle.paper.specs.Limits.{max_regs, max_slots, max_vregs, max_blocks, max_operands, max_inst, max_steps}
use Rattle.paper.specs.Refusals.{Record, function_record, typed_record, block_record, step_record, record_of, any, empty, out_of_place, name_beyond, reg_beyond, operand_beyond, step_beyond, beyond_limit, types_differ, step_count, step_too_many, so_far_of, Condition, first_holding, conditions, add_step, add_record, Reading, loaded, refused, Lined, good, bad, judged, read_record, read_line, read_end, carry_on, read_lines, no_text, read}
use Rattle.paper.specs.Report.{Line, entries, faults, report_text}
use Rattle.paper.specs.Answer.{accepted, said_by, said_of, said_after, answer}
use Rattle.paper.specs.Walks.{In, here, there}
use Rattle.paper.specs.declared.Refusal.{Refusal}
use Rattle.paper.specs.declared.Rule.{Rule}
use Rattle.lists.specs.Split.{or_left, or_right}
use Rattle.walks.specs.Choices.{in_nil, in_append, some_not_none}
use Rattle.walks.specs.Bounds.{Closed}
use Rattle.walks.specs.Honest.{Typed}
use Rattle.walks.specs.Small.{SmallName, SmallAllocation, SmallOperand, SmallOperands, SmallStep, Limited}

-- the sheet so far
record Sound (S : Sheet) : Type 0 where
  entry_in : S.entry < S.blocks
  succs_in : (B : Block) → In B S.body → (s : ℕ) → In s B.succs → s < S.blocks
  changes : (B : Block) → In B S.body → (inst k : ℕ) (from to : Name) → In (change inst k from to) B.steps → reference_typed S from ≡ reference_typed S to
  few : step_count S.body ≤ max_steps
  limited : Limited S.regs S.slots S.vregs S.blocks
  small : (B : Block) → In B S.body → (x : Step) → In x B.steps → SmallStep x

SoundSoFar : Option Sheet → Type 0
SoundSoFar none = Unit {0}
SoundSoFar (some S) = Sound S

not_holding : (c : Condition) (cs : List Condition) → first_holding (c ∷ cs) ≡ none → (c.holds ≡ false) × (first_holding cs ≡ none)
unfolding first_holding
not_holding c cs e = go c.holds refl e
  where
    go : (b : Bool) → c.holds ≡ b → cond b (some c.number) (first_holding cs) ≡ none → (c.holds ≡ false) × (first_holding cs ≡ none)
    go true p f = absurd (some_not_none f refl)
    go false p f = (p, f)

none_of : {A : Type 0} (test : A → Bool) (l : List A) → any test l ≡ false → (x : A) → In x l → test x ≡ false
unfolding any
none_of test [] e x i = absurd (in_nil i)
none_of test (y ∷ l) e x (here p) = ap test p ∙ or_left (test y) (any test l) e
none_of test (y ∷ l) e x (there i) = none_of test l (or_right (test y) (any test l) e) x i

is_empty : {A : Type 0} (l : List A) → empty l ≡ true → l ≡ []
unfolding empty
is_empty [] e = refl
is_empty (x ∷ l) e = absurd (true≢false (sym e))

same_bool : (a b : Bool) → not (beq a b) ≡ false → a ≡ b
same_bool true true e = refl
same_bool true false e = absurd (true≢false e)
same_bool false true e = absurd (true≢false e)
same_bool false false e = refl

-- a name's type is told by the `T` lines alone
same_type : (S R : Sheet) → S.typed ≡ R.typed → (n : Name) → reference_typed S n ≡ reference_typed R n
unfolding reference_typed
same_type S R e (real n) = refl
same_type S R e (virtual n) = ap (λ (l : List ℕ). listed l n) e

same_types_as : (S R : Sheet) → S.typed ≡ R.typed → (n k : Name) → reference_typed S n ≡ reference_typed S k → reference_typed R n ≡ reference_typed R k
same_types_as S R e n k h = sym (same_type S R e n) ∙ h ∙ same_type S R e k

-- the blocks after one step more: a block as it was, or with the step at its end
add_step_in : (x : Step) (body : List Block) (B : Block) → In B (add_step x body) → (P : Block → Type 0) → ((D : Block) → In D body → P D)
    → ((D : Block) → In D body → P (record { succs = D.succs; steps = D.steps ++ (x ∷ []) })) → P B
unfolding add_step
add_step_in x [] B i P p q = absurd (in_nil i)
add_step_in x (D ∷ []) B (here e) P p q = subst P (sym e) (q D (here refl))
add_step_in x (D ∷ []) B (there i) P p q = absurd (in_nil i)
add_step_in x (D ∷ E ∷ body) B (here e) P p q = p B (here e)
add_step_in x (D ∷ E ∷ body) B (there i) P p q = add_step_in x (E ∷ body) B i P (λ G j. p G (there j)) (λ G j. q G (there j))

-- an empty block has no step, and one step more is at most one step more
count_append : (body : List Block) (succs : List ℕ) → step_count (body ++ (record { succs = succs; steps = [] } ∷ [])) ≡ step_count body
unfolding step_count
count_append [] succs = refl
count_append (B ∷ body) succs = ap (λ (n : ℕ). length B.steps + n) (count_append body succs)

count_add : (x : Step) (body : List Block) → step_count (add_step x body) ≤ suc (step_count body)
unfolding step_count add_step
count_add x [] = omega arith
count_add x (B ∷ []) = rw length-append (omega arith)
count_add x (B ∷ C ∷ body) = omega (arith, count_add x (C ∷ body))

-- the four conditions that count here
record Unrefused (so_far : Option Sheet) (r : Record) : Type 0 where
  in_place : out_of_place so_far r ≡ false
  in_limits : beyond_limit (so_far_of so_far) r ≡ false
  same_types : types_differ (so_far_of so_far) r ≡ false
  steps_left : step_too_many (so_far_of so_far) r ≡ false

unrefused : (so_far : Option Sheet) (r : Record) → first_holding (conditions so_far r) ≡ none → Unrefused so_far r
unfolding conditions
unrefused so_far r e =
    let four = not_holding _ _ e in
    let five = not_holding _ _ four.1 in
    let six = not_holding _ _ five.1 in
    let seven = not_holding _ _ six.1 in
    let eight = not_holding _ _ seven.1 in
    let nine = not_holding _ _ eight.1 in
    record { in_place = four.0; in_limits = five.0; same_types = eight.0; steps_left = nine.0 }

step_typed : (S : Sheet) (x : Step) → types_differ S (step_record x) ≡ false → (inst k : ℕ) (from to : Name) → change inst k from to ≡ x → reference_typed S from ≡ reference_typed S to
unfolding types_differ
step_typed S x e inst k from to p = same_bool (reference_typed S from) (reference_typed S to) (subst (λ (y : Step). types_differ S (step_record y) ≡ false) (sym p) e)

-- refusal 5 on a step, where the counts are within their limits
module _ (S : Sheet) (L : Limited S.regs S.slots S.vregs S.blocks) where
  small_name : (n : Name) → name_beyond S n ≡ false → SmallName n
  unfolding name_beyond
  small_name (real n) e = omega (arith, leb-false S.regs n e, L.few_regs)
  small_name (virtual n) e = omega (arith, leb-false S.vregs n e, L.few_vregs)

  small_reg : (r : Option ℕ) → reg_beyond S r ≡ false → SmallAllocation r
  unfolding reg_beyond
  small_reg none e = tt
  small_reg (some r) e = omega (arith, leb-false S.regs r e, L.few_regs)

  small_operands : (us : List Operand) → ltb max_operands (length us) ≡ false → any (operand_beyond S) us ≡ false → SmallOperands us
  unfolding operand_beyond
  small_operands us few e = record { few = ltb-false max_operands (length us) few; each = each }
    where
      each : (u : Operand) → In u us → SmallOperand u
      each u i =
          let f = none_of (operand_beyond S) us e u i in
          record { name = small_name u.name (or_left (name_beyond S u.name) _ f); reg = small_reg u.reg (or_right (name_beyond S u.name) _ f) }

  small_step : (x : Step) → step_beyond S x ≡ false → SmallStep x
  unfolding step_beyond
  small_step (spill k r) e = tt
  small_step (reload r k) e = tt
  small_step (move into from) e = tt
  small_step (change inst k from to) e =
      let behind_inst = or_right (ltb max_inst inst) _ e in
      let names = or_right (leb S.slots k) _ behind_inst in (
        omega (arith, ltb-false max_inst inst (or_left (ltb max_inst inst) _ e)),
        omega (arith, leb-false S.slots k (or_left (leb S.slots k) _ behind_inst), L.few_slots),
        small_name from (or_left (name_beyond S from) _ names),
        small_name to (or_right (name_beyond S from) _ names),
      )
  small_step (operation inst uses defs) e =
      let behind_inst = or_right (ltb max_inst inst) _ e in
      let behind_count = or_right (ltb max_operands (length uses)) _ behind_inst in
      let behind_uses = or_right (any (operand_beyond S) uses) _ behind_count in (
        omega (arith, ltb-false max_inst inst (or_left (ltb max_inst inst) _ e)),
        small_operands uses (or_left (ltb max_operands (length uses)) _ behind_inst) (or_left (any (operand_beyond S) uses) _ behind_count),
        small_operands defs (or_left (ltb max_operands (length defs)) _ behind_uses) (or_right (ltb max_operands (length defs)) _ behind_uses),
      )
  small_step (safepoint inst slots) e = (
    omega (arith, ltb-false max_inst inst (or_left (ltb max_inst inst) _ e)),
    λ k i. omega (arith, leb-false S.slots k (none_of (leb S.slots) slots (or_right (ltb max_inst inst) _ e) k i), L.few_slots),
  )

add_sound : (so_far : Option Sheet) (r : Record) → SoundSoFar so_far → Unrefused so_far r → Sound (add_record (so_far_of so_far) r)
unfolding SoundSoFar add_record out_of_place beyond_limit step_too_many step_count
add_sound none (function_record regs slots vregs blocks entry) g u =
    let slots_in = or_right (ltb max_regs regs) _ u.in_limits in
    let vregs_in = or_right (ltb max_slots slots) _ slots_in in
    let blocks_limit = or_right (ltb max_vregs vregs) _ vregs_in in
    let blocks_in = or_right (ltb max_blocks blocks) _ blocks_limit in
    let entry_below = or_right (eqb blocks 0) (leb blocks entry) blocks_in in
    record {
      entry_in = leb-false blocks entry entry_below;
      succs_in = λ B i. absurd (in_nil i);
      changes = λ B i. absurd (in_nil i);
      few = omega arith;
      limited = record {
        few_regs = ltb-false max_regs regs (or_left (ltb max_regs regs) _ u.in_limits);
        few_slots = ltb-false max_slots slots (or_left (ltb max_slots slots) _ slots_in);
        few_vregs = ltb-false max_vregs vregs (or_left (ltb max_vregs vregs) _ vregs_in);
        few_blocks = ltb-false max_blocks blocks (or_left (ltb max_blocks blocks) _ blocks_limit);
      };
      small = λ B i. absurd (in_nil i);
    }
add_sound none (typed_record n) g u = absurd (true≢false u.in_place)
add_sound none (block_record succs) g u = absurd (true≢false u.in_place)
add_sound none (step_record x) g u = absurd (true≢false u.in_place)
add_sound (some S) (function_record regs slots vregs blocks entry) g u = absurd (true≢false u.in_place)
add_sound (some S) (typed_record n) g u =
    let e : S.body ≡ [] = is_empty S.body (not-false (empty S.body) u.in_place) in
    record {
      entry_in = g.entry_in;
      succs_in = g.succs_in;
      changes = λ B i. absurd (in_nil (subst (In B) e i));
      few = g.few;
      limited = g.limited;
      small = λ B i. absurd (in_nil (subst (In B) e i));
    }
add_sound (some S) (block_record succs) g u = record {
  entry_in = g.entry_in;
  succs_in = λ B i. inside B (in_append S.body _ i);
  changes = λ B i. typed B (in_append S.body _ i);
  few = rw (count_append S.body succs) g.few;
  limited = g.limited;
  small = λ B i. kept B (in_append S.body _ i);
}
  where
    inside : (B : Block) → In B S.body ⊎ In B (record { succs = succs; steps = [] } ∷ []) → (s : ℕ) → In s B.succs → s < S.blocks
    inside B (inl i) s j = g.succs_in B i s j
    inside B (inr (here e)) s j = leb-false S.blocks s (none_of (leb S.blocks) succs u.in_limits s (subst (λ (D : Block). In s D.succs) e j))
    inside B (inr (there i)) s j = absurd (in_nil i)

    typed : (B : Block) → In B S.body ⊎ In B (record { succs = succs; steps = [] } ∷ []) → (inst k : ℕ) (from to : Name) → In (change inst k from to) B.steps
        → reference_typed (add_record S (block_record succs)) from ≡ reference_typed (add_record S (block_record succs)) to
    typed B (inl i) inst k from to j = same_types_as S (add_record S (block_record succs)) refl from to (g.changes B i inst k from to j)
    typed B (inr (here e)) inst k from to j = absurd (in_nil (subst (λ (D : Block). In (change inst k from to) D.steps) e j))
    typed B (inr (there i)) inst k from to j = absurd (in_nil i)

    kept : (B : Block) → In B S.body ⊎ In B (record { succs = succs; steps = [] } ∷ []) → (x : Step) → In x B.steps → SmallStep x
    kept B (inl i) x j = g.small B i x j
    kept B (inr (here e)) x j = absurd (in_nil (subst (λ (D : Block). In x D.steps) e j))
    kept B (inr (there i)) x j = absurd (in_nil i)
add_sound (some S) (step_record x) g u =
    let left : step_count S.body < max_steps = leb-false max_steps (step_count S.body) u.steps_left in
    record {
      entry_in = g.entry_in;
      succs_in = inside;
      changes = typed;
      few = omega (arith, count_add x S.body);
      limited = g.limited;
      small = λ B i. add_step_in x S.body B i AllSmall g.small one_more;
    }
  where
    inside : (B : Block) → In B (add_step x S.body) → (s : ℕ) → In s B.succs → s < S.blocks
    inside B i = add_step_in x S.body B i (λ D. (s : ℕ) → In s D.succs → s < S.blocks) g.succs_in g.succs_in

    AllSmall : Block → Type 0
    AllSmall D = (y : Step) → In y D.steps → SmallStep y

    one_more : (D : Block) → In D S.body → AllSmall (record { succs = D.succs; steps = D.steps ++ (x ∷ []) })
    one_more D i y j = go (in_append D.steps (x ∷ []) j)
      where
        go : In y D.steps ⊎ In y (x ∷ []) → SmallStep y
        go (inl h) = g.small D i y h
        go (inr (here e)) = subst SmallStep (sym e) (small_step S g.limited x u.in_limits)
        go (inr (there h)) = absurd (in_nil h)

    Kept : Block → Type 0
    Kept D = (inst k : ℕ) (from to : Name) → In (change inst k from to) D.steps → reference_typed S from ≡ reference_typed S to

    longer : (D : Block) → In D S.body → Kept (record { succs = D.succs; steps = D.steps ++ (x ∷ []) })
    longer D i inst k from to j = go (in_append D.steps (x ∷ []) j)
      where
        go : In (change inst k from to) D.steps ⊎ In (change inst k from to) (x ∷ []) → reference_typed S from ≡ reference_typed S to
        go (inl h) = g.changes D i inst k from to h
        go (inr (here e)) = step_typed S x u.same_types inst k from to e
        go (inr (there h)) = absurd (in_nil h)

    typed : (B : Block) → In B (add_step x S.body) → (inst k : ℕ) (from to : Name) → In (change inst k from to) B.steps
        → reference_typed (add_record S (step_record x)) from ≡ reference_typed (add_record S (step_record x)) to
    typed B i inst k from to j = same_types_as S (add_record S (step_record x)) refl from to (add_step_in x S.body B i Kept g.changes longer inst k from to j)

-- a good line keeps it so, and so do all lines of a sheet that is loaded
line_sound : (so_far : Option Sheet) (line : Bytes) (S : Sheet) → SoundSoFar so_far → read_line so_far line ≡ good S → Sound S
unfolding read_line read_record judged
line_sound so_far line S g e = at (record_of (fields line)) e
  where
    met : (r : Record) (o : Option ℕ) → first_holding (conditions so_far r) ≡ o → judged so_far r o ≡ good S → Sound S
    met r none h f = subst Sound (good_inj f) (add_sound so_far r g (unrefused so_far r h))
      where
        good_inj : good (add_record (so_far_of so_far) r) ≡ good S → add_record (so_far_of so_far) r ≡ S
        good_inj p = cc
    met r (some number) h f = let z : ◌≡◌ {A = ℕ} 0 1 = cc in absurd (omega arith)

    at : (o : Option Record) → read_record so_far o ≡ good S → Sound S
    at none f = let z : ◌≡◌ {A = ℕ} 0 1 = cc in absurd (omega arith)
    at (some r) f = met r (first_holding (conditions so_far r)) refl f

pub loaded_inj : {S R : Sheet} → loaded S ≡ loaded R → S ≡ R
loaded_inj e = cc

refused_loaded : {Q : Type 0} {refusal : Refusal} {S : Sheet} → refused refusal ≡ loaded S → Q
refused_loaded e = let z : ◌≡◌ {A = ℕ} 0 1 = cc in absurd (omega arith)

lines_sound : (ls : List Bytes) (line : ℕ) (so_far : Option Sheet) (S : Sheet) → SoundSoFar so_far → read_lines line so_far ls ≡ loaded S → Sound S
unfolding read_lines read_end carry_on SoundSoFar
lines_sound [] line none S g e = refused_loaded e
lines_sound [] line (some R) S g e = go _ (ltb (length R.body) R.blocks) e
  where
    go : (refusal : Refusal) (b : Bool) → cond b (refused refusal) (loaded R) ≡ loaded S → Sound S
    go refusal true f = refused_loaded f
    go refusal false f = subst Sound (loaded_inj f) g
lines_sound (l ∷ ls) line so_far S g e = at _ (read_line so_far l) refl e (λ R h. lines_sound ls (suc line) (some R) S h)
  where
    at : (field : ℕ → ℕ) (o : Lined) → read_line so_far l ≡ o → carry_on line field o (λ R. read_lines (suc line) (some R) ls) ≡ loaded S
        → ((R : Sheet) → Sound R → read_lines (suc line) (some R) ls ≡ loaded S → Sound S) → Sound S
    at field (good R) h f rec = rec R (line_sound so_far l R g h) f
    at field (bad number) h f rec = refused_loaded f

-- a block read by its number is one of the body's, or has no successor and no step
block_at : (body : List Block) (b : ℕ) → In (get_or body b no_block) body ⊎ (get_or body b no_block ≡ no_block)
block_at [] b = inr refl
block_at (B ∷ body) zero = inl (here refl)
block_at (B ∷ body) (suc b) = ⊎_map there (λ e. e) (block_at body b)

read_sound : (bytes : Bytes) (S : Sheet) → read bytes ≡ loaded S → Sound S
unfolding read SoundSoFar
read_sound bytes S e = go _ (no_text bytes) e
  where
    go : (refusal : Refusal) (b : Bool) → cond b (refused refusal) (read_lines 1 none (lines bytes)) ≡ loaded S → Sound S
    go refusal true f = refused_loaded f
    go refusal false f = lines_sound (lines bytes) 1 none S tt f

pub read_closed : (bytes : Bytes) (S : Sheet) → read bytes ≡ loaded S → Closed S
read_closed bytes S e = record { entry_in = (read_sound bytes S e).entry_in; succs_in = λ b s i. go s (block_at S.body b) i }
  where
    go : (s : ℕ) {B : Block} → In B S.body ⊎ (B ≡ no_block) → In s B.succs → s < S.blocks
    go s {B} (inl j) i = (read_sound bytes S e).succs_in B j s i
    go s {B} (inr p) i = absurd (in_nil (subst (λ (D : Block). In s D.succs) p i))

pub read_few : (bytes : Bytes) (S : Sheet) → read bytes ≡ loaded S → step_count S.body ≤ max_steps
read_few bytes S e = (read_sound bytes S e).few

pub read_limited : (bytes : Bytes) (S : Sheet) → read bytes ≡ loaded S → Limited S.regs S.slots S.vregs S.blocks
read_limited bytes S e = (read_sound bytes S e).limited

pub read_small : (bytes : Bytes) (S : Sheet) → read bytes ≡ loaded S → (b : ℕ) (x : Step) → In x (steps_of S b) → SmallStep x
read_small bytes S e b x i = go (block_at S.body b) i
  where
    go : {B : Block} → In B S.body ⊎ (B ≡ no_block) → In x B.steps → SmallStep x
    go {B} (inl j) h = (read_sound bytes S e).small B j x h
    go {B} (inr p) h = absurd (in_nil (subst (λ (D : Block). In x D.steps) p h))

pub read_typed : (bytes : Bytes) (S : Sheet) → read bytes ≡ loaded S → Typed S
read_typed bytes S e = record { changes = λ b inst k from to i. go inst k from to (block_at S.body b) i }
  where
    go : (inst k : ℕ) (from to : Name) {B : Block} → In B S.body ⊎ (B ≡ no_block) → In (change inst k from to) B.steps → reference_typed S from ≡ reference_typed S to
    go inst k from to {B} (inl j) i = (read_sound bytes S e).changes B j inst k from to i
    go inst k from to {B} (inr p) i = absurd (in_nil (subst (λ (D : Block). In (change inst k from to) D.steps) p i))

-- a sheet is answered accepted exactly when it is read and has no fault
pub accepted_sheet : (rule : Rule) (bytes text : Bytes) → answer rule bytes ≡ accepted text → (S : Sheet) × ((read bytes ≡ loaded S) × (faults rule S ≡ []))
unfolding answer said_after said_of said_by faults
accepted_sheet rule bytes text e = at (read bytes) refl e
  where
    none_found : (S : Sheet) → read bytes ≡ loaded S → (ls : List Line) → faults rule S ≡ ls → said_by ls (report_text rule (entries rule S)) ≡ accepted text
        → (S : Sheet) × ((read bytes ≡ loaded S) × (faults rule S ≡ []))
    none_found S h [] f g = (S, (h, f))
    none_found S h (l ∷ ls) f g = let z : ◌≡◌ {A = ℕ} 0 1 = cc in absurd (omega arith)

    at : (o : Reading) → read bytes ≡ o → said_after rule o ≡ accepted text → (S : Sheet) × ((read bytes ≡ loaded S) × (faults rule S ≡ []))
    at (loaded S) h f = none_found S h (faults rule S) refl f
    at (refused refusal) h f = let z : ◌≡◌ {A = ℕ} 0 1 = cc in absurd (omega arith)

pub sheet_accepted : (rule : Rule) (bytes : Bytes) (S : Sheet) → read bytes ≡ loaded S → faults rule S ≡ []
    → answer rule bytes ≡ accepted (report_text rule (entries rule S))
unfolding answer said_after said_of said_by faults
sheet_accepted rule bytes S h f = ap (said_after rule) h ∙ ap (λ (ls : List Line). said_by ls (report_text rule (entries rule S))) f
