-- What is reported of a sheet that is read has numbers of at most five digits, and a register is given wherever a line names one:
-- all names in a state come from the entry or from the sheet's steps, the meet and every effect keep it so, and no check is made where
-- an allocation is missing.
use Rattle.std.specs.Prelude.{◌≡◌, ◌⊎◌, Bool, true, false, get_or, drop, replicate}
use Rattle.std.proofs.Math.Path.{refl, subst}
use Rattle.std.proofs.Common.{sym, ap, inl, inr, arith, length-append}
use mathlib.Core.List.{List, [], ◌∷◌, ◌++◌, map, map-eq-nil_iff, nil≢cons}
use Rattle.std.proofs.Math.Option.{Option, none, some}
use Prim.Native.Nat.{ℕ, suc, zero, ◌+◌, ◌≤◌, ◌<◌}
use Rattle.std.proofs.Math.Decide.{ℕ_discrete}
use Rattle.std.proofs.Math.ListN.{length}
use Rattle.paper.specs.Text.{Bytes, Name, real, name_same}
use Rattle.paper.specs.Limits.{max_operands, max_steps}
use Rattle.paper.specs.Sheet.{Operand, Step, spill, reload, move, change, operation, safepoint, Block, Sheet, no_block, steps_of, reference_typed}
use Rattle.paper.specs.Cells.{Cell, absent, unknown, conflicted, named, pick, old_meet, meet, copied, overwritten, house_changed, old_changed, collected}
use Rattle.paper.specs.Steps.{State, counts_of, Location, register, slot, get, location_of, row_of, unfilled, entry_rows, entry_state, unreached_state, Fault, incorrect_value_in_reg, incorrect_value_in_slot, first_of, check_use, check_uses, check_change, check_slot, check_slots, check, old_define, house_define, old_effect, house_effect, effect, effects}
use Rattle.paper.specs.Runs.{Flow, Run, store, push_at, push, spread, visit_at, step_at, step, run, pointwise, meet_states, flow, before, begin, visit_bound, analysis}
use Rattle.paper.specs.Report.{Line, inst_of, line_of, faults_from, Entry, fault_entry, unreached_entry, block_entries, by_block, find_errors, first_list, unallocated, missing_names, names_lines, missing_from, missing_blocks, missing_allocations, entries, faults_in}
use Rattle.paper.specs.Refusals.{step_count, loaded, read}
use Rattle.paper.specs.Walks.{In, here, there}
use Rattle.paper.specs.declared.Rule.{Rule}
use Rattle.paper.specs.declared.Rule.TheVariants.{Old, House}
use Rattle.walks.specs.Choices.{update_holds, some_inj, some_not_none, in_nil}
use Rattle.walks.specs.Heights.{each_nil, each_cons, each_both}
use Rattle.walks.specs.Meet.{names_meet, meet_keeps}
use Rattle.walks.specs.Fits.{Shape, shape_of, shape, Row, Fits, unfilled_fits, fits_unreached, fits_get, fits_put, fits_everywhere, fits_copy, fits_collect}
use Rattle.walks.specs.Entries.{faults_of_faults, faults_append, reached_entries, unreached_entries}
use Rattle.walks.specs.Lines.{first_none}
use Rattle.walks.specs.Small.{Small, SmallName, SmallReg, SmallFault, SmallLines, SmallEntries, SmallReport, SmallAllocation, SmallOperand, SmallOperands, SmallStep, SmallCell, Limited}
use Rattle.walks.specs.Reading.{read_few, read_limited, read_small}

-- of any dataflow problem: what the meet and the blocks keep holds of every state in the table, if it did at the start
module _ {A : Type 0} (F : Flow A) (P : A → Type 0) (meets : (a x : A) → P a → P x → P (F.meet a x)) (goes : (b : ℕ) (a : A) → P a → P (F.result b a)) where
  abbrev Holds : (ℕ → Option A) → Type 0
  Holds table = (b : ℕ) (a : A) → table b ≡ some a → P a

  holds_store : (s : ℕ) (x : A) → P x → (r : Run A) → Holds r.table → Holds (store F s x r).table
  unfolding store
  holds_store s x p r h = update_holds r.table s x P p h

  holds_push : (s : ℕ) (x : A) → P x → (r : Run A) → Holds r.table → Holds (push F s x r).table
  unfolding push push_at
  holds_push s x p r h = at (r.table s) refl
    where
      met : (a : A) → P a → (d : Dec (F.meet a x ≡ a)) → Holds (pick d r (store F s (F.meet a x) r)).table
      met a q (yes e) = h
      met a q (no d) = holds_store s (F.meet a x) (meets a x q p) r h

      at : (o : Option A) → r.table s ≡ o → Holds (push_at F o s x r).table
      at none e = holds_store s x p r h
      at (some a) e = met a (h s a e) (F.same (F.meet a x) a)

  holds_spread : (ss : List ℕ) (x : A) → P x → (r : Run A) → Holds r.table → Holds (spread F ss x r).table
  unfolding spread
  holds_spread [] x p r h = h
  holds_spread (s ∷ ss) x p r h = holds_spread ss x p (push F s x r) (holds_push s x p r h)

  holds_step : (r : Run A) → Holds r.table → Holds (step F r).table
  unfolding step step_at visit_at
  holds_step r h = at r.queue
    where
      visited : (b : ℕ) (q : List ℕ) (o : Option A) → r.table b ≡ o → Holds (visit_at F o b (record { table = r.table; queue = q })).table
      visited b q none e = h
      visited b q (some a) e = holds_spread (F.succs b) (F.result b a) (goes b a (h b a e)) (record { table = r.table; queue = q }) h

      at : (q : List ℕ) → Holds (step_at F q r).table
      at [] = h
      at (b ∷ q) = visited b q (r.table b) refl

  holds_run : (visits : ℕ) (r : Run A) → Holds r.table → Holds (run F visits r).table
  unfolding run
  holds_run zero r h = h
  holds_run (suc visits) r h = holds_run visits (step F r) (holds_step r h)

-- names in cells

small_copied : (c : Cell) → SmallCell c → SmallCell (copied c)
unfolding copied
small_copied absent p = tt
small_copied unknown p = tt
small_copied conflicted p = tt
small_copied (named k l) p = p

small_overwritten : (n : Name) (c : Cell) → SmallCell c → SmallCell (overwritten n c)
unfolding overwritten
small_overwritten n absent p = tt
small_overwritten n unknown p = tt
small_overwritten n conflicted p = tt
small_overwritten n (named k l) p = elim (name_same k n) as (λ d. SmallCell (pick d conflicted (named k l))) [ yes e ↦ tt | no e ↦ p ]

small_house_changed : (from to : Name) → SmallName to → (c : Cell) → SmallCell (house_changed from to c)
unfolding house_changed
small_house_changed from to h absent = tt
small_house_changed from to h unknown = tt
small_house_changed from to h conflicted = tt
small_house_changed from to h (named k l) = elim (name_same k from) as (λ d. SmallCell (pick d (named to l) conflicted)) [ yes e ↦ h | no e ↦ tt ]

small_old_changed : (to : Name) → SmallName to → (c : Cell) → SmallCell (old_changed to c)
unfolding old_changed
small_old_changed to h absent = h
small_old_changed to h unknown = h
small_old_changed to h conflicted = h
small_old_changed to h (named k l) = h

small_collected : (rule : Rule) (c : Cell) → SmallCell c → SmallCell (collected rule c)
unfolding collected
small_collected rule absent p = tt
small_collected rule unknown p = tt
small_collected rule conflicted p = tt
small_collected Old (named k true) p = tt
small_collected House (named k true) p = tt
small_collected Old (named k false) p = p
small_collected House (named k false) p = p

small_names : (rule : Rule) (n k : Name) (m l : Bool) → SmallCell (named n m) → SmallCell (named k l) → SmallCell (meet rule (named n m) (named k l))
small_names rule n k m l p q = names_meet rule n k m l SmallCell (λ e. p) (λ e. tt)

small_old_meet : (x y : Cell) → SmallCell x → SmallCell y → SmallCell (meet Old x y)
unfolding meet old_meet
small_old_meet absent absent p q = tt
small_old_meet absent unknown p q = tt
small_old_meet absent conflicted p q = tt
small_old_meet absent (named k l) p q = q
small_old_meet unknown absent p q = tt
small_old_meet unknown unknown p q = tt
small_old_meet unknown conflicted p q = tt
small_old_meet unknown (named k l) p q = q
small_old_meet conflicted y p q = elim y as (λ c. SmallCell (old_meet conflicted c)) [ absent ↦ tt | unknown ↦ tt | conflicted ↦ tt | named k l ↦ tt ]
small_old_meet (named n m) absent p q = p
small_old_meet (named n m) unknown p q = p
small_old_meet (named n m) conflicted p q = tt
small_old_meet (named n m) (named k l) p q = small_names Old n k m l p q

small_meet : (rule : Rule) (x y : Cell) → SmallCell x → SmallCell y → SmallCell (meet rule x y)
small_meet Old x y p q = small_old_meet x y p q
small_meet House x y p q = meet_keeps SmallCell (small_names House) x y p q

small_states : (rule : Rule) (sh : Shape) (s t : State) → Fits SmallCell sh s → Fits SmallCell sh t → Fits SmallCell sh (meet_states rule s t)
unfolding meet_states
small_states rule sh s t f g = each_both (pointwise (meet rule)) (λ is a b. each_both (meet rule) (λ u. small_meet rule)) f g

small_get : (sh : Shape) (l : Location) (s : State) → Fits SmallCell sh s → SmallCell (get s l)
small_get sh l s f = go (fits_get sh l s f)
  where
    go : (get s l ≡ absent) ⊎ SmallCell (get s l) → SmallCell (get s l)
    go (inl e) = subst SmallCell (sym e) tt
    go (inr p) = p

-- names in a state, behind a step

module _ (ref : Name → Bool) (sh : Shape) where
  small_old_define : (defs : List Operand) → ((d : Operand) → In d defs → SmallOperand d) → (s : State) → Fits SmallCell sh s
      → Fits SmallCell sh (old_define ref defs s)
  unfolding old_define
  small_old_define [] h s f = f
  small_old_define (d ∷ ds) h s f =
      small_old_define ds (λ u i. h u (there i)) _ (fits_put sh (location_of d.reg) (named d.name (ref d.name)) (h d (here refl)).name s f)

  small_house_define : (defs : List Operand) → ((d : Operand) → In d defs → SmallOperand d) → (s : State) → Fits SmallCell sh s
      → Fits SmallCell sh (house_define ref defs s)
  unfolding house_define
  small_house_define [] h s f = f
  small_house_define (d ∷ ds) h s f =
      small_house_define ds (λ u i. h u (there i)) _
      (fits_put sh (location_of d.reg) (named d.name (ref d.name)) (h d (here refl)).name _
      (fits_everywhere sh (overwritten d.name) (small_overwritten d.name) s f))

  small_effect : (rule : Rule) (x : Step) → SmallStep x → (s : State) → Fits SmallCell sh s → Fits SmallCell sh (effect rule ref x s)
  unfolding effect old_effect house_effect
  small_effect Old (spill k r) h s f = fits_copy sh tt small_copied (slot k) (register r) s f
  small_effect Old (reload r k) h s f = fits_copy sh tt small_copied (register r) (slot k) s f
  small_effect Old (move into from) h s f = fits_copy sh tt small_copied (register into) (register from) s f
  small_effect Old (change inst k from to) h s f = fits_put sh (slot k) _ (small_old_changed to h.3 (get s (slot k))) s f
  small_effect Old (operation inst uses defs) h s f = small_old_define defs h.2.each s f
  small_effect Old (safepoint inst slots) h s f = fits_collect sh Old (small_collected Old) slots s f
  small_effect House (spill k r) h s f = fits_copy sh tt small_copied (slot k) (register r) s f
  small_effect House (reload r k) h s f = fits_copy sh tt small_copied (register r) (slot k) s f
  small_effect House (move into from) h s f = fits_copy sh tt small_copied (register into) (register from) s f
  small_effect House (change inst k from to) h s f =
      fits_put sh (slot k) _ (small_house_changed from to h.3 (get s (slot k))) _ (fits_everywhere sh (overwritten to) (small_overwritten to) s f)
  small_effect House (operation inst uses defs) h s f = small_house_define defs h.2.each s f
  small_effect House (safepoint inst slots) h s f = fits_collect sh House (small_collected House) slots s f

  small_effects : (rule : Rule) (xs : List Step) → ((x : Step) → In x xs → SmallStep x) → (s : State) → Fits SmallCell sh s
      → Fits SmallCell sh (effects rule ref xs s)
  unfolding effects
  small_effects rule [] h s f = f
  small_effects rule (x ∷ xs) h s f = small_effects rule xs (λ y i. h y (there i)) (effect rule ref x s) (small_effect rule x (h x (here refl)) s f)

-- what a check finds

abbrev SmallFound : Option Fault → Type 0
SmallFound none = Unit {0}
SmallFound (some f) = SmallFault f

small_first : (a b : Option Fault) → SmallFound a → SmallFound b → SmallFound (first_of a b)
unfolding first_of
small_first none b p q = q
small_first (some f) b p q = p

small_use : (u : Operand) → SmallReg u.reg → SmallName u.name → (c : Cell) → SmallCell c → SmallFound (check_use u c)
unfolding check_use
small_use u r n absent p = r
small_use u r n unknown p = r
small_use u r n conflicted p = r
small_use u r n (named k m) p =
    elim (name_same k u.name) as (λ d. SmallFound (pick d none (some (incorrect_value_in_reg u.reg u.name k)))) [ yes e ↦ tt | no e ↦ (r, n, p) ]

small_change : (k : ℕ) (from : Name) → Small k → SmallName from → (c : Cell) → SmallCell c → SmallFound (check_change k from c)
unfolding check_change
small_change k from h n absent p = (h, n)
small_change k from h n unknown p = (h, n)
small_change k from h n conflicted p = (h, n)
small_change k from h n (named j m) p =
    elim (name_same j from) as (λ d. SmallFound (pick d none (some (incorrect_value_in_slot k from j)))) [ yes e ↦ tt | no e ↦ (h, n, p) ]

small_slot : (k : ℕ) → Small k → (c : Cell) → SmallFound (check_slot k c)
unfolding check_slot
small_slot k h absent = h
small_slot k h unknown = h
small_slot k h conflicted = h
small_slot k h (named n true) = tt
small_slot k h (named n false) = h

-- an operand of a list in which no allocation is missing has its register
given : (u : Operand) (us : List Operand) → unallocated (u ∷ us) ≡ [] → SmallAllocation u.reg → SmallReg u.reg × (unallocated us ≡ [])
unfolding unallocated
given u us e h = go u.reg refl
  where
    go : (r : Option ℕ) → u.reg ≡ r → SmallReg u.reg × (unallocated us ≡ [])
    go none q = absurd (nil≢cons (sym (rw q at e)))
    go (some r) q = (rw q (rw q at h), rw q at e)

module _ (sh : Shape) (s : State) (f : Fits SmallCell sh s) where
  small_uses : (us : List Operand) → ((u : Operand) → In u us → SmallOperand u) → unallocated us ≡ [] → SmallFound (check_uses us s)
  unfolding check_uses
  small_uses [] h e = tt
  small_uses (u ∷ us) h e =
      let g = given u us e (h u (here refl)).reg in
      small_first (check_use u (get s (location_of u.reg))) (check_uses us s)
      (small_use u g.0 (h u (here refl)).name _ (small_get sh (location_of u.reg) s f)) (small_uses us (λ v i. h v (there i)) g.1)

  small_slots : (ks : List ℕ) → ((k : ℕ) → In k ks → Small k) → SmallFound (check_slots ks s)
  unfolding check_slots
  small_slots [] h = tt
  small_slots (k ∷ ks) h =
      small_first (check_slot k (get s (slot k))) (check_slots ks s) (small_slot k (h k (here refl)) (get s (slot k))) (small_slots ks (λ j i. h j (there i)))

  small_check : (x : Step) → SmallStep x → missing_names x ≡ [] → SmallFound (check x s)
  unfolding check missing_names
  small_check (spill k r) h e = tt
  small_check (reload r k) h e = tt
  small_check (move into from) h e = tt
  small_check (change inst k from to) h e = small_change k from h.1 h.2 (get s (slot k)) (small_get sh (slot k) s f)
  small_check (operation inst uses defs) h e = small_uses uses h.1.each ((first_none (unallocated uses) (unallocated defs)).0 e).0
  small_check (safepoint inst slots) h e = small_slots slots h.1

-- lines

small_inst : (x : Step) → SmallStep x → Small (inst_of x)
unfolding inst_of
small_inst (spill k r) h = omega arith
small_inst (reload r k) h = omega arith
small_inst (move into from) h = omega arith
small_inst (change inst k from to) h = h.0
small_inst (operation inst uses defs) h = h.0
small_inst (safepoint inst slots) h = h.0

-- so many small lines at most
record Lines (most : ℕ) (ls : List Line) : Type 0 where
  small : SmallLines ls
  few : length ls ≤ most

no_lines : (most : ℕ) → Lines most []
unfolding SmallLines
no_lines most = record { small = tt; few = omega arith }

lines_append : {m n : ℕ} (most : ℕ) (k l : List Line) → m + n ≤ most → Lines m k → Lines n l → Lines most (k ++ l)
unfolding SmallLines
lines_append most k l room p q = record { small = both_small k p.small; few = rw (length-append k l) (omega (arith, p.few, q.few)) }
  where
    both_small : (k : List Line) → SmallLines k → SmallLines (k ++ l)
    both_small [] h = q.small
    both_small (x ∷ k) h = (h.0, both_small k h.1)

line_found : (b place inst : ℕ) → Small b → Small place → Small inst → (o : Option Fault) → SmallFound o → Lines 1 (line_of b place inst o)
unfolding line_of SmallLines
line_found b place inst hb hp hi none h = no_lines 1
line_found b place inst hb hp hi (some fault) h = record { small = (record { block = hb; place = hp; inst = hi; fault = h }, tt); few = omega arith }

-- of any two lists of which the first that has something is taken
first_of_lists : {A : Type 0} (P : List A → Type 0) (k l : List A) → P k → (k ≡ [] → P l) → P (first_list k l)
unfolding first_list
first_of_lists P [] l p q = q refl
first_of_lists P (x ∷ k) l p q = p

-- the names with no allocation: as many as there are operands at most, each an operand's
record Names (ns : List Name) : Type 0 where
  each : (n : Name) → In n ns → SmallName n
  few : length ns ≤ max_operands

unallocated_in : (us : List Operand) → ((u : Operand) → In u us → SmallOperand u) → (n : Name) → In n (unallocated us) → SmallName n
unfolding unallocated
unallocated_in [] h n i = absurd (in_nil i)
unallocated_in (u ∷ us) h n i = go u.reg refl (unallocated_in us (λ v j. h v (there j)) n)
  where
    go : (r : Option ℕ) → u.reg ≡ r → (In n (unallocated us) → SmallName n) → SmallName n
    go none q rec = named_here (rw q at i) rec
      where
        named_here : In n (u.name ∷ unallocated us) → (In n (unallocated us) → SmallName n) → SmallName n
        named_here (here e) rec = subst SmallName (sym e) (h u (here refl)).name
        named_here (there j) rec = rec j
    go (some r) q rec = rec (rw q at i)

unallocated_few : (us : List Operand) → length (unallocated us) ≤ length us
unfolding unallocated
unallocated_few [] = omega arith
unallocated_few (u ∷ us) = go u.reg refl (unallocated_few us)
  where
    go : (r : Option ℕ) → u.reg ≡ r → length (unallocated us) ≤ length us → length (unallocated (u ∷ us)) ≤ suc (length us)
    go none q rec = rw q (omega arith)
    go (some r) q rec = rw q (omega arith)

operand_names : (us : List Operand) → SmallOperands us → Names (unallocated us)
operand_names us h = record { each = unallocated_in us h.each; few = omega (arith, unallocated_few us, h.few) }

no_names : Names []
no_names = record { each = λ n i. absurd (in_nil i); few = omega arith }

step_names : (x : Step) → SmallStep x → Names (missing_names x)
unfolding missing_names
step_names (spill k r) h = no_names
step_names (reload r k) h = no_names
step_names (move into from) h = no_names
step_names (change inst k from to) h = no_names
step_names (operation inst uses defs) h =
    first_of_lists Names (unallocated uses) (unallocated defs) (operand_names uses h.1) (λ e. operand_names defs h.2)
step_names (safepoint inst slots) h = no_names

names_small : (b place inst : ℕ) → Small b → Small place → Small inst → (ns : List Name) → ((n : Name) → In n ns → SmallName n)
    → SmallLines (names_lines b place inst ns)
unfolding names_lines SmallLines
names_small b place inst hb hp hi [] h = tt
names_small b place inst hb hp hi (n ∷ ns) h =
    (record { block = hb; place = hp; inst = hi; fault = h n (here refl) }, names_small b place inst hb hp hi ns (λ m i. h m (there i)))

names_count : (b place inst : ℕ) (ns : List Name) → length (names_lines b place inst ns) ≡ length ns
unfolding names_lines
names_count b place inst [] = refl
names_count b place inst (n ∷ ns) = ap suc (names_count b place inst ns)

-- a block's steps from a place on

module _ (b : ℕ) (hb : Small b) where
  missing_small : (place : ℕ) (xs : List Step) → place + length xs ≤ max_steps → ((x : Step) → In x xs → SmallStep x)
      → Lines max_operands (missing_from b place xs)
  unfolding missing_from
  missing_small place [] l h = no_lines max_operands
  missing_small place (x ∷ xs) l h =
      first_of_lists (Lines max_operands) (names_lines b place (inst_of x) (missing_names x)) (missing_from b (suc place) xs)
      (let ns = step_names x (h x (here refl)) in record {
        small = names_small b place (inst_of x) hb (omega arith) (small_inst x (h x (here refl))) (missing_names x) ns.each;
        few = rw (names_count b place (inst_of x) (missing_names x)) ns.few;
      })
      λ e. missing_small (suc place) xs (omega arith) (λ y i. h y (there i))

  none_missing : (place : ℕ) (xs : List Step) → missing_from b place xs ≡ [] → (x : Step) → In x xs → missing_names x ≡ []
  unfolding missing_from names_lines
  none_missing place [] e x i = absurd (in_nil i)
  none_missing place (y ∷ xs) e x (here p) = rw p ((map-eq-nil_iff _).0 ((first_none _ (missing_from b (suc place) xs)).0 e).0)
  none_missing place (y ∷ xs) e x (there i) =
      none_missing (suc place) xs ((first_none (names_lines b place (inst_of y) (missing_names y)) (missing_from b (suc place) xs)).0 e).1 x i

  found_small : (rule : Rule) (S : Sheet) (place : ℕ) (xs : List Step) → place + length xs ≤ max_steps → ((x : Step) → In x xs → SmallStep x)
      → ((x : Step) → In x xs → missing_names x ≡ []) → (s : State) → Fits SmallCell (shape S) s → Lines (length xs) (faults_from rule S b place xs s)
  unfolding faults_from
  found_small rule S place [] l h g s f = no_lines 0
  found_small rule S place (x ∷ xs) l h g s f =
      lines_append {m = 1} {n = length xs} (suc (length xs)) (line_of b place (inst_of x) (check x s)) _ (omega arith)
      (line_found b place (inst_of x) hb (omega arith) (small_inst x (h x (here refl))) (check x s)
      (small_check (shape S) s f x (h x (here refl)) (g x (here refl))))
      (found_small rule S (suc place) xs (omega arith) (λ y i. h y (there i)) (λ y i. g y (there i)) (effect rule (reference_typed S) x s)
      (small_effect (reference_typed S) (shape S) rule x (h x (here refl)) s f))

-- all blocks

-- a block has no more steps than all blocks together
steps_few : (body : List Block) (b : ℕ) → length (get_or body b no_block).steps ≤ step_count body
unfolding step_count
steps_few [] b = omega arith
steps_few (B ∷ body) zero = omega arith
steps_few (B ∷ body) (suc b) = omega (arith, steps_few body b)

row_below : {P : Cell → Type 0} (n : ℕ) (f : ℕ → Cell) → ((i : ℕ) → i < n → P (f i)) → Row P (replicate n tt) (row_of n f)
unfolding row_of
row_below zero f h = each_nil
row_below (suc n) f h = each_cons (h 0 (omega arith)) (row_below n (λ i. f (suc i)) (λ i l. h (suc i) (omega arith)))

small_unfilled : (rule : Rule) → SmallCell (unfilled rule)
unfolding unfilled
small_unfilled Old = tt
small_unfilled House = tt

-- the steps from block b on: those of b, and those behind it
count_behind : (body : List Block) (b : ℕ) → step_count (drop b body) ≡ length (get_or body b no_block).steps + step_count (drop (suc b) body)
unfolding step_count
count_behind [] zero = refl
count_behind [] (suc b) = refl
count_behind (B ∷ body) zero = refl
count_behind (B ∷ body) (suc b) = count_behind body b

-- lines with so many faults at most among them
record Entries (most : ℕ) (es : List Entry) : Type 0 where
  small : SmallEntries es
  few : length (faults_in es) ≤ most

fault_entries : {most : ℕ} (ls : List Line) → Lines most ls → Entries most (map fault_entry ls)
unfolding SmallLines SmallEntries
fault_entries ls p = record { small = each ls p.small; few = rw (faults_of_faults ls) p.few }
  where
    each : (ls : List Line) → SmallLines ls → SmallEntries (map fault_entry ls)
    each [] h = tt
    each (l ∷ ls) h = (h.0, each ls h.1)

unreached_small : (most b : ℕ) → Small b → Entries most (unreached_entry b ∷ [])
unfolding SmallEntries faults_in
unreached_small most b h = record { small = (h, tt); few = omega arith }

entries_append : {m n : ℕ} (most : ℕ) (k l : List Entry) → m + n ≤ most → Entries m k → Entries n l → Entries most (k ++ l)
unfolding SmallEntries
entries_append most k l room p q = record {
  small = both_small k p.small;
  few = rw (faults_append k l, length-append (faults_in k) (faults_in l)) (omega (arith, p.few, q.few));
}
  where
    both_small : (k : List Entry) → SmallEntries k → SmallEntries (k ++ l)
    both_small [] h = q.small
    both_small (x ∷ k) h = (h.0, both_small k h.1)

-- where no block has more faults than steps, all blocks together have not either
blocks_small : (S : Sheet) (f : ℕ → List Entry) (n b : ℕ) → ((c : ℕ) → c < b + n → Entries (length (steps_of S c)) (f c))
    → Entries (step_count (drop b S.body)) (by_block f b n)
unfolding by_block SmallEntries faults_in
blocks_small S f zero b h = record { small = tt; few = omega arith }
blocks_small S f (suc n) b h =
    entries_append (step_count (drop b S.body)) (f b) (by_block f (suc b) n) (omega (arith, count_behind S.body b)) (h b (omega arith))
    (blocks_small S f n (suc b) (λ c l. h c (omega arith)))

module _ (S : Sheet) (L : Limited S.regs S.slots S.vregs S.blocks) (small : (b : ℕ) (x : Step) → In x (steps_of S b) → SmallStep x)
    (few : step_count S.body ≤ max_steps) where
  block_small : (b : ℕ) → b < S.blocks → Small b
  block_small b l = omega (arith, L.few_blocks)

  block_few : (b : ℕ) → length (steps_of S b) ≤ max_steps
  block_few b = omega (arith, steps_few S.body b)

  missing_lines : (n b : ℕ) → b + n ≤ S.blocks → Lines max_operands (missing_blocks S b n)
  unfolding missing_blocks
  missing_lines zero b l = no_lines max_operands
  missing_lines (suc n) b l =
      first_of_lists (Lines max_operands) (missing_from b 0 (steps_of S b)) (missing_blocks S (suc b) n)
      (missing_small b (block_small b (omega arith)) 0 (steps_of S b) (omega (arith, block_few b)) (small b))
      λ e. missing_lines n (suc b) (omega arith)

  block_allocated : (n b : ℕ) → missing_blocks S b n ≡ [] → (c : ℕ) → b ≤ c → c < b + n → missing_from c 0 (steps_of S c) ≡ []
  unfolding missing_blocks
  block_allocated zero b e c l u = absurd (omega arith)
  block_allocated (suc n) b e c l u = go (ℕ_discrete b c) (block_allocated n (suc b) p.1 c)
    where
      p : (missing_from b 0 (steps_of S b) ≡ []) × (missing_blocks S (suc b) n ≡ [])
      p = (first_none (missing_from b 0 (steps_of S b)) (missing_blocks S (suc b) n)).0 e

      go : Dec (b ≡ c) → (suc b ≤ c → c < suc b + n → missing_from c 0 (steps_of S c) ≡ []) → missing_from c 0 (steps_of S c) ≡ []
      go (yes q) rec = subst (λ (d : ℕ). missing_from d 0 (steps_of S d) ≡ []) q p.0
      go (no q) rec = rec (omega arith) (omega arith)

  module _ (rule : Rule) where
    entry_small : Fits SmallCell (shape S) (entry_state rule S)
    unfolding shape shape_of counts_of entry_state entry_rows
    entry_small =
        each_cons (row_below {P = SmallCell} S.regs (λ i. named (real i) false) (λ i l. omega (arith, L.few_regs))) (unfilled_fits rule (small_unfilled rule) (S.slots ∷ []))

    begun : (b : ℕ) (s : State) → (begin rule S).table b ≡ some s → Fits SmallCell (shape S) s
    unfolding begin before
    begun = update_holds (before rule S) S.entry (entry_state rule S) (Fits SmallCell (shape S)) entry_small
        (elsewhere rule (fits_unreached S rule (small_unfilled rule)))
      where
        elsewhere : (rule : Rule) → Fits SmallCell (shape S) (unreached_state rule S) → (b : ℕ) (s : State) → before rule S b ≡ some s
            → Fits SmallCell (shape S) s
        elsewhere Old f b s q = subst (Fits SmallCell (shape S)) (some_inj refl q) f
        elsewhere House f b s q = absurd (some_not_none refl q)

    analysed : (b : ℕ) (s : State) → (analysis rule S).table b ≡ some s → Fits SmallCell (shape S) s
    unfolding analysis flow
    analysed =
        holds_run (flow rule S) (Fits SmallCell (shape S)) (small_states rule (shape S))
        (λ b. small_effects (reference_typed S) (shape S) rule (steps_of S b) (small b)) (visit_bound rule S) (begin rule S) begun

    -- a block that has a state has at most a fault a step; any other has its own line
    block_entries_small : missing_allocations S ≡ [] → (c : ℕ) → c < 0 + S.blocks → Entries (length (steps_of S c)) (block_entries rule S c)
    unfolding missing_allocations
    block_entries_small e c l = at ((analysis rule S).table c) refl
      where
        h : Small c
        h = block_small c (omega arith)

        at : (o : Option State) → (analysis rule S).table c ≡ o → Entries (length (steps_of S c)) (block_entries rule S c)
        at none t = rw (unreached_entries rule S c t) (unreached_small (length (steps_of S c)) c h)
        at (some s) t =
            let none = none_missing c h 0 (steps_of S c) (block_allocated S.blocks 0 e c (omega arith) l) in
            rw (reached_entries rule S c s t)
            (fault_entries (faults_from rule S c 0 (steps_of S c) s)
            (found_small c h rule S 0 (steps_of S c) (omega (arith, block_few c)) (small c) none s (analysed c s t)))

    errors_small : missing_allocations S ≡ [] → Entries (step_count S.body) (find_errors rule S)
    unfolding find_errors
    errors_small e = blocks_small S (block_entries rule S) S.blocks 0 (block_entries_small e)

    entries_small : SmallReport (entries rule S)
    unfolding entries missing_allocations
    entries_small =
        first_of_lists SmallReport (map fault_entry (missing_allocations S)) (find_errors rule S)
        (let m = fault_entries (missing_allocations S) (missing_lines S.blocks 0 (omega arith)) in
        record { lines = m.small; count = omega (arith, m.few) })
        λ e. let f = errors_small ((map-eq-nil_iff _).0 e) in record { lines = f.small; count = omega (arith, f.few) }

-- under either rule, of every sheet that is read
pub read_reported : (rule : Rule) (bytes : Bytes) (S : Sheet) → read bytes ≡ loaded S → SmallReport (entries rule S)
read_reported rule bytes S e = entries_small S (read_limited bytes S e) (read_small bytes S e) (read_few bytes S e) rule
