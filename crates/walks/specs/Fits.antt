-- A state's shape, and what holds of its every cell: an effect keeps the rows' lengths, and it keeps a property of all cells where
-- what it stores has that property.
use Rattle.std.specs.Prelude.{◌≡◌, ◌⊎◌, Bool, cond, length, get_or, replicate}
use Rattle.std.proofs.Math.Path.{refl, subst}
use Rattle.std.proofs.Common.{sym, ◌∙◌, ap, inr}
use Rattle.std.proofs.Math.Logic.{inl}
use Rattle.std.proofs.Math.Bool.{true, false}
use mathlib.Core.List.{List, [], ◌∷◌, map}
use Prim.Native.Nat.{ℕ, suc, zero}
use Rattle.std.proofs.Math.ListN.{set, get_or-map}
use Rattle.std.proofs.lemmas.List.{length-replicate}
use Rattle.paper.specs.Text.{Name, real}
use Rattle.paper.specs.Sheet.{Operand, Step, spill, reload, move, change, operation, safepoint, Sheet, listed}
use Rattle.paper.specs.Cells.{Cell, absent, unknown, named, copied, overwritten, house_changed, old_changed, collected}
use Rattle.paper.specs.Steps.{State, counts_of, Location, at, nowhere, register, slot, cell_at, store_at, get, put, location_of, row_of, unfilled, unfilled_rows, entry_rows, entry_state, unreached_state, copy, everywhere, by_place, safepoint_row, old_define, house_define, old_effect, house_effect, effect, effects}
use Rattle.paper.specs.Walks.{In, here, there}
use Rattle.paper.specs.declared.Rule.{Rule}
use Rattle.paper.specs.declared.Rule.TheVariants.{Old, House}
use Rattle.walks.specs.Heights.{Each, each_nil, each_cons, each_map, each_placed, each_set, each_map_set, each_getD, each_lengths}

-- rows as lists of places
abbrev pub Shape : Type 0
Shape = List (List (Unit {0}))

unfoldable pub shape_of : List ℕ → Shape
shape_of [] = []
shape_of (n ∷ counts) = replicate n tt ∷ shape_of counts

-- as many cells as the sheet counts
unfoldable pub shape : Sheet → Shape
shape S = shape_of (counts_of S)

abbrev pub Row : (Cell → Type 0) → List (Unit {0}) → List Cell → Type 0
Row P = Each (λ u. P)

-- a state of that shape whose cells all have the property
abbrev pub Fits : (Cell → Type 0) → Shape → State → Type 0
Fits P = Each (Row P)

shape_lengths : (counts : List ℕ) → map length (shape_of counts) ≡ counts
unfolding shape_of
shape_lengths [] = refl
shape_lengths (n ∷ counts) = cc (length-replicate n (tt {0}), shape_lengths counts)

pub fits_lengths : {P : Cell → Type 0} (S : Sheet) {s : State} → Fits P (shape S) s → map length s ≡ counts_of S
unfolding shape
fits_lengths S f = each_lengths f ∙ shape_lengths (counts_of S)

module _ {P : Cell → Type 0} where
  row_all : (n : ℕ) (f : ℕ → Cell) → ((i : ℕ) → P (f i)) → Row P (replicate n tt) (row_of n f)
  unfolding row_of
  row_all zero f h = each_nil
  row_all (suc n) f h = each_cons (h 0) (row_all n (λ i. f (suc i)) (λ i. h (suc i)))

  row_same : (n : ℕ) (c : Cell) → P c → Row P (replicate n tt) (replicate n c)
  row_same zero c p = each_nil
  row_same (suc n) c p = each_cons p (row_same n c p)

  pub unfilled_fits : (rule : Rule) → P (unfilled rule) → (counts : List ℕ) → Fits P (shape_of counts) (unfilled_rows rule counts)
  unfolding shape_of unfilled_rows
  unfilled_fits rule p [] = each_nil
  unfilled_fits rule p (n ∷ counts) = each_cons (row_same n (unfilled rule) p) (unfilled_fits rule p counts)

  entry_fits : (rule : Rule) → P (unfilled rule) → ((i : ℕ) → P (named (real i) false)) → (counts : List ℕ) → Fits P (shape_of counts) (entry_rows rule counts)
  unfolding shape_of entry_rows
  entry_fits rule p q [] = each_nil
  entry_fits rule p q (n ∷ counts) = each_cons (row_all n (λ i. named (real i) false) q) (unfilled_fits rule p counts)

  pub fits_entry : (S : Sheet) (rule : Rule) → P (unfilled rule) → ((i : ℕ) → P (named (real i) false)) → Fits P (shape S) (entry_state rule S)
  unfolding shape entry_state
  fits_entry S rule p q = entry_fits rule p q (counts_of S)

  pub fits_unreached : (S : Sheet) (rule : Rule) → P (unfilled rule) → Fits P (shape S) (unreached_state rule S)
  unfolding shape unreached_state
  fits_unreached S rule p = unfilled_fits rule p (counts_of S)

  module _ (sh : Shape) where
    -- a cell of the state has the property, and a place beyond the counts is read as Absent
    fits_cell : (r i : ℕ) (s : State) → Fits P sh s → (cell_at s r i ≡ absent) ⊎ P (cell_at s r i)
    fits_cell r i s f = row (each_getD [] r f)
      where
        cell : (cell_at s r i ≡ absent) ⊎ (Unit {0} × P (cell_at s r i)) → (cell_at s r i ≡ absent) ⊎ P (cell_at s r i)
        cell (inl e) = inl e
        cell (inr p) = inr p.1

        row : (get_or s r [] ≡ []) ⊎ ((is : List (Unit {0})) × Row P is (get_or s r [])) → (cell_at s r i ≡ absent) ⊎ P (cell_at s r i)
        row (inl e) = inl (ap (λ (a : List Cell). get_or a i absent) e)
        row (inr p) = cell (each_getD absent i p.1)

    pub fits_get : (l : Location) (s : State) → Fits P sh s → (get s l ≡ absent) ⊎ P (get s l)
    unfolding get
    fits_get (at row place) s f = fits_cell row place s f
    fits_get nowhere s f = inl refl

    fits_store : (r i : ℕ) (c : Cell) → P c → (s : State) → Fits P sh s → Fits P sh (store_at r i c s)
    fits_store r i c p s f = each_set (λ row. set row i c) (λ is row. each_set (λ x. c) (λ u x q. p) absent i) [] r f

    pub fits_put : (l : Location) (c : Cell) → P c → (s : State) → Fits P sh s → Fits P sh (put l c s)
    unfolding put
    fits_put (at row place) c p s f = fits_store row place c p s f
    fits_put nowhere c p s f = f

    pub fits_everywhere : (g : Cell → Cell) → ((c : Cell) → P c → P (g c)) → (s : State) → Fits P sh s → Fits P sh (everywhere g s)
    unfolding everywhere
    fits_everywhere g h s f = each_map (map g) (λ is row. each_map g (λ u. h)) f

    pub fits_copy : P unknown → ((c : Cell) → P c → P (copied c)) → (into from : Location) (s : State) → Fits P sh s → Fits P sh (copy into from s)
    unfolding copy copied
    fits_copy p h into from s f = fits_put into (copied (get s from)) (go (fits_get from s f)) s f
      where
        go : (get s from ≡ absent) ⊎ P (get s from) → P (copied (get s from))
        go (inl e) = subst (λ (c : Cell). P (copied c)) (sym e) p
        go (inr q) = h (get s from) q

    pub fits_collect : (rule : Rule) → ((c : Cell) → P c → P (collected rule c)) → (slots : List ℕ) (s : State) → Fits P sh s → Fits P sh (by_place (safepoint_row rule slots) s)
    unfolding safepoint_row
    fits_collect rule h slots s f = each_placed (safepoint_row rule slots) (λ r is row. at r is row) f
      where
        kept : (b : Bool) (c : Cell) → P c → P (cond b c (collected rule c))
        kept true c p = p
        kept false c p = h c p

        at : (r : ℕ) (is : List (Unit {0})) (row : List Cell) → Row P is row → Row P is (safepoint_row rule slots r row)
        at zero is row q = each_map (collected rule) (λ u. h) q
        at (suc zero) is row q = each_placed _ (λ i u. kept (listed slots i)) q
        at (suc (suc r)) is row q = each_map (collected rule) (λ u. h) q

-- what the house rule stores has the property, for a sheet whose changes are all `Allowed`
pub record HouseKeeps (P : Cell → Type 0) (ref : Name → Bool) (Allowed : Name → Name → Type 0) : Type 0 where
  pub on_unknown : P unknown
  pub on_copied : (c : Cell) → P c → P (copied c)
  pub on_overwritten : (n : Name) (c : Cell) → P c → P (overwritten n c)
  pub on_changed : (from to : Name) → Allowed from to → (c : Cell) → P c → P (house_changed from to c)
  pub on_collected : (c : Cell) → P c → P (collected House c)
  pub on_defined : (n : Name) → P (named n (ref n))

module _ {P : Cell → Type 0} {ref : Name → Bool} {Allowed : Name → Name → Type 0} (K : HouseKeeps P ref Allowed) (sh : Shape) where
  fits_define : (defs : List Operand) (s : State) → Fits P sh s → Fits P sh (house_define ref defs s)
  unfolding house_define
  fits_define [] s f = f
  fits_define (d ∷ ds) s f =
      fits_define ds _ (fits_put sh (location_of d.reg) (named d.name (ref d.name)) (K.on_defined d.name) _
      (fits_everywhere sh (overwritten d.name) (K.on_overwritten d.name) s f))

  fits_change : (k : ℕ) (from to : Name) → Allowed from to → (s : State) → Fits P sh s
      → Fits P sh (put (slot k) (house_changed from to (get s (slot k))) (everywhere (overwritten to) s))
  unfolding put get everywhere
  fits_change k from to ok s f =
      rw (get_or-map (map (overwritten to)) s 1 [])
      (each_map_set (map (overwritten to)) (λ row. set (map (overwritten to) row) k (house_changed from to (get_or row k absent)))
      (λ is row. each_map (overwritten to) (λ u. K.on_overwritten to))
      (λ is row. each_map_set (overwritten to) (house_changed from to) (λ u. K.on_overwritten to) (λ u. K.on_changed from to ok) absent k) [] 1 f)

  pub house_fits : (x : Step) → ((inst k : ℕ) (from to : Name) → x ≡ change inst k from to → Allowed from to) → (s : State) → Fits P sh s → Fits P sh (effect House ref x s)
  unfolding effect house_effect
  house_fits (spill k r) ok s f = fits_copy sh K.on_unknown K.on_copied (slot k) (register r) s f
  house_fits (reload r k) ok s f = fits_copy sh K.on_unknown K.on_copied (register r) (slot k) s f
  house_fits (move into from) ok s f = fits_copy sh K.on_unknown K.on_copied (register into) (register from) s f
  house_fits (change inst k from to) ok s f = fits_change k from to (ok inst k from to refl) s f
  house_fits (operation inst uses defs) ok s f = fits_define defs s f
  house_fits (safepoint inst slots) ok s f = fits_collect sh House K.on_collected slots s f

  pub house_fits_all : (xs : List Step) → ((inst k : ℕ) (from to : Name) → In (change inst k from to) xs → Allowed from to) → (s : State) → Fits P sh s → Fits P sh (effects House ref xs s)
  unfolding effects
  house_fits_all [] ok s f = f
  house_fits_all (x ∷ xs) ok s f =
      house_fits_all xs (λ inst k from to i. ok inst k from to (there i)) (effect House ref x s)
      (house_fits x (λ inst k from to e. ok inst k from to (here (sym e))) s f)

-- under the old rule only the shape matters
abbrev pub Any : Cell → Type 0
Any c = Unit {0}

module _ (ref : Name → Bool) (sh : Shape) where
  old_fits_define : (defs : List Operand) (s : State) → Fits Any sh s → Fits Any sh (old_define ref defs s)
  unfolding old_define
  old_fits_define [] s f = f
  old_fits_define (d ∷ ds) s f = old_fits_define ds _ (fits_put sh (location_of d.reg) (named d.name (ref d.name)) tt s f)

  old_fits : (x : Step) (s : State) → Fits Any sh s → Fits Any sh (effect Old ref x s)
  unfolding effect old_effect
  old_fits (spill k r) s f = fits_copy sh tt (λ c p. tt) (slot k) (register r) s f
  old_fits (reload r k) s f = fits_copy sh tt (λ c p. tt) (register r) (slot k) s f
  old_fits (move into from) s f = fits_copy sh tt (λ c p. tt) (register into) (register from) s f
  old_fits (change inst k from to) s f = fits_put sh (slot k) (old_changed to (get s (slot k))) tt s f
  old_fits (operation inst uses defs) s f = old_fits_define defs s f
  old_fits (safepoint inst slots) s f = fits_collect sh Old (λ c p. tt) slots s f

  pub old_fits_all : (xs : List Step) (s : State) → Fits Any sh s → Fits Any sh (effects Old ref xs s)
  unfolding effects
  old_fits_all [] s f = f
  old_fits_all (x ∷ xs) s f = old_fits_all xs (effect Old ref x s) (old_fits x s f)

-- so no effect changes the rows' lengths
row_any : (a : List Cell) → Row Any (map (λ c. tt) a) a
row_any [] = each_nil
row_any (x ∷ a) = each_cons tt (row_any a)

fits_any : (s : State) → Fits Any (map (map (λ c. tt)) s) s
fits_any [] = each_nil
fits_any (a ∷ s) = each_cons (row_any a) (fits_any s)

any_keeps : (ref : Name → Bool) → HouseKeeps Any ref (λ from to. Unit {0})
any_keeps ref = record {
  on_unknown = tt;
  on_copied = λ c p. tt;
  on_overwritten = λ n c p. tt;
  on_changed = λ from to ok c p. tt;
  on_collected = λ c p. tt;
  on_defined = λ n. tt;
}

pub effect_lengths : (rule : Rule) (ref : Name → Bool) (x : Step) (s : State) → map length (effect rule ref x s) ≡ map length s
effect_lengths Old ref x s = each_lengths (old_fits ref _ x s (fits_any s)) ∙ sym (each_lengths (fits_any s))
effect_lengths House ref x s = each_lengths (house_fits (any_keeps ref) _ x (λ inst k from to e. tt) s (fits_any s)) ∙ sym (each_lengths (fits_any s))
