-- The two programs on a walk: as long as every cell that holds a name has that name's value, a step that passes its check reads
-- the same values in both programs and keeps it so.
use Rattle.std.specs.Prelude.{◌≡◌, true, false, ℕ, suc, zero}
use Rattle.std.proofs.Math.Path.{refl}
use Rattle.std.proofs.Common.{sym, ◌∙◌, ap, subst}
use Rattle.std.proofs.Math.Bool.{Bool, cond}
use mathlib.Core.List.{List, [], ◌∷◌}
use Rattle.std.proofs.Math.Option.{none}
use Rattle.paper.specs.Text.{Name, name_same}
use Rattle.paper.specs.Sheet.{Operand, Step, spill, reload, move, change, operation, safepoint, listed}
use Rattle.paper.specs.Cells.{Cell, named, pick, copied, overwritten, house_changed, collected}
use Rattle.paper.specs.Steps.{State, Location, at, nowhere, register, slot, get, put, location_of, check, copy, everywhere, safepoint_row, house_define, house_effect, effect}
use Rattle.paper.specs.Walks.{In, here, there, Passes}
use Rattle.paper.specs.Programs.{location_same, uses_of, World, Original, Allocated, write_name, write_cell, original_reads, allocated_reads, original_writes, allocated_writes, original_collects, allocated_collects, original_step, allocated_step, original_run, allocated_run}
use Rattle.paper.specs.declared.Rule.TheVariants.{House}
use Rattle.walks.specs.Choices.{pick_yes, pick_no}
use Rattle.walks.specs.Checks.{Holds, uses_hold, slots_marked, listed_in}
use Rattle.walks.specs.Holding.{absent_named, copied_named, overwritten_named, changed_named, collected_named, put_named, get_put_other, get_everywhere, get_unlisted, get_listed}
use Rattle.walks.specs.Fits.{Shape, Fits, house_fits}
use Rattle.walks.specs.Honest.{Proper, SameType, proper_keeps, own_mark}

module _ (W : World) where
  -- a cell that holds a name has the name's value
  abbrev pub Agrees : State → Original W → Allocated W → Type 0
  Agrees s o a = (l : Location) (n : Name) (m : Bool) → get s l ≡ named n m → a l ≡ o n

  reads_agree : (us : List Operand) (s : State) (o : Original W) (a : Allocated W)
      → ((u : Operand) → In u us → Holds u.name (get s (location_of u.reg))) → Agrees s o a → original_reads W us o ≡ allocated_reads W us a
  unfolding original_reads allocated_reads
  reads_agree [] s o a f h = refl
  reads_agree (u ∷ us) s o a f h =
      let g = f u (here refl) in
      cc (h (location_of u.reg) u.name g.mark g.is, reads_agree us s o a (λ v i. f v (there i)) h)

  copy_agrees : (into from : Location) (s : State) (o : Original W) (a : Allocated W) → Agrees s o a → Agrees (copy into from s) o (write_cell W into (a from) a)
  unfolding copy write_cell
  copy_agrees into from s o a h l n m e = go (location_same l into)
    where
      go : (d : Dec (l ≡ into)) → pick d (a from) (a l) ≡ o n
      go (yes p) = h from n m (copied_named (get s from) n m (put_named into (copied (get s from)) s n m (subst (λ (k : Location). get (put into (copied (get s from)) s) k ≡ named n m) p e)))
      go (no p) = h l n m (sym (get_put_other into l (copied (get s from)) s p) ∙ e)

  define_agrees : (ref : Name → Bool) (x : Name) (r : Location) (v : W.Value) (s : State) (o : Original W) (a : Allocated W) → Agrees s o a
      → Agrees (put r (named x (ref x)) (everywhere (overwritten x) s)) (write_name W x v o) (write_cell W r v a)
  unfolding write_cell write_name overwritten
  define_agrees ref x r v s o a h l n m e = go (location_same l r)
    where
      t : State
      t = everywhere (overwritten x) s

      go : (d : Dec (l ≡ r)) → pick d v (a l) ≡ pick (name_same n x) v (o n)
      go (yes p) =
          let f = put_named r (named x (ref x)) t n m (subst (λ (k : Location). get (put r (named x (ref x)) t) k ≡ named n m) p e) in
          let g : n ≡ x = cc in
          sym (pick_yes (name_same n x) v (o n) g)
      go (no p) =
          let f = overwritten_named x (get s l) n m (sym (get_everywhere (overwritten x) refl s l) ∙ sym (get_put_other r l (named x (ref x)) t p) ∙ e) in
          h l n m f.0 ∙ sym (pick_no (name_same n x) v (o n) f.1)

  defines_agree : (ref : Name → Bool) (defs : List Operand) (result : ℕ → W.Value) (s : State) (o : Original W) (a : Allocated W) → Agrees s o a
      → Agrees (house_define ref defs s) (original_writes W defs result o) (allocated_writes W defs result a)
  unfolding house_define original_writes allocated_writes
  defines_agree ref [] result s o a h = h
  defines_agree ref (d ∷ ds) result s o a h = defines_agree ref ds (λ i. result (suc i)) _ _ _ (define_agrees ref d.name (location_of d.reg) (result 0) s o a h)

  change_agrees : (k : ℕ) (from to : Name) (s : State) (o : Original W) (a : Allocated W) → Agrees s o a
      → Agrees (put (slot k) (house_changed from to (get s (slot k))) (everywhere (overwritten to) s)) (write_name W to (o from) o) a
  unfolding write_name overwritten
  change_agrees k from to s o a h l n m e = go (location_same l (slot k))
    where
      c : Cell
      c = house_changed from to (get s (slot k))

      t : State
      t = everywhere (overwritten to) s

      go : (d : Dec (l ≡ slot k)) → a l ≡ pick (name_same n to) (o from) (o n)
      go (yes p) =
          let f = changed_named from to (get s (slot k)) n m (put_named (slot k) c t n m (subst (λ (j : Location). get (put (slot k) c t) j ≡ named n m) p e)) in
          ap a p ∙ h (slot k) from m f.0 ∙ sym (pick_yes (name_same n to) (o from) (o n) f.1)
      go (no p) =
          let f = overwritten_named to (get s l) n m (sym (get_everywhere (overwritten to) refl s l) ∙ sym (get_put_other (slot k) l c t p) ∙ e) in
          h l n m f.0 ∙ sym (pick_no (name_same n to) (o from) (o n) f.1)

  module _ (ref : Name → Bool) (sh : Shape) where
    -- a cell that the collector leaves alone holds an untyped name, one that it moves a typed one
    collect_agrees : (inst place : ℕ) (slots : List ℕ) (s : State) (o : Original W) (a : Allocated W) → Fits (Proper ref) sh s → check (safepoint inst slots) s ≡ none → Agrees s o a
        → Agrees (effect House ref (safepoint inst slots) s) (original_collects W ref place o) (allocated_collects W slots place a)
    unfolding original_collects allocated_collects check get safepoint_row
    collect_agrees inst place slots s o a fits ok h = agree
      where
        moved : (n : Name) → Bool → W.Value
        moved n b = cond b (W.collect place (o n)) (o n)

        left : (l : Location) (n : Name) (m : Bool) → collected House (get s l) ≡ named n m → a l ≡ moved n (ref n)
        left l n m e =
            let f = collected_named (get s l) n m e in
            h l n m f.0 ∙ ap (moved n) (sym f.1 ∙ own_mark ref sh s fits l n m f.0)

        agree : (l : Location) (n : Name) (m : Bool) → get (effect House ref (safepoint inst slots) s) l ≡ named n m → allocated_collects W slots place a l ≡ moved n (ref n)
        agree nowhere n m e = absent_named e
        agree (at zero i) n m e = left (register i) n m (sym (get_unlisted ref inst slots s i 0 refl) ∙ e)
        agree (at (suc (suc row)) i) n m e = left (at (suc (suc row)) i) n m (sym (get_unlisted ref inst slots s i (suc (suc row)) refl) ∙ e)
        agree (at (suc zero) i) n m e = go (listed slots i) refl (sym (get_listed ref inst slots s i) ∙ e)
          where
            go : (b : Bool) → listed slots i ≡ b → cond b (get s (slot i)) (collected House (get s (slot i))) ≡ named n m → cond b (W.collect place (a (slot i))) (a (slot i)) ≡ moved n (ref n)
            go true q f =
                let k = slots_marked slots s ok i (listed_in slots i q) in
                let u = k.is in
                let t : true ≡ ref n = cc (own_mark ref sh s fits (slot i) n m f) in
                ap (W.collect place) (h (slot i) n m f) ∙ ap (moved n) t
            go false q f = left (slot i) n m f

    step_agrees : (place : ℕ) (x : Step) (s : State) (o : Original W) (a : Allocated W) → Fits (Proper ref) sh s → check x s ≡ none → Agrees s o a
        → (original_reads W (uses_of x) o ≡ allocated_reads W (uses_of x) a) × Agrees (effect House ref x s) (original_step W ref place x o) (allocated_step W place x a)
    unfolding effect house_effect original_step allocated_step uses_of check original_reads allocated_reads
    step_agrees place (spill k r) s o a fits ok h = (refl, copy_agrees (slot k) (register r) s o a h)
    step_agrees place (reload r k) s o a fits ok h = (refl, copy_agrees (register r) (slot k) s o a h)
    step_agrees place (move into from) s o a fits ok h = (refl, copy_agrees (register into) (register from) s o a h)
    step_agrees place (change inst k from to) s o a fits ok h = (refl, change_agrees k from to s o a h)
    step_agrees place (operation inst uses defs) s o a fits ok h =
        let e = reads_agree uses s o a (uses_hold uses s ok) h in
        (e, rw e (defines_agree ref defs (W.results place (allocated_reads W uses a)) s o a h))
    step_agrees place (safepoint inst slots) s o a fits ok h = (refl, collect_agrees inst place slots s o a fits ok h)

    -- steps that pass their checks read the same in both programs
    pub same_reads : (xs : List Step) → ((inst k : ℕ) (from to : Name) → In (change inst k from to) xs → SameType ref from to)
        → (place : ℕ) (s : State) (o : Original W) (a : Allocated W) → Fits (Proper ref) sh s → Passes ref xs s → Agrees s o a
        → original_run W ref place xs o ≡ allocated_run W place xs a
    unfolding original_run allocated_run Passes
    same_reads [] typed place s o a fits ok h = refl
    same_reads (x ∷ xs) typed place s o a fits ok h =
        let m = step_agrees place x s o a fits ok.0 h in
        let f = house_fits (proper_keeps ref) sh x (λ inst k from to e. typed inst k from to (here (sym e))) s fits in
        cc (m.0, same_reads xs (λ inst k from to i. typed inst k from to (there i)) (suc place) (effect House ref x s) (original_step W ref place x o) (allocated_step W place x a) f ok.1 m.1)
