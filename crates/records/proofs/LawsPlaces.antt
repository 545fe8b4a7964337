-- From field to field along a line: what stands at a place where a field ends, and the place behind the next field.
use mathlib.Core.Path.{◌≡◌, refl, sym, ap, ◌∙◌}
use mathlib.Core.Bool.{Bool, false, true≢false}
use mathlib.Core.List.{[], ◌∷◌}
use mathlib.Core.Option.{Option, none, some}
use Prim.Native.Nat.{ℕ, zero, suc, ◌+◌, ◌-◌, ◌≤◌, ◌<◌}
use native.Mathlib.Nat.{not-suc-le-zero}
use native.Mathlib.Omega.{arith}
use borrow.Author.Tests.{eq-eqb, ne_eqb, eqb-true, lt-ltb, le-ltb}
use lib.Dec.{eqb}
use lib.ListN.{length, get_or, drop}
use lib.Seq.{get_or-drop}
use Rattle.lists.specs.Split.{by_test, by_order}
use Rattle.paper.specs.Text.{Bytes, tab, line_feed, real, virtual}
use Rattle.paper.specs.Refusals.{next, ended}
use Rattle.fields.specs.Fields.{until, ends_field, field_at, field_end, line_end, fields_behind, number_at, name_at, allocation_at, NumberWithin, named, allocated}
use Rattle.fields.specs.Cursor.{field_stop, field_end_none, field_ended, fields_at, fields_behind_tab, fields_behind_none, line_end_tab, line_end_none}
use Rattle.fields.specs.Told.{Says, Refuses, next_says, next_refused, number_says, number_refused, name_says, allocation_says}
use Rattle.fields.specs.declared.Name.TheVariants as name
use Rattle.std.specs.Prelude.{Some, None, unwrap_or}
use Rattle.std.specs.declared.option.Option as read
use Rattle.records.specs.Records.{Behind, Ends, Next, NumberBehind, NameBehind, AllocationBehind, name_of_code, register_of_code}

-- no byte before the first stop stops
unstopped : (stops : ℕ → Bool) (l : Bytes) (k : ℕ) → k < length (until stops l) → stops (get_or l k 0) ≡ false
unfolding until
unstopped stops [] k h = absurd (not-suc-le-zero h)
unstopped stops (b ∷ bs) zero h = by_test (stops b) (λ e. absurd (not-suc-le-zero (rw e at h))) λ e. e
unstopped stops (b ∷ bs) (suc k) h =
    by_test (stops b) (λ e. absurd (not-suc-le-zero (rw e at h))) λ e. let g = rw e at h in unstopped stops bs k (omega arith)

-- a tab does not end the sheet, so a field follows, and ends before the sheet does
module _ {s : Bytes} {at : ℕ} (b : Behind s at) where
  pub tab_or_feed : (get_or s at 0 ≡ line_feed → ⊥) → get_or s at 0 ≡ tab
  unfolding ends_field
  tab_or_feed f = by_test (eqb (get_or s at 0) tab) (λ e. eqb-true _ _ e) λ e. absurd (true≢false (sym b.stops ∙ rw (e, ne_eqb _ _ f)))

  module _ (t : get_or s at 0 ≡ tab) where
    more : at + 1 < length s
    more =
        by_order (at + 1) (length s) (λ h. h) λ h.
        let p : length s - 1 ≡ at = omega (arith, b.inside) in
        let q : get_or s at 0 ≡ 10 = rw p at b.last in
        absurd (omega arith)

    unclosed : length s ≤ field_end s (at + 1) → ⊥
    unfolding field_end field_at ends_field
    unclosed h =
        let l : Bytes = drop (at + 1) s in
        let k : ℕ = length s - 1 - (at + 1) in
        let m = more in
        let e : at + 1 + k ≡ length s - 1 = omega arith in
        let u : ends_field (get_or l k 0) ≡ false = unstopped ends_field l k (omega arith) in
        true≢false (rw (get_or-drop (at + 1) s k 0, e, b.last) at u)

    closed : field_end s (at + 1) < length s
    closed = by_order (field_end s (at + 1)) (length s) (λ h. h) λ h. absurd (unclosed h)

    behind_next : Behind s (field_end s (at + 1))
    behind_next =
        record { inside = closed; stops = field_ended s (at + 1) closed; last = b.last; size = b.size }

  -- the line ends where it did
  stays : field_end s at ≡ at
  stays = field_end_none s at (field_stop s at b.inside b.stops)

  line_tab : get_or s at 0 ≡ tab → line_end s at ≡ line_end s (at + 1)
  line_tab t =
      let e : line_end s at ≡ line_end s (field_end s at + 1) = line_end_tab s at (rw stays t) in
      e ∙ ap (λ (n : ℕ). line_end s (n + 1)) stays

  line_feed_here : get_or s at 0 ≡ line_feed → line_end s at ≡ at
  line_feed_here f = line_end_none s at (λ t. omega (arith, rw stays at t, f)) ∙ stays

  -- no field is left at a line feed, and one is at a tab
  pub none_left : get_or s at 0 ≡ line_feed → fields_behind s at ≡ []
  none_left f = fields_behind_none s at λ t. omega (arith, t, f)

  pub not_ended : {A : Type 0} (a : A) → (get_or s at 0 ≡ line_feed → ⊥) → ended (fields_behind s at) a ≡ none
  unfolding ended
  not_ended a f = rw (fields_behind_tab s at (tab_or_feed f), fields_at s (at + 1))

line_next : {s : Bytes} {at : ℕ} → Behind s at → get_or s at 0 ≡ tab → line_end s (field_end s (at + 1)) ≡ line_end s at
line_next {s} {at} b t =
    let c : Behind s (field_end s (at + 1)) = behind_next b t in
    let i : ℕ = field_end s (at + 1) in
    by_test (eqb (get_or s i 0) line_feed)
    (λ e.
    let f : get_or s i 0 ≡ line_feed = eqb-true _ _ e in
    line_feed_here c f ∙ sym (line_end_none s (at + 1) (λ u. omega (arith, u, f))) ∙ sym (line_tab b t))
    λ e.
    let u : get_or s i 0 ≡ tab = tab_or_feed c (λ f. true≢false (sym (eq-eqb _ _ f) ∙ e)) in
    line_tab c u ∙ sym (line_end_tab s (at + 1) u) ∙ sym (line_tab b t)

-- the line's last field is behind
pub ends_here : {s : Bytes} {at i : ℕ} → Behind s i → line_end s i ≡ line_end s at → get_or s i 0 ≡ line_feed → Ends s at i
ends_here b e f = record { place = sym (line_feed_here b f) ∙ e; inside = b.inside; feed = f }

-- the next field, taken and refused
taken : {A : Type 0} {f : Bytes → Option A} {s : Bytes} {at : ℕ} {a : A} {i : ℕ} → Behind s at → get_or s at 0 ≡ tab → Says f s (at + 1) a i → Next f s at a i
unfolding field_end
taken {A} {f} {s} {at} {a} {i} b t w = record {
  says = rw (fields_behind_tab s at t) (next_says w);
  place = w.place;
  further = omega (arith, w.place);
  behind = rw w.place (behind_next b t);
  line = rw w.place (line_next b t);
}

pub refused : {A : Type 0} {f : Bytes → Option A} (s : Bytes) (at : ℕ) → get_or s at 0 ≡ tab → Refuses f s (at + 1) → next f (fields_behind s at) ≡ none
refused {A} {f} s at t w = rw (fields_behind_tab s at t) (next_refused w)

pub no_field : {A : Type 0} (f : Bytes → Option A) (s : Bytes) (at : ℕ) → (get_or s at 0 ≡ tab → ⊥) → next f (fields_behind s at) ≡ none
unfolding next
no_field f s at t = rw (fields_behind_none s at t)

pub number_next : {s : Bytes} {at : ℕ} → Behind s at → get_or s at 0 ≡ tab → (r : read.Option (ℕ × ℕ)) → number_at s (at + 1) ≡ r → NumberWithin s (at + 1) r → NumberBehind s at r
number_next {s} {at} b t None e w = refused s at t (number_refused e)
number_next b t (Some x) e w = (taken b t (number_says e), w.small)

-- the numbers that a name and an allocation are read into
real_code : (n : ℕ) → real n ≡ name_of_code (100000 + n)
unfolding name_of_code
real_code n = rw (le-ltb (100000 + n) 100000 (omega arith)) (ap real (omega arith))

virtual_code : (n : ℕ) → n < 100000 → virtual n ≡ name_of_code n
unfolding name_of_code
virtual_code n h = rw (lt-ltb n 100000 h)

register_code : (r : ℕ) → r < 100000 → some r ≡ register_of_code r
unfolding register_of_code
register_code r h = rw (lt-ltb r 100000 h)

no_register_code : none ≡ register_of_code 100000
unfolding register_of_code
no_register_code = refl

module _ {s : Bytes} {at i : ℕ} (b : Behind s at) (t : get_or s at 0 ≡ tab) where
  pub real_next : {n : ℕ} → name_at s (at + 1) ≡ Some (name.Real n, i) → n < 100000 → NameBehind s at (Some (100000 + n, i))
  unfolding named
  real_next {n} e w = (rw (← real_code n) (taken b t (name_says e)), omega (arith, w))

  pub virtual_next : {n : ℕ} → name_at s (at + 1) ≡ Some (name.Virtual n, i) → n < 100000 → NameBehind s at (Some (n, i))
  unfolding named
  virtual_next {n} e w = (rw (← virtual_code n w) (taken b t (name_says e)), omega (arith, w))

  pub allocation_next : (r : read.Option ℕ) → allocation_at s (at + 1) ≡ Some (r, i) → unwrap_or r 0 < 100000 → AllocationBehind s at (Some (unwrap_or r 100000, i))
  unfolding allocated
  allocation_next None e w = (rw (← no_register_code) (taken b t (allocation_says e)), omega arith)
  allocation_next (Some r) e w = (rw (← register_code r w) (taken b t (allocation_says e)), omega (arith, w))
