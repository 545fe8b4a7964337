-- The slots of a `P`, listed one by one: limit, order and mask.
use mathlib.Core.Path.{◌≡◌, refl, sym, ◌∙◌}
use mathlib.Core.Bool.{Bool, true, false, not, ◌&&◌, ◌||◌, true≢false, and-true, and-false, and_assoc, or-true, or-false, or_assoc}
use mathlib.Core.List.{List, [], ◌∷◌, ◌++◌, append-nil}
use mathlib.Core.Option.{none, map}
use Prim.Native.Nat.{ℕ, suc, ◌+◌, ◌*◌, ◌%◌, ◌^◌, ◌≤◌, ◌<◌}
use native.Mathlib.Nat.{pow-suc}
use native.Mathlib.Numerals.{add-one}
use native.Mathlib.Omega.{arith}
use borrow.Author.Tests.{le-leb, lt-leb, not-true}
use lib.Dec.{leb}
use lib.ListN.{get_or}
use lib.Pow.{pow_mono, shl_exact}
use Rattle.lists.specs.Split.{by_test}
use Rattle.paper.specs.Text.{Bytes, line_feed, number_of}
use Rattle.paper.specs.Refusals.{next, numbers_of, any, ascending_from, ascending}
use Rattle.fields.specs.Fields.{line_end, fields_behind}
use Rattle.lists.specs.Bits.{no_bits}
use Rattle.lists.specs.Highest.{set_bits_more}
use Rattle.records.specs.declared.Listed.{Listed}
use Rattle.records.specs.Records.{Behind, Next}
use Rattle.records.specs.Parts.{least_behind, Listing, SlotsListed}
use Rattle.records.proofs.LawsPlaces.{ends_here}
use Rattle.records.proofs.LawsNumbers.{map_same, put_behind, numbers_taken, numbers_refused, numbers_ended}

any_last : {A : Type 0} (test : A → Bool) (l : List A) (x : A) → any test (l ++ (x ∷ [])) ≡ (any test l || test x)
unfolding any
any_last test [] x = or-false (test x)
any_last test (y ∷ l) x = rw (any_last test l x) (sym (or_assoc (test y) (any test l) (test x)))

ascending_last : (least : ℕ) (l : List ℕ) (x : ℕ) → ascending_from least (l ++ (x ∷ [])) ≡ (ascending_from least l && leb (least_behind least l) x)
unfolding ascending_from least_behind
ascending_last least [] x = and-true (leb least x)
ascending_last least (y ∷ l) x = rw (ascending_last (suc y) l x) (sym (and_assoc (leb least y) (ascending_from (suc y) l) (leb (least_behind (suc y) l) x)))

least_last : (least : ℕ) (l : List ℕ) (x : ℕ) → least_behind least (l ++ (x ∷ [])) ≡ suc x
unfolding least_behind
least_last least [] x = refl
least_last least (y ∷ l) x = least_last (suc y) l x

-- the code's shift
pub one_bit : (slot : ℕ) → slot < 32 → (1 * 2 ^ slot) % 4294967296 ≡ 2 ^ slot
one_bit slot h = shl_exact 1 slot 32 (omega arith) (omega arith) ∙ (omega arith)

pub fits_mask : (m least slot : ℕ) → m < 2 ^ least → least ≤ slot → slot < 32 → m + 2 ^ slot < 4294967296
fits_mask m least slot p h k =
    let a = pow_mono {i = least} {j = slot} h in
    let b : 2 ^ suc slot ≤ 2 ^ 32 = pow_mono {i = suc slot} {j = 32} (omega arith) in
    omega (arith, rw (pow-suc 2 slot) at b)

listing_none : (slots : ℕ) → Listing slots [] (record { beyond = false; disorder = false; mask = 0; least = 0 })
unfolding any ascending ascending_from least_behind
listing_none slots = record {
  beyond_told = refl;
  room = omega arith;
  most = omega arith;
  order = λ e. refl;
  next_least = λ e f. refl;
  bits = λ e f. no_bits;
}

-- one number more does not bring order back; and it keeps order from the least on
disorder_stays : (done : List ℕ) (x : ℕ) → not (ascending done) ≡ true → true ≡ not (ascending (done ++ (x ∷ [])))
unfolding ascending
disorder_stays done x e = rw (ascending_last 0 done x, not-true (ascending_from 0 done) e)

disorder_here : (done : List ℕ) (x : ℕ) → x < least_behind 0 done → true ≡ not (ascending (done ++ (x ∷ [])))
unfolding ascending
disorder_here done x h = rw (ascending_last 0 done x, lt-leb (least_behind 0 done) x h, and-false)

order_kept : (done : List ℕ) (x : ℕ) → least_behind 0 done ≤ x → not (ascending done) ≡ not (ascending (done ++ (x ∷ [])))
unfolding ascending
order_kept done x h = rw (ascending_last 0 done x, le-leb (least_behind 0 done) x h, and-true)

module _ {slots : ℕ} {done : List ℕ} {l : Listed} (h : Listing slots done l) (slot : ℕ) where
  pub slot_beyond : slots ≤ slot
      → Listing slots (done ++ (slot ∷ [])) (record { beyond = true; disorder = l.disorder; mask = l.mask; least = l.least })
  slot_beyond p = record {
    beyond_told = rw (any_last (leb slots) done slot, le-leb slots slot p, or-true);
    room = h.room;
    most = h.most;
    order = λ e. absurd (true≢false e);
    next_least = λ e f. absurd (true≢false e);
    bits = λ e f. absurd (true≢false e);
  }

  -- beyond the limit as before
  as_before : slot < slots → l.beyond ≡ any (leb slots) (done ++ (slot ∷ []))
  as_before p = rw (any_last (leb slots) done slot, lt-leb slots slot p, or-false) h.beyond_told

  pub slot_disorder : slot < slots → slot < l.least
      → Listing slots (done ++ (slot ∷ [])) (record { beyond = l.beyond; disorder = true; mask = l.mask; least = l.least })
  slot_disorder p q = record {
    beyond_told = as_before p;
    room = h.room;
    most = h.most;
    order = λ e.
        by_test l.disorder
        (λ k. disorder_stays done slot (sym (h.order e) ∙ k))
        λ k. disorder_here done slot (rw (← h.next_least e k) q);
    next_least = λ e f. absurd (true≢false f);
    bits = λ e f. absurd (true≢false f);
  }

  pub slot_listed : slots ≤ 32 → slot < slots → l.least ≤ slot
      → Listing slots (done ++ (slot ∷ [])) (record { beyond = l.beyond; disorder = l.disorder; mask = l.mask + 2 ^ slot; least = slot + 1 })
  slot_listed s p q =
      let under : l.mask < 2 ^ slot = let a = pow_mono {i = l.least} {j = slot} q in omega (arith, h.room) in
      record {
        beyond_told = as_before p;
        room = rw (add-one, pow-suc) (omega arith);
        most = omega arith;
        order = λ e.
            by_test l.disorder
            (λ k. k ∙ disorder_stays done slot (sym (h.order e) ∙ k))
            λ k. h.order e ∙ order_kept done slot (rw (← h.next_least e k) q);
        next_least = λ e f. rw (least_last 0 done slot, add-one);
        bits = λ e f. rw (set_bits_more l.mask slot (omega arith) under, h.bits e f);
      }

-- the line's slots

-- the slots up to i
pub record Slotting (s : Bytes) (at slots i : ℕ) (l : Listed) : Type 0 where
  pub done : List ℕ
  pub whole : numbers_of (fields_behind s at) ≡ map (λ ns. done ++ ns) (numbers_of (fields_behind s i))
  pub listing : Listing slots done l
  pub behind : Behind s i
  pub line : line_end s i ≡ line_end s at

pub slotting_none : {s : Bytes} {at : ℕ} (slots : ℕ) → Behind s at → Slotting s at slots at (record { beyond = false; disorder = false; mask = 0; least = 0 })
slotting_none {s} {at} slots b =
    record { done = []; whole = map_same (numbers_of (fields_behind s at)); listing = listing_none slots; behind = b; line = refl }

module _ {s : Bytes} {at slots i : ℕ} {l : Listed} (r : Slotting s at slots i l) where
  pub slotting_bad : (get_or s i 0 ≡ line_feed → ⊥) → next number_of (fields_behind s i) ≡ none → numbers_of (fields_behind s at) ≡ none
  slotting_bad f e = r.whole ∙ rw (numbers_refused r.behind f e)

  pub slotting_more : {v after : ℕ} {l' : Listed} → Next number_of s i v after → ((done : List ℕ) → Listing slots done l → Listing slots (done ++ (v ∷ [])) l')
      → Slotting s at slots after l'
  slotting_more {v} {after} n more = record {
    done = r.done ++ (v ∷ []);
    whole = r.whole ∙ rw (numbers_taken (fields_behind s i) n.says) (put_behind r.done v (numbers_of (fields_behind s after)));
    listing = more r.done r.listing;
    behind = n.behind;
    line = n.line ∙ r.line;
  }

  pub slotting_done : get_or s i 0 ≡ line_feed → SlotsListed s at slots i l
  slotting_done f = record {
    listed_slots = r.done;
    says = r.whole ∙ rw (numbers_ended r.behind f, append-nil);
    listing = r.listing;
    ends = ends_here r.behind r.line f;
  }
