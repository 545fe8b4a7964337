-- A row met where a mask says: the mask lists the cells that may change, and is served from its lowest bit; those between stay.
use mathlib.Core.Path.{◌≡◌, refl, sym, ◌∙◌}
use mathlib.Core.Bool.{Bool, true, false, cond, ◌||◌, or_assoc, true≢false}
use mathlib.Core.List.{List, [], ◌∷◌, ◌++◌}
use Prim.Native.Nat.{ℕ, ◌+◌, ◌-◌, ◌^◌, ◌≤◌, ◌<◌}
use native.Mathlib.Nat.{zero-add, pow-suc}
use native.Mathlib.Numerals.{add-one}
use native.Mathlib.Omega.{arith}
use borrow.Author.Tests.{eq-eqb, ne_eqb}
use lib.Count.{count_trailing_zeros}
use lib.ListN.{length, get_or, set}
use Rattle.lists.specs.Over.{over, over_none, over_step}
use Rattle.lists.specs.Bits.{bits_from, set_bits, lowest, above_lowest, trailing_below, no_bits}
use Rattle.lists.specs.Highest.{set_bits_more}
use Rattle.lists.specs.Split.{by_equal, by_order, or_left, or_right}
use Rattle.paper.specs.Sheet.{listed}
use Rattle.cells.specs.States.{changes, Stays}
use Rattle.cells.proofs.Rows.{unlisted, word_moved, word_stays, pass}

-- the lowest bit of a mask, and the mask without it
module _ (m : ℕ) (p : 0 < m) (h : m < 2 ^ 32) where
  abbrev first : ℕ
  first = count_trailing_zeros 32 m

  abbrev others : ℕ
  others = m - 2 ^ first

  pub first_below : first < 32
  first_below = trailing_below 32 32 m p h

  above_first : (j : ℕ) → j ≤ first → listed (set_bits others) j ≡ false
  unfolding set_bits
  above_first j q = unlisted (bits_from 32 0 others) j (above_lowest 32 0 m j p h (omega arith))

  listed_other : (j : ℕ) → (first ≡ j → ⊥) → listed (set_bits m) j ≡ listed (set_bits others) j
  unfolding set_bits listed
  listed_other j d = rw (lowest 32 0 m p h, zero-add, ne_eqb _ _ d)

  listed_first : listed (set_bits m) first ≡ true
  unfolding set_bits listed
  listed_first = rw (lowest 32 0 m p h, zero-add, eq-eqb _ _ refl)

  pub before_first : (j : ℕ) → j < first → listed (set_bits m) j ≡ false
  before_first j q = listed_other j (λ e. omega arith) ∙ above_first j (omega arith)

-- a number is listed in one of two lists
listed_both : (a b : List ℕ) (n : ℕ) → listed (a ++ b) n ≡ (listed a n || listed b n)
unfolding listed
listed_both [] b n = refl
listed_both (x ∷ a) b n = rw (listed_both a b n, or_assoc)

-- a mask that a loop makes: its bits below i, and bit i
module _ (m i : ℕ) (small : m < 2 ^ i) (hi : i < 32) (k : ℕ) (e : listed (set_bits (m + 2 ^ i)) k ≡ false) where
  either : (listed (set_bits m) k || listed (i ∷ []) k) ≡ false
  either = sym (listed_both (set_bits m) (i ∷ []) k) ∙ rw (← set_bits_more m i hi small) e

  bit_kept : listed (set_bits m) k ≡ false
  bit_kept = or_left (listed (set_bits m) k) _ either

  bit_there : k ≡ i → ⊥
  unfolding listed
  bit_there z = true≢false (rw (eq-eqb i k (sym z)) at (or_right (listed (set_bits m) k) _ either))

-- with its next bit, which is set unless the cell stays
module _ (m i bit : ℕ) (small : m < 2 ^ i) (hi : i < 32) (here : Bool) (e : bit ≡ cond here 0 (2 ^ i)) where
  pub bit_small : m + bit < 2 ^ (i + 1)
  bit_small = go here e
    where
      go : (b : Bool) → bit ≡ cond b 0 (2 ^ i) → m + bit < 2 ^ (i + 1)
      go true q = rw (add-one, pow-suc) (omega arith)
      go false q = rw (add-one, pow-suc) (omega arith)

  pub mask_step : (P : ℕ → Type 0) → ((k : ℕ) → k < i → listed (set_bits m) k ≡ false → P k) → (here ≡ true → P i) → (k : ℕ) → k < i + 1 → listed (set_bits (m + bit)) k ≡ false → P k
  mask_step P s h k b q = go here refl e
    where
      go : (x : Bool) → here ≡ x → bit ≡ cond x 0 (2 ^ i) → P k
      go true eh eb =
          let same : m + bit ≡ m = omega arith in
          by_equal k i (λ z. rw z (h eh)) λ d. s k (omega arith) (rw same at q)
      go false eh eb =
          let q' : listed (set_bits (m + 2 ^ i)) k ≡ false = rw eb at q in
          by_equal k i (λ z. absurd (bit_there m i small hi k q' z)) λ d. s k (omega arith) (bit_kept m i small hi k q')

-- a row met in its first cells, up to one that the mask still lists
pub record Met (at n : ℕ) (f : ℕ → ℕ → ℕ) (l : List ℕ) (left done : ℕ) (words : List ℕ) (changed : Bool) : Type 0 where
  pub within : done ≤ n
  pub list : words ≡ over at done f l
  pub flag : changed ≡ changes at done f l
  pub behind : (k : ℕ) → k < done → listed (set_bits left) k ≡ false
  pub ahead : (k : ℕ) → k < 32 → done ≤ k → listed (set_bits left) k ≡ false → Stays at f l k

module _ {at n : ℕ} {f : ℕ → ℕ → ℕ} {l : List ℕ} where
  pub met_none : (left : ℕ) → ((k : ℕ) → k < 32 → listed (set_bits left) k ≡ false → Stays at f l k) → Met at n f l left 0 l false
  unfolding changes
  met_none left s = record {
    within = omega arith;
    list = sym (over_none at f l);
    flag = refl;
    behind = λ k h. absurd (omega arith);
    ahead = λ k h _ e. s k h e;
  }

  module _ {left done : ℕ} {words : List ℕ} {changed : Bool} (s : Met at n f l left done words changed) (hn : n ≤ 32) (room : at + n ≤ length l) where
    ended : ((k : ℕ) → k < n → listed (set_bits left) k ≡ false) → (words ≡ over at n f l) × (changed ≡ changes at n f l)
    ended e =
        let p = pass at f l done n s.within room λ k a b. s.ahead k (omega arith) a (e k b) in
        (s.list ∙ sym p.0, s.flag ∙ sym p.1)

    pub met_all : left ≡ 0 → (words ≡ over at n f l) × (changed ≡ changes at n f l)
    unfolding listed
    met_all z = ended λ k h. rw (z, no_bits)

    module _ (p : 0 < left) (h : left < 2 ^ 32) where
      pub met_past : n ≤ count_trailing_zeros 32 left → (words ≡ over at n f l) × (changed ≡ changes at n f l)
      met_past q = ended λ k b. before_first left p h k (omega arith)

      module _ (t : ℕ) (et : t ≡ count_trailing_zeros 32 left) (below : t < n) (new : ℕ) (en : new ≡ f t (get_or words (at + t) 0)) where
        reached : done ≤ t
        reached = by_order t done (λ b. absurd (true≢false (sym (listed_first left p h) ∙ rw et at (s.behind t b)))) λ b. b

        gone : (over at t f l ≡ over at done f l) × (changes at t f l ≡ changes at done f l)
        gone = pass at f l done t reached (omega arith) λ k a b. s.ahead k (omega arith) a (before_first left p h k (omega arith))

        now_list : words ≡ over at t f l
        now_list = s.list ∙ sym gone.0

        next : (changed' : Bool) → changed' ≡ changes at (t + 1) f l → Met at n f l (left - 2 ^ count_trailing_zeros 32 left) (t + 1) (set words (at + t) new) changed'
        next changed' e = record {
          within = omega arith;
          list = over_step at t f l 0 words new (omega arith) now_list en;
          flag = e;
          behind = λ k b. above_first left p h k (omega arith);
          ahead = λ k b a q. s.ahead k b (omega (arith, reached)) (listed_other left p h k (λ z. omega arith) ∙ q);
        }

        pub met_moved : (new ≡ get_or words (at + t) 0 → ⊥) → Met at n f l (left - 2 ^ count_trailing_zeros 32 left) (t + 1) (set words (at + t) new) true
        met_moved d = next true (word_moved f at t l words new (omega arith) now_list en d)

        pub met_stays : new ≡ get_or words (at + t) 0 → Met at n f l (left - 2 ^ count_trailing_zeros 32 left) (t + 1) (set words (at + t) new) changed
        met_stays e = next changed (word_stays f at t l words new (omega arith) now_list en changed (s.flag ∙ sym gone.1) e)
