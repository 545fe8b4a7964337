-- The numbers of a line: read one by one, and what `F`, `T`, `B` and a step of two numbers make of them.
use mathlib.Core.Path.{◌≡◌, refl, sym, ap, ◌∙◌}
use mathlib.Core.Bool.{cond}
use mathlib.Core.List.{List, [], ◌∷◌, ◌++◌, append-nil, append_assoc}
use mathlib.Core.Option.{Option, none, some, map}
use Prim.Native.Nat.{ℕ, zero, suc, ◌+◌, ◌≤◌, ◌<◌}
use native.Mathlib.Numerals.{add-one}
use native.Mathlib.Omega.{arith}
use borrow.Author.Tests.{eq-eqb, ne_eqb, eqb-true, eqb-false, le-leb, lt-leb, leb-false}
use lib.Dec.{eqb, leb}
use lib.ListN.{length, get_or, take, set, length-append, length-set}
use lib.Seq.{length-take-le, take-suc-set}
use Rattle.lists.specs.Split.{by_test}
use Rattle.paper.specs.Text.{Bytes, line_feed, number_of}
use Rattle.paper.specs.Sheet.{Step}
use Rattle.paper.specs.Refusals.{Record, function_record, typed_record, block_record, step_record, Read, next, ended, ◌>>=◌, numbers_of, function_of, typed_of, block_of, two_numbers_of}
use Rattle.fields.specs.Fields.{field_at, field_end, line_end, fields_behind}
use Rattle.fields.specs.Cursor.{fields_at, fields_behind_tab}
use Rattle.records.specs.Records.{Behind, Next}
use Rattle.records.specs.Parts.{few_numbers, NumbersKept, exactly, ExactlyKept}
use Rattle.records.specs.declared.Numbers.{Numbers}
use Rattle.records.proofs.LawsPlaces.{tab_or_feed, none_left, ends_here}

-- one number more

some≢none : {A : Type 0} {a : A} → ◌≡◌ {A = Option A} (some a) none → ⊥
some≢none {A} {a} e = let z : ◌≡◌ {A = ℕ} 0 1 = cc in omega arith

taken_field : {v : ℕ} {rest : List Bytes} (f : Bytes) (fs : List Bytes) (o : Option ℕ)
    → map {A = ℕ} {B = Read ℕ} (λ a. record { value = a; rest = fs }) o ≡ some (record { value = v; rest = rest })
    → (o >>= λ n. map (λ ns. n ∷ ns) (numbers_of fs)) ≡ map (λ ns. v ∷ ns) (numbers_of rest)
taken_field f fs none e = absurd (some≢none (sym e))
taken_field {v} {rest} f fs (some n) e =
    let q : ◌≡◌ {A = Read ℕ} (record { value = n; rest = fs }) (record { value = v; rest = rest }) = cc in
    rw (← ap (λ r. r.value) q, ← ap (λ r. r.rest) q)

-- the numbers are the next field's and those behind it
pub numbers_taken : {v : ℕ} {rest : List Bytes} (fs : List Bytes) → next number_of fs ≡ some (record { value = v; rest = rest })
    → numbers_of fs ≡ map (λ ns. v ∷ ns) (numbers_of rest)
unfolding next numbers_of
numbers_taken [] e = absurd (some≢none (sym e))
numbers_taken (f ∷ fs) e = taken_field f fs (number_of f) e

refused_field : (fs : List Bytes) (o : Option ℕ) → ◌≡◌ {A = Option (Read ℕ)} (map {A = ℕ} {B = Read ℕ} (λ a. record { value = a; rest = fs }) o) none
    → (o >>= λ n. map (λ ns. n ∷ ns) (numbers_of fs)) ≡ none
refused_field fs none e = refl
refused_field fs (some n) e = absurd (some≢none e)

refused_first : (f : Bytes) (fs : List Bytes) → next number_of (f ∷ fs) ≡ none → numbers_of (f ∷ fs) ≡ none
unfolding next numbers_of
refused_first f fs e = refused_field fs (number_of f) e

pub numbers_refused : {s : Bytes} {i : ℕ} → Behind s i → (get_or s i 0 ≡ line_feed → ⊥) → next number_of (fields_behind s i) ≡ none
    → numbers_of (fields_behind s i) ≡ none
numbers_refused {s} {i} b f e =
    let l : fields_behind s i ≡ field_at s (i + 1) ∷ fields_behind s (field_end s (i + 1)) = fields_behind_tab s i (tab_or_feed b f) ∙ fields_at s (i + 1) in
    rw l (refused_first _ _ (rw l at e))

pub numbers_ended : {s : Bytes} {i : ℕ} → Behind s i → get_or s i 0 ≡ line_feed → numbers_of (fields_behind s i) ≡ some []
unfolding numbers_of
numbers_ended b f = rw (none_left b f)

pub map_same : {A : Type 0} (o : Option A) → o ≡ map (λ a. a) o
map_same none = refl
map_same (some a) = refl

-- at most eight numbers

-- the numbers up to i
pub record NumbersReading (s : Bytes) (at count : ℕ) (values : List ℕ) (i : ℕ) : Type 0 where
  pub whole : numbers_of (fields_behind s at) ≡ map (λ ns. take count values ++ ns) (numbers_of (fields_behind s i))
  pub few : count ≤ 8
  pub room : length values ≡ 8
  pub behind : Behind s i
  pub line : line_end s i ≡ line_end s at

pub reading_none : {s : Bytes} {at : ℕ} (values : List ℕ) → Behind s at → length values ≡ 8 → NumbersReading s at 0 values at
reading_none {s} {at} values b e =
    record { whole = map_same (numbers_of (fields_behind s at)); few = omega arith; room = e; behind = b; line = refl }

pub put_behind : {A : Type 0} (done : List A) (v : A) (o : Option (List A))
    → map (λ ns. done ++ ns) (map (λ ns. v ∷ ns) o) ≡ map (λ ns. (done ++ (v ∷ [])) ++ ns) o
put_behind done v none = refl
put_behind done v (some ns) = rw append_assoc

module _ {s : Bytes} {at count : ℕ} {values : List ℕ} {i : ℕ} (r : NumbersReading s at count values i) where
  kept : length (take count values) ≡ count
  kept = length-take-le count values (omega (arith, r.few, r.room))

  -- no list of numbers, or too long a one
  pub reading_bad : (get_or s i 0 ≡ line_feed → ⊥) → next number_of (fields_behind s i) ≡ none → few_numbers (fields_behind s at) ≡ none
  unfolding few_numbers
  reading_bad f e = rw (r.whole, numbers_refused r.behind f e)

  module _ {v after : ℕ} (n : Next number_of s i v after) where
    pub reading_ninth : count ≡ 8 → few_numbers (fields_behind s at) ≡ none
    unfolding few_numbers
    reading_ninth e = rw (r.whole, numbers_taken (fields_behind s i) n.says) (go (numbers_of (fields_behind s after)))
      where
        go : (o : Option (List ℕ)) → (map (λ ns. take count values ++ ns) (map (λ ns. v ∷ ns) o) >>= λ ns. cond (leb (length ns) 8) (some ns) none) ≡ none
        go none = refl
        go (some ns) =
            let l : length (take count values ++ v ∷ ns) ≡ count + suc (length ns) = rw (length-append, kept) in
            rw (lt-leb (length (take count values ++ v ∷ ns)) 8 (omega arith))

    pub reading_more : (count ≡ 8 → ⊥) → NumbersReading s at (count + 1) (set values count v) after
    reading_more e = record {
      whole =
          r.whole
          ∙ rw (numbers_taken (fields_behind s i) n.says, add-one, take-suc-set values count v (omega (arith, r.few, r.room)))
          (put_behind (take count values) v (numbers_of (fields_behind s after)));
      few = omega (arith, r.few);
      room = simp length-set r.room;
      behind = n.behind;
      line = n.line ∙ r.line;
    }

  pub reading_done : get_or s i 0 ≡ line_feed → NumbersKept s at (record { count = count; values = values; next = i })
  unfolding few_numbers
  reading_done f = record {
    says = rw (r.whole, numbers_ended r.behind f, append-nil, kept, le-leb count 8 r.few);
    room = r.room;
    few = r.few;
    ends = ends_here r.behind r.line f;
  }

-- so many numbers and no more

unfoldable pub sized : ℕ → List ℕ → Option (List ℕ)
sized n ns = cond (eqb (length ns) n) (some ns) none

exactly_numbers : (n : ℕ) (fs : List Bytes) → exactly n fs ≡ (numbers_of fs >>= sized n)
unfolding exactly sized numbers_of ended next
exactly_numbers zero [] = refl
exactly_numbers zero (f ∷ fs) = go (number_of f) (numbers_of fs)
  where
    go : (o : Option ℕ) (p : Option (List ℕ)) → none ≡ ((o >>= λ n. map (λ ns. n ∷ ns) p) >>= sized 0)
    go none p = refl
    go (some v) none = refl
    go (some v) (some ns) = rw (ne_eqb (suc (length ns)) 0 (λ e. omega arith))
exactly_numbers (suc n) [] = rw (ne_eqb 0 (suc n) (λ e. omega arith))
exactly_numbers (suc n) (f ∷ fs) = go (number_of f) (numbers_of fs) (exactly_numbers n fs)
  where
    go : (o : Option ℕ) (p : Option (List ℕ)) → exactly n fs ≡ (p >>= sized n)
        → (map {A = ℕ} {B = Read ℕ} (λ a. record { value = a; rest = fs }) o >>= λ x. map (λ ns. x.value ∷ ns) (exactly n x.rest))
        ≡ ((o >>= λ n. map (λ ns. n ∷ ns) p) >>= sized (suc n))
    go none p e = refl
    go (some v) none e = rw e
    go (some v) (some ns) e =
        by_test (eqb (length ns) n)
        (λ t. rw (e, t, eq-eqb (suc (length ns)) (suc n) (ap suc (eqb-true _ _ t))))
        λ t. rw (e, t, ne_eqb (suc (length ns)) (suc n) (λ k. eqb-false (length ns) n t (omega arith)))

-- at most eight numbers are enough to tell
few_enough : (n : ℕ) (fs : List Bytes) → n ≤ 8 → (numbers_of fs >>= sized n) ≡ (few_numbers fs >>= sized n)
unfolding few_numbers sized
few_enough n fs h = go (numbers_of fs)
  where
    go : (o : Option (List ℕ)) → (o >>= sized n) ≡ ((o >>= λ ns. cond (leb (length ns) 8) (some ns) none) >>= sized n)
    go none = refl
    go (some ns) =
        by_test (leb (length ns) 8)
        (λ e. rw e)
        λ e. let l : 8 < length ns = leb-false _ _ e in rw (e, ne_eqb (length ns) n (λ k. omega arith))

module _ (s : Bytes) (at n : ℕ) (h : n ≤ 8) where
  told_few : {o : Option (List ℕ)} → few_numbers (fields_behind s at) ≡ o → exactly n (fields_behind s at) ≡ (o >>= sized n)
  told_few e = exactly_numbers n (fields_behind s at) ∙ few_enough n (fields_behind s at) h ∙ rw e

  pub exactly_none : few_numbers (fields_behind s at) ≡ none → exactly n (fields_behind s at) ≡ none
  exactly_none e = told_few e

module _ {s : Bytes} {at : ℕ} {r : Numbers} (read : NumbersKept s at r) (n : ℕ) (h : n ≤ 8) where
  kept_values : length (take r.count r.values) ≡ r.count
  kept_values = length-take-le r.count r.values (omega (arith, read.room, read.few))

  -- another count
  pub exactly_not : (r.count ≡ n → ⊥) → exactly n (fields_behind s at) ≡ none
  unfolding sized
  exactly_not d = told_few s at n h read.says ∙ rw (ne_eqb (length (take r.count r.values)) n (λ k. d (sym kept_values ∙ k)))

  pub exactly_read : r.count ≡ n → ExactlyKept s at n r
  unfolding sized
  exactly_read e = record {
    says = told_few s at n h read.says ∙ rw (eq-eqb _ _ (kept_values ∙ e), e);
    room = read.room;
    ends = read.ends;
  }

-- the records of numbers alone

-- what `T`, a step of two numbers and `F` make of their numbers
abbrev pub one_number : List ℕ → Record
one_number ns = typed_record (get_or ns 0 0)

abbrev pub two_numbers : (ℕ → ℕ → Step) → List ℕ → Record
two_numbers step ns = step_record (step (get_or ns 0 0) (get_or ns 1 0))

abbrev pub five_numbers : List ℕ → Record
five_numbers ns = function_record (get_or ns 0 0) (get_or ns 1 0) (get_or ns 2 0) (get_or ns 3 0) (get_or ns 4 0)

-- the last number taken, and no field behind it
last_number : (make : List ℕ → Record) (done : ℕ → Record) (fs : List Bytes) → ((v : ℕ) → done v ≡ make (v ∷ []))
    → (next number_of fs >>= λ x. ended x.rest (done x.value)) ≡ map make (exactly 1 fs)
unfolding exactly ended
last_number make done fs e = go (next number_of fs)
  where
    go : (o : Option (Read ℕ)) → (o >>= λ x. ended x.rest (done x.value)) ≡ map make (o >>= λ x. map (λ ns. x.value ∷ ns) (ended x.rest []))
    go none = refl
    go (some x) = end x.rest
      where
        end : (rest : List Bytes) → ended rest (done x.value) ≡ map make (map (λ ns. x.value ∷ ns) (ended rest []))
        end [] = rw (e x.value)
        end (f ∷ fs) = refl

-- one number taken, and the others behind it
first_number : (n : ℕ) (make : List ℕ → Record) (rest : ℕ → List Bytes → Option Record) (fs : List Bytes)
    → ((v : ℕ) (gs : List Bytes) → rest v gs ≡ map (λ ns. make (v ∷ ns)) (exactly n gs))
    → (next number_of fs >>= λ x. rest x.value x.rest) ≡ map make (exactly (suc n) fs)
unfolding exactly
first_number n make rest fs e = go (next number_of fs)
  where
    go : (o : Option (Read ℕ)) → (o >>= λ x. rest x.value x.rest) ≡ map make (o >>= λ x. map (λ ns. x.value ∷ ns) (exactly n x.rest))
    go none = refl
    go (some x) = e x.value x.rest ∙ twice (exactly n x.rest)
      where
        twice : (p : Option (List ℕ)) → map (λ ns. make (x.value ∷ ns)) p ≡ map make (map (λ ns. x.value ∷ ns) p)
        twice none = refl
        twice (some ns) = refl

pub typed_exactly : (fs : List Bytes) → typed_of fs ≡ map one_number (exactly 1 fs)
unfolding typed_of
typed_exactly fs = last_number one_number typed_record fs λ v. refl

pub pair_exactly : (step : ℕ → ℕ → Step) (fs : List Bytes) → two_numbers_of step fs ≡ map (two_numbers step) (exactly 2 fs)
unfolding two_numbers_of
pair_exactly step fs =
    first_number 1 (two_numbers step) _ fs λ a gs. last_number (λ ns. two_numbers step (a ∷ ns)) (λ b. step_record (step a b)) gs λ b. refl

pub function_exactly : (fs : List Bytes) → function_of fs ≡ map five_numbers (exactly 5 fs)
unfolding function_of
function_exactly fs =
    first_number 4 five_numbers _ fs λ a f1.
    first_number 3 (λ ns. five_numbers (a ∷ ns)) _ f1 λ b f2.
    first_number 2 (λ ns. five_numbers (a ∷ b ∷ ns)) _ f2 λ c f3.
    first_number 1 (λ ns. five_numbers (a ∷ b ∷ c ∷ ns)) _ f3 λ d f4.
    last_number (λ ns. five_numbers (a ∷ b ∷ c ∷ d ∷ ns)) (λ e. function_record a b c d e) f4 λ e. refl

pub block_few : (fs : List Bytes) → block_of fs ≡ map block_record (few_numbers fs)
unfolding block_of few_numbers
block_few fs = go (numbers_of fs)
  where
    go : (o : Option (List ℕ)) → (o >>= λ ns. cond (leb (length ns) 8) (some (block_record ns)) none) ≡ map block_record (o >>= λ ns. cond (leb (length ns) 8) (some ns) none)
    go none = refl
    go (some ns) = by_test (leb (length ns) 8) (λ e. rw e) λ e. rw e
