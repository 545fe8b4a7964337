-- `n (name reg)*n`: operands read one by one, the first eight kept as numbers.
use mathlib.Core.Path.{◌≡◌, refl, sym, ap, ◌∙◌}
use mathlib.Core.List as list
use mathlib.Core.List.{List, [], ◌∷◌, ◌++◌, append-nil, append_assoc}
use mathlib.Core.Option.{Option, none, some, map}
use Prim.Native.Nat.{ℕ, zero, suc, ◌+◌, ◌-◌, ◌≤◌, ◌<◌}
use native.Mathlib.Omega.{arith}
use lib.ListN.{length, get_or, take, set, replicate, length-append, length-set}
use lib.Seq.{take_all, take-append-le}
use Rattle.std.proofs.lemmas.List.{map-append, take_more_set}
use Rattle.paper.specs.Text.{Bytes, number_of, Name, name_of}
use Rattle.paper.specs.Sheet.{Operand}
use Rattle.paper.specs.Refusals.{Read, next, ◌>>=◌, allocation_of, operands_of, counted_operands_of}
use Rattle.fields.specs.Fields.{line_end, fields_behind}
use Rattle.records.specs.declared.OperandCodes.{OperandCodes}
use Rattle.records.specs.Records.{Behind, Next}
use Rattle.records.specs.Parts.{put_first, NextOperand, operand_meant, no_codes, held, GroupRead}

-- one operand

put_one : (u : Operand) (o : Option (Read (List Operand)))
    → (o >>= λ more. some (record { value = u ∷ more.value; rest = more.rest })) ≡ map (put_first u) o
put_one u none = refl
put_one u (some x) = refl

pub no_name : (s : Bytes) (at : ℕ) → next name_of (fields_behind s at) ≡ none → (n : ℕ) → operands_of (suc n) (fields_behind s at) ≡ none
unfolding operands_of
no_name s at e n = rw e

module _ {s : Bytes} {at : ℕ} {a : Name} {mid : ℕ} (w : Next name_of s at a mid) where
  pub no_allocation : next allocation_of (fields_behind s mid) ≡ none → (n : ℕ) → operands_of (suc n) (fields_behind s at) ≡ none
  unfolding operands_of
  no_allocation e n = rw (w.says, e)

  module _ {r : Option ℕ} {after : ℕ} (v : Next allocation_of s mid r after) where
    unrolled : (n : ℕ) → operands_of (suc n) (fields_behind s at) ≡ map (put_first (record { name = a; reg = r })) (operands_of n (fields_behind s after))
    unfolding operands_of
    unrolled n = rw (w.says, v.says) (put_one (record { name = a; reg = r }) (operands_of n (fields_behind s after)))

    pub operand_taken : NextOperand s at (record { name = a; reg = r }) after
    operand_taken =
        record { says = unrolled; behind = v.behind; further = omega (arith, w.further, v.further); line = v.line ∙ w.line }

-- the first eight in numbers

pub zeros_small : (n k limit : ℕ) → 0 < limit → (get_or (replicate n no_codes) k no_codes).name < limit
zeros_small zero k limit h = h
zeros_small (suc n) zero limit h = h
zeros_small (suc n) (suc k) limit h = zeros_small n k limit h

set_small : (l : List OperandCodes) (i : ℕ) (c : OperandCodes) (limit : ℕ) → c.name < limit → ((k : ℕ) → (get_or l k no_codes).name < limit)
    → (k : ℕ) → (get_or (set l i c) k no_codes).name < limit
set_small [] i c limit h p k = p k
set_small (x ∷ l) zero c limit h p zero = h
set_small (x ∷ l) zero c limit h p (suc k) = p (suc k)
set_small (x ∷ l) (suc i) c limit h p zero = p zero
set_small (x ∷ l) (suc i) c limit h p (suc k) = set_small l i c limit h (λ j. p (suc j)) k

-- a group, one operand after the other

unfoldable pub put_all : List Operand → Read (List Operand) → Read (List Operand)
put_all us more = record { value = us ++ more.value; rest = more.rest }

-- of n operands behind `first`, the first `count` are read
pub record Grouping (s : Bytes) (first n count : ℕ) (operands : List OperandCodes) (i : ℕ) : Type 0 where
  pub done : List Operand
  pub whole : operands_of n (fields_behind s first) ≡ map (put_all done) (operands_of (n - count) (fields_behind s i))
  pub counted : length done ≡ count
  pub most : count ≤ n
  pub kept : take 8 done ≡ list.map operand_meant (take count operands)
  pub small : (k : ℕ) → (get_or operands k no_codes).name < 200000
  pub room : length operands ≡ 8
  pub behind : Behind s i
  pub line : line_end s i ≡ line_end s first

put_none : (o : Option (Read (List Operand))) → o ≡ map (put_all []) o
unfolding put_all
put_none none = refl
put_none (some x) = refl

put_both : (us : List Operand) (u : Operand) (o : Option (Read (List Operand))) → map (put_all us) (map (put_first u) o) ≡ map (put_all (us ++ (u ∷ []))) o
unfolding put_all
put_both us u none = refl
put_both us u (some x) = rw append_assoc

pub grouping_none : {s : Bytes} {first : ℕ} (n : ℕ) (operands : List OperandCodes) → Behind s first → length operands ≡ 8
    → ((k : ℕ) → (get_or operands k no_codes).name < 200000) → Grouping s first n 0 operands first
grouping_none {s} {first} n operands b e small =
    let z : n - 0 ≡ n = omega arith in
    record {
      done = [];
      whole = rw z (put_none (operands_of n (fields_behind s first)));
      counted = refl;
      most = omega arith;
      kept = refl;
      small = small;
      room = e;
      behind = b;
      line = refl;
    }

module _ {s : Bytes} {first n count : ℕ} {operands : List OperandCodes} {i : ℕ} (g : Grouping s first n count operands i) where
  -- one more is asked for
  asked : count < n → n - count ≡ suc (n - (count + 1))
  asked h = omega arith

  pub grouping_bad : count < n → ((m : ℕ) → operands_of (suc m) (fields_behind s i) ≡ none) → operands_of n (fields_behind s first) ≡ none
  grouping_bad h e = g.whole ∙ rw (asked h, e (n - (count + 1)))

  further : {u : Operand} {after : ℕ} {operands' : List OperandCodes} → count < n → NextOperand s i u after → length operands' ≡ 8
      → ((k : ℕ) → (get_or operands' k no_codes).name < 200000) → take 8 (g.done ++ (u ∷ [])) ≡ list.map operand_meant (take (count + 1) operands')
      → Grouping s first n (count + 1) operands' after
  further {u} {after} h w a c e = record {
    done = g.done ++ (u ∷ []);
    whole = g.whole ∙ rw (asked h, w.says (n - (count + 1))) (put_both g.done u (operands_of (n - (count + 1)) (fields_behind s after)));
    counted = rw (length-append) (omega (arith, g.counted));
    most = omega arith;
    kept = e;
    small = c;
    room = a;
    behind = w.behind;
    line = w.line ∙ g.line;
  }

  -- from the ninth on nothing is kept
  pub grouping_past : {u : Operand} {after : ℕ} → count < n → NextOperand s i u after → 8 ≤ count → Grouping s first n (count + 1) operands after
  grouping_past {u} h w p =
      further h w g.room g.small
      (take-append-le 8 g.done (u ∷ []) (omega (arith, g.counted))
      ∙ g.kept
      ∙ ap (list.map operand_meant) (take_all count operands (omega (arith, g.room)) ∙ sym (take_all (count + 1) operands (omega (arith, g.room)))))

  pub grouping_more : {after : ℕ} (c : OperandCodes) → count < n → NextOperand s i (operand_meant c) after → c.name < 200000 → count < 8
      → Grouping s first n (count + 1) (set operands count c) after
  grouping_more {after} c h w small p =
      let e : length (g.done ++ (operand_meant c ∷ [])) ≡ count + 1 = rw (length-append, g.counted) in
      further h w (simp length-set g.room) (set_small operands count c 200000 small g.small)
      (take_all 8 (g.done ++ (operand_meant c ∷ [])) (omega arith)
      ∙ ap (λ t. t ++ (operand_meant c ∷ [])) (sym (take_all 8 g.done (omega (arith, g.counted))) ∙ g.kept)
      ∙ sym (ap (list.map operand_meant) (take_more_set operands count c (omega (arith, g.room))) ∙ map-append operand_meant (take count operands) (c ∷ [])))

  pub grouping_done : {at : ℕ} → n ≤ count → Next number_of s at n first → GroupRead s at (record { count = n; operands = operands }) i
  unfolding operands_of put_all counted_operands_of held
  grouping_done p w =
      let z : n - count ≡ 0 = omega arith in
      let all : count ≡ n = omega (arith, g.most) in
      record {
        operands = g.done;
        says = rw (w.says, g.whole, z, append-nil);
        kept = record {
          counted = g.counted ∙ all;
          kept = g.kept ∙ ap (λ m. list.map operand_meant (take m operands)) all;
          small = g.small;
          room = record { room = g.room };
        };
        behind = g.behind;
        line = g.line ∙ w.line;
      }

pub group_bad : {s : Bytes} {at n first : ℕ} → Next number_of s at n first → operands_of n (fields_behind s first) ≡ none → counted_operands_of (fields_behind s at) ≡ none
unfolding counted_operands_of
group_bad w e = rw (w.says, e)

pub group_uncounted : (s : Bytes) (at : ℕ) → next number_of (fields_behind s at) ≡ none → counted_operands_of (fields_behind s at) ≡ none
unfolding counted_operands_of
group_uncounted s at e = rw e
