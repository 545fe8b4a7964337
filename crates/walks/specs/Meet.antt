-- Either rule's meet of cells is idempotent, commutative and associative, and what the house rule makes of a cell distributes over
-- its meet: a copy, a name overwritten elsewhere, a changed slot, a collection. No side condition: the laws hold for Absent too.
use Rattle.std.specs.Prelude.{◌≡◌, Bool, true, false, cond, ◌||◌}
use Rattle.std.proofs.Math.Path.{refl, subst}
use Rattle.std.proofs.Common.{sym, ◌∙◌, ap}
use Rattle.std.proofs.Math.Bool.{or_assoc, or_comm, or_self}
use Rattle.paper.specs.Text.{Name, name_same}
use Rattle.paper.specs.Cells.{Cell, absent, unknown, conflicted, named, pick, meet_names, old_meet, house_meet, meet, copied, overwritten, house_changed, collected}
use Rattle.paper.specs.declared.Rule.{Rule}
use Rattle.paper.specs.declared.Rule.TheVariants.{Old, House}
use Rattle.walks.specs.Choices.{pick_yes, pick_no}
use Rattle.walks.specs.Rows.{Spreads}

-- two names, under either rule
module _ (rule : Rule) where
  meet_of_names : (n k : Name) (m l : Bool) → meet rule (named n m) (named k l) ≡ meet_names n m k l
  unfolding meet old_meet house_meet
  meet_of_names n k m l = go rule
    where
      go : (rule : Rule) → meet rule (named n m) (named k l) ≡ meet_names n m k l
      go Old = refl
      go House = refl

  pub same_names : (n : Name) (m l : Bool) → meet rule (named n m) (named n l) ≡ named n (m || l)
  unfolding meet_names
  same_names n m l = meet_of_names n n m l ∙ pick_yes (name_same n n) (named n (m || l)) conflicted refl

  other_names : (n k : Name) (m l : Bool) → ¬ (n ≡ k) → meet rule (named n m) (named k l) ≡ conflicted
  unfolding meet_names
  other_names n k m l h = meet_of_names n k m l ∙ pick_no (name_same n k) (named n (m || l)) conflicted h

  -- what holds of either outcome holds of their meet
  pub names_meet : (n k : Name) (m l : Bool) (P : Cell → Type 0) → (n ≡ k → P (named n (m || l))) → (¬ (n ≡ k) → P conflicted) → P (meet rule (named n m) (named k l))
  unfolding meet_names
  names_meet n k m l P p q = subst P (sym (meet_of_names n k m l)) (go (name_same n k))
    where
      go : (d : Dec (n ≡ k)) → P (pick d (named n (m || l)) conflicted)
      go (yes e) = p e
      go (no e) = q e

  names_idem : (n : Name) (m : Bool) → meet rule (named n m) (named n m) ≡ named n m
  names_idem n m = same_names n m m ∙ ap (named n) (or_self m)

  names_comm : (n k : Name) (m l : Bool) → meet rule (named n m) (named k l) ≡ meet rule (named k l) (named n m)
  names_comm n k m l = names_meet n k m l (λ c. c ≡ meet rule (named k l) (named n m)) (λ e. cc (same_names n l m, or_comm m l)) (λ e. sym (other_names k n l m (λ f. e (sym f))))

  names_assoc : (n k j : Name) (m l p : Bool) → meet rule conflicted (named j p) ≡ conflicted → meet rule (named n m) conflicted ≡ conflicted
      → meet rule (meet rule (named n m) (named k l)) (named j p) ≡ meet rule (named n m) (meet rule (named k l) (named j p))
  names_assoc n k j m l p left right = go (name_same n k) (name_same k j)
    where
      go : Dec (n ≡ k) → Dec (k ≡ j) → meet rule (meet rule (named n m) (named k l)) (named j p) ≡ meet rule (named n m) (meet rule (named k l) (named j p))
      go (yes d) (yes e) = cc (same_names n m l, same_names n (m || l) p, same_names n l p, same_names n m (l || p), or_assoc m l p)
      go (yes d) (no e) = cc (same_names n m l, other_names n j (m || l) p (λ f. e (sym d ∙ f)), other_names k j l p e)
      go (no d) (yes e) = cc (other_names n k m l d, same_names k l p, other_names n k m (l || p) d)
      go (no d) (no e) = cc (other_names n k m l d, other_names k j l p e)

-- the house rule
pub house_idem : (x : Cell) → meet House x x ≡ x
unfolding meet house_meet
house_idem absent = refl
house_idem unknown = refl
house_idem conflicted = refl
house_idem (named n m) = names_idem House n m

pub house_comm : (x y : Cell) → meet House x y ≡ meet House y x
unfolding meet house_meet
house_comm absent (named k l) = refl
house_comm unknown (named k l) = refl
house_comm conflicted (named k l) = refl
house_comm (named n m) (named k l) = names_comm House n k m l
house_comm x y = refl

-- Absent wins over all
pub absent_left : (x : Cell) → meet House absent x ≡ absent
unfolding meet house_meet
absent_left absent = refl
absent_left unknown = refl
absent_left conflicted = refl
absent_left (named k l) = refl

pub absent_right : (x : Cell) → meet House x absent ≡ absent
absent_right x = house_comm x absent ∙ absent_left x

pub house_assoc : (x y z : Cell) → meet House (meet House x y) z ≡ meet House x (meet House y z)
unfolding meet house_meet
house_assoc absent y z = cc (absent_left y, absent_left z, absent_left (meet House y z))
house_assoc x absent z = cc (absent_left z)
house_assoc x y absent = absent_right (meet House x y)
house_assoc unknown (named k l) (named j p) = names_meet House k j l p (λ c. unknown ≡ meet House unknown c) (λ e. refl) (λ e. refl)
house_assoc conflicted (named k l) (named j p) = names_meet House k j l p (λ c. conflicted ≡ meet House conflicted c) (λ e. refl) (λ e. refl)
house_assoc (named n m) (named k l) unknown = names_meet House n k m l (λ c. meet House c unknown ≡ unknown) (λ e. refl) (λ e. refl)
house_assoc (named n m) (named k l) conflicted = names_meet House n k m l (λ c. meet House c conflicted ≡ conflicted) (λ e. refl) (λ e. refl)
house_assoc (named n m) (named k l) (named j p) = names_assoc House n k j m l p refl refl
house_assoc x y z = refl

-- the old rule: Absent yields to all, Conflicted wins over all
old_idem : (x : Cell) → meet Old x x ≡ x
unfolding meet old_meet
old_idem absent = refl
old_idem unknown = refl
old_idem conflicted = refl
old_idem (named n m) = names_idem Old n m

old_comm : (x y : Cell) → meet Old x y ≡ meet Old y x
unfolding meet old_meet
old_comm absent (named k l) = refl
old_comm unknown (named k l) = refl
old_comm conflicted (named k l) = refl
old_comm (named n m) (named k l) = names_comm Old n k m l
old_comm x y = refl

absent_yields : (x : Cell) → meet Old absent x ≡ x
unfolding meet old_meet
absent_yields absent = refl
absent_yields unknown = refl
absent_yields conflicted = refl
absent_yields (named k l) = refl

conflict_wins : (x : Cell) → meet Old conflicted x ≡ conflicted
unfolding meet old_meet
conflict_wins absent = refl
conflict_wins unknown = refl
conflict_wins conflicted = refl
conflict_wins (named k l) = refl

old_assoc : (x y z : Cell) → meet Old (meet Old x y) z ≡ meet Old x (meet Old y z)
unfolding meet old_meet
old_assoc absent y z = cc (absent_yields y, absent_yields (meet Old y z))
old_assoc conflicted y z = cc (conflict_wins y, conflict_wins z, conflict_wins (meet Old y z))
old_assoc x absent z = cc (absent_yields z)
old_assoc x y absent = cc (old_comm y absent, absent_yields y, old_comm (meet Old x y) absent, absent_yields (meet Old x y))
old_assoc unknown (named k l) (named j p) = names_meet Old k j l p (λ c. c ≡ meet Old unknown c) (λ e. refl) (λ e. refl)
old_assoc (named n m) (named k l) unknown = names_meet Old n k m l (λ c. meet Old c unknown ≡ c) (λ e. refl) (λ e. refl)
old_assoc (named n m) (named k l) conflicted = names_meet Old n k m l (λ c. meet Old c conflicted ≡ conflicted) (λ e. refl) (λ e. refl)
old_assoc (named n m) (named k l) (named j p) = names_assoc Old n k j m l p refl refl
old_assoc x y z = refl

-- either rule
pub cell_idem : (rule : Rule) (x : Cell) → meet rule x x ≡ x
cell_idem Old = old_idem
cell_idem House = house_idem

pub cell_comm : (rule : Rule) (x y : Cell) → meet rule x y ≡ meet rule y x
cell_comm Old = old_comm
cell_comm House = house_comm

pub cell_assoc : (rule : Rule) (x y z : Cell) → meet rule (meet rule x y) z ≡ meet rule x (meet rule y z)
cell_assoc Old = old_assoc
cell_assoc House = house_assoc

-- a meet is one of its sides, unless both are names
pub meet_keeps : (P : Cell → Type 0) → ((n k : Name) (m l : Bool) → P (named n m) → P (named k l) → P (meet House (named n m) (named k l))) → (x y : Cell) → P x → P y → P (meet House x y)
unfolding meet house_meet
meet_keeps P names absent absent p q = p
meet_keeps P names absent unknown p q = p
meet_keeps P names absent conflicted p q = p
meet_keeps P names absent (named k l) p q = p
meet_keeps P names unknown absent p q = q
meet_keeps P names unknown unknown p q = p
meet_keeps P names unknown conflicted p q = p
meet_keeps P names unknown (named k l) p q = p
meet_keeps P names conflicted absent p q = q
meet_keeps P names conflicted unknown p q = q
meet_keeps P names conflicted conflicted p q = p
meet_keeps P names conflicted (named k l) p q = p
meet_keeps P names (named n m) absent p q = q
meet_keeps P names (named n m) unknown p q = q
meet_keeps P names (named n m) conflicted p q = q
meet_keeps P names (named n m) (named k l) p q = names n k m l p q

-- A function of cells that keeps the order of the kinds, and that makes the same of two names as of Conflicted, distributes.
record Ordered (f : Cell → Cell) : Type 0 where
  on_absent : (y : Cell) → meet House (f absent) (f y) ≡ f absent
  on_unknown : meet House (f unknown) (f conflicted) ≡ f unknown
  over_unknown : (n : Name) (m : Bool) → meet House (f unknown) (f (named n m)) ≡ f unknown
  over_conflicted : (n : Name) (m : Bool) → meet House (f conflicted) (f (named n m)) ≡ f conflicted
  alike : (n : Name) (m l : Bool) → f (named n (m || l)) ≡ meet House (f (named n m)) (f (named n l))
  apart : (n k : Name) (m l : Bool) → ¬ (n ≡ k) → meet House (f (named n m)) (f (named k l)) ≡ f conflicted

ordered_spreads : (f : Cell → Cell) → Ordered f → Spreads (meet House) f
unfolding meet house_meet
ordered_spreads f p absent y = cc (absent_left y, p.on_absent y)
ordered_spreads f p unknown absent = sym (p.on_absent unknown) ∙ house_comm (f absent) (f unknown)
ordered_spreads f p unknown unknown = sym (house_idem (f unknown))
ordered_spreads f p unknown conflicted = sym p.on_unknown
ordered_spreads f p unknown (named k l) = sym (p.over_unknown k l)
ordered_spreads f p conflicted absent = sym (p.on_absent conflicted) ∙ house_comm (f absent) (f conflicted)
ordered_spreads f p conflicted unknown = sym p.on_unknown ∙ house_comm (f unknown) (f conflicted)
ordered_spreads f p conflicted conflicted = sym (house_idem (f conflicted))
ordered_spreads f p conflicted (named k l) = sym (p.over_conflicted k l)
ordered_spreads f p (named n m) absent = sym (p.on_absent (named n m)) ∙ house_comm (f absent) (f (named n m))
ordered_spreads f p (named n m) unknown = sym (p.over_unknown n m) ∙ house_comm (f unknown) (f (named n m))
ordered_spreads f p (named n m) conflicted = sym (p.over_conflicted n m) ∙ house_comm (f conflicted) (f (named n m))
ordered_spreads f p (named n m) (named k l) = names_meet House n k m l (λ c. f c ≡ meet House (f (named n m)) (f (named k l))) (λ e. cc (p.alike n m l)) (λ e. sym (p.apart n k m l e))

pub copied_spreads : Spreads (meet House) copied
unfolding copied meet house_meet
copied_spreads = ordered_spreads copied (record {
  on_absent = on_absent;
  on_unknown = refl;
  over_unknown = λ n m. refl;
  over_conflicted = λ n m. refl;
  alike = λ n m l. sym (same_names House n m l);
  apart = other_names House;
})
  where
    on_absent : (y : Cell) → meet House (copied absent) (copied y) ≡ copied absent
    on_absent absent = refl
    on_absent unknown = refl
    on_absent conflicted = refl
    on_absent (named k l) = refl

-- either side of a decision: Conflicted, or what stands there
pub overwritten_spreads : (to : Name) → Spreads (meet House) (overwritten to)
unfolding overwritten meet house_meet
overwritten_spreads to = ordered_spreads (overwritten to) (record {
  on_absent = λ y. absent_left (overwritten to y);
  on_unknown = refl;
  over_unknown = λ n m. stays unknown n m (name_same n to) refl refl;
  over_conflicted = λ n m. stays conflicted n m (name_same n to) refl refl;
  alike = λ n m l. alike n m l (name_same n to);
  apart = λ n k m l h. apart n k m l h (name_same n to) (name_same k to);
})
  where
    stays : (c : Cell) (n : Name) (m : Bool) (d : Dec (n ≡ to)) → meet House c conflicted ≡ c → meet House c (named n m) ≡ c → meet House c (pick d conflicted (named n m)) ≡ c
    stays c n m (yes e) p q = p
    stays c n m (no e) p q = q

    alike : (n : Name) (m l : Bool) (d : Dec (n ≡ to)) → pick d conflicted (named n (m || l)) ≡ meet House (pick d conflicted (named n m)) (pick d conflicted (named n l))
    alike n m l (yes e) = refl
    alike n m l (no e) = sym (same_names House n m l)

    apart : (n k : Name) (m l : Bool) → ¬ (n ≡ k) → (d : Dec (n ≡ to)) (e : Dec (k ≡ to)) → meet House (pick d conflicted (named n m)) (pick e conflicted (named k l)) ≡ conflicted
    apart n k m l h (yes d) (yes e) = refl
    apart n k m l h (yes d) (no e) = refl
    apart n k m l h (no d) (yes e) = refl
    apart n k m l h (no d) (no e) = other_names House n k m l h

pub changed_spreads : (from to : Name) → Spreads (meet House) (house_changed from to)
unfolding house_changed meet house_meet
changed_spreads from to = ordered_spreads (house_changed from to) (record {
  on_absent = λ y. absent_left (house_changed from to y);
  on_unknown = refl;
  over_unknown = λ n m. stays unknown n m (name_same n from) refl refl;
  over_conflicted = λ n m. stays conflicted n m (name_same n from) refl refl;
  alike = λ n m l. alike n m l (name_same n from);
  apart = λ n k m l h. apart n k m l h (name_same n from) (name_same k from);
})
  where
    stays : (c : Cell) (n : Name) (m : Bool) (d : Dec (n ≡ from)) → meet House c conflicted ≡ c → meet House c (named to m) ≡ c → meet House c (pick d (named to m) conflicted) ≡ c
    stays c n m (yes e) p q = q
    stays c n m (no e) p q = p

    alike : (n : Name) (m l : Bool) (d : Dec (n ≡ from)) → pick d (named to (m || l)) conflicted ≡ meet House (pick d (named to m) conflicted) (pick d (named to l) conflicted)
    alike n m l (yes e) = sym (same_names House to m l)
    alike n m l (no e) = refl

    apart : (n k : Name) (m l : Bool) → ¬ (n ≡ k) → (d : Dec (n ≡ from)) (e : Dec (k ≡ from)) → meet House (pick d (named to m) conflicted) (pick e (named to l) conflicted) ≡ conflicted
    apart n k m l h (yes d) (yes e) = absurd (h (d ∙ sym e))
    apart n k m l h (yes d) (no e) = refl
    apart n k m l h (no d) (yes e) = refl
    apart n k m l h (no d) (no e) = refl

pub collected_spreads : Spreads (meet House) (collected House)
unfolding collected meet house_meet
collected_spreads = ordered_spreads (collected House) (record {
  on_absent = λ y. absent_left (collected House y);
  on_unknown = refl;
  over_unknown = over_unknown;
  over_conflicted = over_conflicted;
  alike = alike;
  apart = apart;
})
  where
    over_unknown : (n : Name) (m : Bool) → meet House unknown (collected House (named n m)) ≡ unknown
    over_unknown n true = refl
    over_unknown n false = refl

    over_conflicted : (n : Name) (m : Bool) → meet House conflicted (collected House (named n m)) ≡ conflicted
    over_conflicted n true = refl
    over_conflicted n false = refl

    alike : (n : Name) (m l : Bool) → collected House (named n (m || l)) ≡ meet House (collected House (named n m)) (collected House (named n l))
    alike n true true = refl
    alike n true false = refl
    alike n false true = refl
    alike n false false = sym (same_names House n false false)

    apart : (n k : Name) (m l : Bool) → ¬ (n ≡ k) → meet House (collected House (named n m)) (collected House (named k l)) ≡ conflicted
    apart n k true true h = refl
    apart n k true false h = refl
    apart n k false true h = refl
    apart n k false false h = other_names House n k false false h

-- at a listed place nothing happens, elsewhere a collection
pub listed_spreads : (listed : Bool) → Spreads (meet House) (λ c. cond listed c (collected House c))
listed_spreads true x y = refl
listed_spreads false x y = collected_spreads x y
