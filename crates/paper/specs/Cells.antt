-- Document 01, "Values, steps and joins": a cell is Unknown, Conflicted, or a name with its reference mark. The old rule has
-- also Absent, read as Unknown but unequal to it. Then the meet, "kept as a table of four kinds by four kinds for each rule".
use Rattle.std.specs.Prelude.{Bool, true, false, ◌||◌}
use Rattle.std.proofs.Math.Bool.{Bool-discrete}
use mathlib.Core.HLevel.{Discrete}
use Rattle.paper.specs.Text.{Name, name_same}
use Rattle.paper.specs.declared.Rule.{Rule}
use Rattle.paper.specs.declared.Rule.TheVariants.{Old, House}

pub data Cell : Type 0 where
  absent : Cell
  unknown : Cell
  conflicted : Cell
  named : Name → Bool → Cell
  deriving Discrete as Cell_discrete

unfoldable pub cell_same : Discrete Cell
cell_same = Cell_discrete name_same Bool-discrete

-- x where the decision is yes, and y where it is no
abbrev pub pick {ℓ} : {P : Type 0} {B : Type ℓ} → Dec P → B → B → B
pick (yes p) x y = x
pick (no n) x y = y

-- "the same name keeps its name, marked if either is; different names are Conflicted"
unfoldable pub meet_names : Name → Bool → Name → Bool → Cell
meet_names n m k l = pick (name_same n k) (named n (m || l)) conflicted

-- "Old: Absent or Unknown yields to the other side (both Absent stays Absent, Absent with Unknown is Unknown); then
-- Conflicted wins; the same name keeps its name .."
unfoldable pub old_meet : Cell → Cell → Cell
old_meet absent absent = absent
old_meet absent unknown = unknown
old_meet absent conflicted = conflicted
old_meet absent (named k l) = named k l
old_meet unknown absent = unknown
old_meet unknown unknown = unknown
old_meet unknown conflicted = conflicted
old_meet unknown (named k l) = named k l
old_meet conflicted absent = conflicted
old_meet conflicted unknown = conflicted
old_meet conflicted conflicted = conflicted
old_meet conflicted (named k l) = conflicted
old_meet (named n m) absent = named n m
old_meet (named n m) unknown = named n m
old_meet (named n m) conflicted = conflicted
old_meet (named n m) (named k l) = meet_names n m k l

-- "House: Unknown wins over all, then Conflicted, then as above." Absent never occurs under this rule; here it wins over all.
unfoldable pub house_meet : Cell → Cell → Cell
house_meet absent absent = absent
house_meet absent unknown = absent
house_meet absent conflicted = absent
house_meet absent (named k l) = absent
house_meet unknown absent = absent
house_meet unknown unknown = unknown
house_meet unknown conflicted = unknown
house_meet unknown (named k l) = unknown
house_meet conflicted absent = absent
house_meet conflicted unknown = unknown
house_meet conflicted conflicted = conflicted
house_meet conflicted (named k l) = conflicted
house_meet (named n m) absent = absent
house_meet (named n m) unknown = unknown
house_meet (named n m) conflicted = conflicted
house_meet (named n m) (named k l) = meet_names n m k l

unfoldable pub meet : Rule → Cell → Cell → Cell
meet Old x y = old_meet x y
meet House x y = house_meet x y

-- "copying Absent stores Unknown"
unfoldable pub copied : Cell → Cell
copied absent = unknown
copied unknown = unknown
copied conflicted = conflicted
copied (named k l) = named k l

-- House, where the name n is written elsewhere: "every cell holding that name becomes Conflicted"
unfoldable pub overwritten : Name → Cell → Cell
overwritten n absent = absent
overwritten n unknown = unknown
overwritten n conflicted = conflicted
overwritten n (named k l) = pick (name_same k n) conflicted (named k l)

-- House, `C` in the slot itself: "from becomes to with the same mark; another name becomes Conflicted; Unknown and Conflicted stay"
unfoldable pub house_changed : Name → Name → Cell → Cell
house_changed from to absent = absent
house_changed from to unknown = unknown
house_changed from to conflicted = conflicted
house_changed from to (named k l) = pick (name_same k from) (named to l) conflicted

-- Old, `C`: "the slot gets to, with the mark of whatever name it held, else unmarked"
unfoldable pub old_changed : Name → Cell → Cell
old_changed to absent = named to false
old_changed to unknown = named to false
old_changed to conflicted = named to false
old_changed to (named k l) = named to l

-- `P`: "marked names in registers and unlisted slots become Unknown" (old), "become Conflicted" (house)
unfoldable pub collected : Rule → Cell → Cell
collected rule absent = absent
collected rule unknown = unknown
collected rule conflicted = conflicted
collected Old (named k true) = unknown
collected House (named k true) = conflicted
collected rule (named k false) = named k false
