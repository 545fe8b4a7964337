-- The meet on packed cells, by the table: which side wins, for each rule, left kind and right kind.
use Rattle.std.specs.Prelude.{cond, List, [], ◌∷◌, ℕ, ◌/◌, ◌%◌, eqb, get_or}
use Rattle.paper.specs.declared.Rule.{Rule}
use Rattle.paper.specs.declared.Rule.TheVariants.{Old, House}
use Rattle.cells.specs.Packed.{marked}

abbrev pub rule_index : Rule → ℕ
rule_index Old = 0
rule_index House = 1

-- 0: the left side wins; 1: the right side; 2: both are names
unfoldable pub meet_table : List (List (List ℕ))
meet_table =
    ((0 ∷ 1 ∷ 1 ∷ 1 ∷ []) ∷ (0 ∷ 0 ∷ 1 ∷ 1 ∷ []) ∷ (0 ∷ 0 ∷ 0 ∷ 0 ∷ []) ∷ (0 ∷ 0 ∷ 1 ∷ 2 ∷ []) ∷ [])
    ∷ ((0 ∷ 0 ∷ 0 ∷ 0 ∷ []) ∷ (1 ∷ 0 ∷ 0 ∷ 0 ∷ []) ∷ (1 ∷ 1 ∷ 0 ∷ 0 ∷ []) ∷ (1 ∷ 1 ∷ 1 ∷ 2 ∷ []) ∷ [])
    ∷ []

abbrev pub winner : ℕ → ℕ → ℕ → ℕ
winner rule left right = get_or (get_or (get_or meet_table rule []) left []) right 0

-- the same name keeps the left word, unless only the right one is marked; different names are conflicted
unfoldable pub meet_named : ℕ → ℕ → ℕ
meet_named a b = cond (eqb (a % 512) (b % 512)) (cond (marked a) a (cond (marked b) b a)) 2048

unfoldable pub meet_word : Rule → ℕ → ℕ → ℕ
meet_word rule a b =
    let w = winner (rule_index rule) (a / 1024 % 4) (b / 1024 % 4) in
    cond (eqb w 0) a (cond (eqb w 1) b (meet_named a b))
