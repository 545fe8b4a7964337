-- What `pair_at` is, by the answers that a walk from field to field meets.
use mathlib.Core.Path.{◌≡◌, refl, ◌∙◌}
use Rattle.std.specs.Prelude.{Option, Some, None}
use Prim.Native.Nat.{ℕ, ◌+◌}
use native.Mathlib.Omega.{arith}
use lib.ListN.{get_or}
use Rattle.paper.specs.Text.{Bytes, tab, line_feed, number_of}
use Rattle.paper.specs.Refusals.{next, ended}
use Rattle.fields.specs.Fields.{line_end, EndWithin}
use Rattle.fields.specs.Cursor.{fields_at, fields_behind_tab, fields_behind_none, line_end_tab, line_end_none}
use Rattle.fields.specs.Told.{Says, Refuses, next_says, next_refused}
use Rattle.fields.specs.declared.End as End
use Rattle.fields.specs.declared.End.TheVariants as end
use Rattle.reader.specs.Pairs.{pair_of, pair_told, pair_at}

-- a line feed is no tab
pub feed_no_tab : (s : Bytes) (at : ℕ) → get_or s at 0 ≡ line_feed → get_or s at 0 ≡ tab → ⊥
feed_no_tab s at f t = omega (arith, f, t)

-- where what is told is not `Tab`, no tab stands
pub no_tab : (s : Bytes) (at : ℕ) (e : Option End.End) → EndWithin s at e → (e ≡ Some end.Tab → ⊥) → get_or s at 0 ≡ tab → ⊥
no_tab s at (Some end.Tab) w k = absurd (k refl)
no_tab s at (Some end.LineFeed) w k = feed_no_tab s at w.1
no_tab s at None w k = w.0

module _ {s : Bytes} {at : ℕ} where
  pub no_first : Refuses number_of s at → pair_at s at ≡ None
  unfolding pair_at pair_of pair_told
  no_first w = rw (next_refused w)

  module _ {a i : ℕ} (first : Says number_of s at a i) where
    pub no_second : (get_or s i 0 ≡ tab → ⊥) → pair_at s at ≡ None
    unfolding pair_at pair_of pair_told next
    no_second n = rw (next_says first, fields_behind_none s i n)

    module _ (tabbed : get_or s i 0 ≡ tab) where
      pub bad_second : Refuses number_of s (i + 1) → pair_at s at ≡ None
      unfolding pair_at pair_of pair_told
      bad_second w = rw (next_says first, fields_behind_tab s i tabbed, next_refused w)

      module _ {b j : ℕ} (second : Says number_of s (i + 1) b j) where
        pub one_more : get_or s j 0 ≡ tab → pair_at s at ≡ None
        unfolding pair_at pair_of pair_told ended
        one_more t = rw (next_says first, fields_behind_tab s i tabbed, next_says second, fields_behind_tab s j t, fields_at s (j + 1))

        line_ends : (get_or s j 0 ≡ tab → ⊥) → line_end s at ≡ j
        line_ends n = rw (← first.place) at (line_end_tab s at (rw (← first.place) tabbed)) ∙ rw (← second.place) at (line_end_none s (i + 1) (rw (← second.place) n))

        pub both : (get_or s j 0 ≡ tab → ⊥) → pair_at s at ≡ Some (a, b, j)
        unfolding pair_at pair_of pair_told ended
        both n = rw (next_says first, fields_behind_tab s i tabbed, next_says second, fields_behind_none s j n, line_ends n)
