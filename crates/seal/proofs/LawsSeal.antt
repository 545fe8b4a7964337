-- The reader's answer, by the tests of the code; and the seal's line written behind a text.
use mathlib.Core.Path.{◌≡◌, refl, ap, ◌∙◌}
use mathlib.Core.Bool.{Bool, true, false, cond}
use mathlib.Core.List.{List}
use Prim.Native.Nat.{ℕ, ◌+◌, ◌-◌, ◌≤◌, ◌<◌}
use native.Mathlib.Omega.{arith}
use borrow.Author.Tests.{le-leb, lt-leb}
use lib.Dec.{eqb}
use lib.ListN.{length, take, drop, length-drop}
use lib.Seq.{take_all}
use Rattle.lists.specs.Sets.{Wrote}
use Rattle.paper.specs.Text.{Bytes}
use Rattle.std.specs.Cmp.Lexicographic.{pointwise}
use Rattle.paper.specs.Limits.{seal_size}
use Rattle.paper.specs.Seal.{crc_of, hex_digits, seal_line, seal_shaped, closed, before_seal, last_line, has_seal, seal_of}
use Rattle.paper.specs.declared.Seal.TheVariants.{Good, Wrong, None}
use Rattle.seal.proofs.LawsText.{same_bytes}
use borrow.Rule.Slice.PartMut.{put_mid}
use lib.Seq.{sets, sets-eq}
use Rattle.std.proofs.lemmas.List.{append_assoc, drop-drop}

module _ (text : Bytes) where
  -- the bytes before the last eleven, and these, as the code lends them
  abbrev pub front : Bytes
  front = take (length text - seal_size) text

  abbrev pub back : Bytes
  back = take (length text - (length text - seal_size)) (drop (length text - seal_size) text)

  pub back_is : back ≡ last_line text
  unfolding last_line
  back_is =
      let rest = drop (length text - seal_size) text in
      take_all (length text - (length text - seal_size)) rest (omega (arith, length-drop (length text - seal_size) text))

  pub short : length text < seal_size → None ≡ seal_of text
  unfolding seal_of has_seal
  short h = rw (lt-leb seal_size (length text) h)

  module _ (long : seal_size ≤ length text) where
    pub unshaped : seal_shaped back ≡ false → None ≡ seal_of text
    unfolding seal_of has_seal
    unshaped s = rw (le-leb seal_size (length text) long, ← back_is, s)

    pub unclosed : seal_shaped back ≡ true → closed front ≡ false → None ≡ seal_of text
    unfolding seal_of has_seal before_seal
    unclosed s k = rw (le-leb seal_size (length text) long, ← back_is, s, k)

    module _ (s : seal_shaped back ≡ true) (k : closed front ≡ true) (line : Bytes) (e : line ≡ seal_line (crc_of front)) where
      pub told : (t : Bool) → pointwise eqb back line ≡ t → cond t Good Wrong ≡ seal_of text
      unfolding seal_of has_seal before_seal
      told t h = rw (le-leb seal_size (length text) long, ← back_is, s, k, ← e, ← same_bytes, h)

-- a text copied to a place
copied : (l text : List ℕ) (at n : ℕ) → length text ≡ n → at + n ≤ length l → put_mid at (at + n - at) l text ≡ sets l at text
copied l text at n e room =
    let k : at + n - at ≡ n = omega arith in
    rw (k, sets-eq text l at (omega arith), e, drop-drop, append_assoc)

line_long : (word : ℕ) → length (seal_line word) ≡ seal_size
unfolding seal_line hex_digits
line_long word = refl

-- the line of the bytes before it, copied behind them
pub sealed_by : (l : List ℕ) (end : ℕ) {line l' : List ℕ} {word : ℕ} → word ≡ crc_of (take end l) → line ≡ seal_line word → l' ≡ line → end + seal_size ≤ length l
    → Wrote l end (seal_line (crc_of (take end l))) (put_mid end (end + seal_size - end) l l') (end + seal_size)
sealed_by l end {line} {l'} {word} w e p room =
    let spelled : l' ≡ seal_line (crc_of (take end l)) = p ∙ e ∙ ap seal_line w in
    record {
      list = rw spelled (copied l _ end seal_size (line_long _) room);
      next = rw line_long;
    }
