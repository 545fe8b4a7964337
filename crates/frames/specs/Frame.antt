-- A frame's first line; and what is known of a frame that was read, of the room that was lent for it, and of the bytes that a reader had
-- and a writer holds, where those are known.
use Rattle.std.specs.Prelude.{◌≡◌, List, [], ◌∷◌, ◌++◌, cond, ℕ, ◌+◌, ◌≤◌, ◌<◌, eqb, length, get_or, take, drop, Option, None, Some, Ok, Err, Result}
use Rattle.std.specs.Io.KnownBytes.{Keeps, Consumes}
use Rattle.std.specs.List.{FoldsTo}
use Rattle.std.specs.Fn.{Mut, CalledWithState}
use Rattle.std.specs.declared.io.Error.{Error}
use denote.Ref.{Bor, MutBor}
use Rattle.paper.specs.Text.{Bytes, line_feed, digits}
use Rattle.fields.specs.Fields.{number_at, end_at}
use Rattle.fields.specs.declared.End as End
use Rattle.fields.specs.declared.End.TheVariants as end
use Rattle.frames.specs.declared.Malformed.{Malformed}

abbrev pub hash : ℕ
hash = 35

-- a length has at most five digits
abbrev pub longest_frame : ℕ
longest_frame = 99999

-- the length that a line says: `#`, a number as sheets spell it, LF
unfoldable pub length_ended : ℕ → Option End.End → Option ℕ
length_ended n (Some end.LineFeed) = Some n
length_ended n (Some end.Tab) = None
length_ended n None = None

unfoldable pub length_behind : Bytes → Option (ℕ × ℕ) → Option ℕ
length_behind line None = None
length_behind line (Some x) = length_ended x.0 (end_at line x.1)

unfoldable pub length_of : Bytes → Option ℕ
length_of line = cond (eqb (get_or line 0 0) hash) (length_behind line (number_at line 1)) None

-- a byte was taken from what a reader had, or nothing was
abbrev pub ByteTaken : Option Bytes → Option Bytes → Option ℕ → Type 0
ByteTaken old new (Some b) = Consumes old new (b ∷ [])
ByteTaken old new None = Keeps old new

-- a line was read to the start of the room: no line feed stands in it before its last byte
pub record LineLeft (before after : List ℕ) (n : ℕ) : Type 0 where
  pub inside : n ≤ length after
  pub same_length : length after ≡ length before
  pub one_line : (i : ℕ) → i + 1 < n → get_or after i 0 ≡ line_feed → ⊥

-- a frame that was read stands at the start of the room, and later bytes keep their values; the end of the input changes nothing;
-- what is no frame may have been read in part
abbrev pub FrameLeft : List ℕ → List ℕ → Result (Option ℕ) Malformed → Type 0
FrameLeft before after (Ok (Some n)) = (n ≤ length after) × (n ≤ longest_frame) × (drop n after ≡ drop n before)
FrameLeft before after (Ok None) = after ≡ before
FrameLeft before after (Err e) = drop longest_frame after ≡ drop longest_frame before

-- what was taken from a reader: of a frame that was read its first line, which says its length, and its bytes; at the end of the input
-- nothing; of what is no frame it is not said
abbrev pub FrameTaken : Option Bytes → Option Bytes → List ℕ → Result (Option ℕ) Malformed → Type 0
FrameTaken old new after (Ok (Some n)) = (line : Bytes) × (length_of line ≡ Some n) × Consumes old new (line ++ take n after)
FrameTaken old new after (Ok None) = Keeps old new
FrameTaken old new after (Err e) = Unit {0}

-- these bytes are frames, one behind the other, of these texts
abbrev pub AreFrames : Bytes → List Bytes → Type 0
AreFrames bytes [] = bytes ≡ []
AreFrames bytes (text ∷ texts) =
    (line : Bytes) × (rest : Bytes) × (length_of line ≡ Some (length text)) × (bytes ≡ line ++ (text ++ rest)) × AreFrames rest texts

module _ {F W : Type 0} (g : Mut F (MutBor W × (Bor Bytes × Unit {0})) (Result (Unit {0}) Error × (MutBor W × Unit {0}))) where
  -- a text was answered: the reply was called at it, with the writer, and did not fail
  abbrev pub Answered : F × W → Bytes → F × W → Type 0
  Answered before text after = (shown : Bor Bytes) × (shown.now ≡ text) × CalledWithState g before.0 before.1 shown (Ok tt) after.0 after.1

  -- what was taken from a reader is frames, and each of their texts was answered, in their order
  pub record EachAnswered (old new : Option Bytes) (before after : F × W) : Type 0 where
    pub texts : List Bytes
    pub bytes : Bytes
    pub frames : AreFrames bytes texts
    pub taken : Consumes old new bytes
    pub answered : FoldsTo Answered before texts after

-- `#`, the length, LF
unfoldable pub frame_head : ℕ → Bytes
frame_head n = hash ∷ (digits n ++ (line_feed ∷ []))

abbrev pub longest_head : ℕ
longest_head = 7

-- a text as a frame
abbrev pub framed : Bytes → Bytes
framed text = frame_head (length text) ++ text
