-- Document 02, A6: "the writer: from the loaded form back to sheet text". "A sheet has one spelling": each record has one line, and the
-- records of a sheet one order. What a call that writes a sheet answers, and what the lent buffer holds afterwards.
use Rattle.std.specs.Prelude.{Result, Ok, Err, Bool, true, false, cond, List, [], ◌∷◌, ◌++◌, map, ℕ, ltb, length}
use Rattle.std.proofs.Math.Option.{Option, none, some}
use Prim.Native.Char.{code}
use Rattle.paper.specs.Text.{Bytes, digits, name_text}
use Rattle.paper.specs.Sheet.{Operand, spill, reload, move, change, operation, safepoint, Block, Sheet}
use Rattle.paper.specs.Refusals.{Record, function_record, typed_record, block_record, step_record, Reading, loaded, refused, read}
use Rattle.paper.specs.Report.{nothing, behind_tabs}
use Rattle.paper.specs.Answer.{laid}
use Rattle.paper.specs.declared.Unwritten.{Unwritten}
use Rattle.paper.specs.declared.Unwritten.TheVariants.{NoSheet, NoRoom}

-- a register's number, or `-` for none
unfoldable pub allocation_text : Option ℕ → Bytes
allocation_text none = nothing
allocation_text (some r) = digits r

-- `(name reg)*n`
unfoldable pub operand_texts : List Operand → List Bytes
operand_texts [] = []
operand_texts (u ∷ us) = name_text u.name ∷ allocation_text u.reg ∷ operand_texts us

-- the letter of a record's line
unfoldable pub letter_of : Record → ℕ
letter_of (function_record regs slots vregs blocks entry) = code "F"
letter_of (typed_record n) = code "T"
letter_of (block_record succs) = code "B"
letter_of (step_record (spill k r)) = code "S"
letter_of (step_record (reload r k)) = code "L"
letter_of (step_record (move into from)) = code "M"
letter_of (step_record (change inst k from to)) = code "C"
letter_of (step_record (operation inst uses defs)) = code "O"
letter_of (step_record (safepoint inst slots)) = code "P"

-- and the fields behind it, in the order in which the record's form names them
unfoldable pub texts_of : Record → List Bytes
texts_of (function_record regs slots vregs blocks entry) = digits regs ∷ digits slots ∷ digits vregs ∷ digits blocks ∷ digits entry ∷ []
texts_of (typed_record n) = digits n ∷ []
texts_of (block_record succs) = map digits succs
texts_of (step_record (spill k r)) = digits k ∷ digits r ∷ []
texts_of (step_record (reload r k)) = digits r ∷ digits k ∷ []
texts_of (step_record (move into from)) = digits into ∷ digits from ∷ []
texts_of (step_record (change inst k from to)) = digits inst ∷ digits k ∷ name_text from ∷ name_text to ∷ []
texts_of (step_record (operation inst uses defs)) =
    digits inst ∷ digits (length uses) ∷ (operand_texts uses ++ (digits (length defs) ∷ operand_texts defs))
texts_of (step_record (safepoint inst slots)) = digits inst ∷ map digits slots

-- "each line closed by LF, fields parted by one tab"
unfoldable pub record_text : Record → Bytes
record_text r = letter_of r ∷ behind_tabs (texts_of r)

unfoldable pub records_text : List Record → Bytes
records_text [] = []
records_text (r ∷ rs) = record_text r ++ records_text rs

-- "opens the next block .. Its steps follow."
unfoldable pub block_records : List Block → List Record
block_records [] = []
block_records (B ∷ Bs) = block_record B.succs ∷ (map step_record B.steps ++ block_records Bs)

-- "first line, once"; "Before any `B`"; then the blocks
unfoldable pub records_of : Sheet → List Record
records_of S = function_record S.regs S.slots S.vregs S.blocks S.entry ∷ (map typed_record S.typed ++ block_records S.body)

-- a sheet's one text
unfoldable pub sheet_text : Sheet → Bytes
sheet_text S = records_text (records_of S)

-- a text that is read, and not turned away
unfoldable pub is_read : Reading → Bool
is_read (loaded S) = true
is_read (refused refusal) = false

-- what is answered, and the lent buffer afterwards
pub record SheetOut : Type 0 where
  pub answer : Result ℕ Unwritten
  pub out : List ℕ

-- "a buffer shorter than the text" is refused; "Bytes after the text stay."
unfoldable pub room_outcome : Bytes → List ℕ → SheetOut
room_outcome text out =
    cond (ltb (length out) (length text)) (record { answer = Err NoRoom; out = out }) (record { answer = Ok (length text); out = laid text out })

-- "A loaded form that no sheet gives is refused first": one whose text is turned away, since no sheet has another text; "either writes
-- nothing"
unfoldable pub sheet_outcome : Sheet → List ℕ → SheetOut
sheet_outcome S out = cond (is_read (read (sheet_text S))) (room_outcome (sheet_text S) out) (record { answer = Err NoSheet; out = out })
