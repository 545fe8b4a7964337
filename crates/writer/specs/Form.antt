-- What loaded words of any length and content hold: the sheet that stands in them, where they have the published size and no count in them
-- goes beyond the room that they have for it; and what writing it answers.
use Rattle.std.specs.Prelude.{Result, Ok, Err, ◌≡◌, Bool, true, cond, ◌&&◌, List, [], ◌∷◌, ◌++◌, ℕ, zero, suc, ◌+◌, ◌≤◌, eqb, leb, length, get_or}
use Rattle.std.proofs.Math.Option.{Option, none, some}
use Rattle.paper.specs.Text.{Bytes, digits}
use Rattle.paper.specs.Sheet.{Operand, Sheet}
use Rattle.paper.specs.Limits.{max_blocks, max_succs, max_steps, words_size}
use Rattle.paper.specs.Refusals.{Record, function_record, typed_record}
use Rattle.paper.specs.Report.{behind_tabs}
use Rattle.paper.specs.Writing.{operand_texts, record_text, SheetOut, sheet_outcome}
use Rattle.paper.specs.declared.Unwritten.{Unwritten}
use Rattle.paper.specs.declared.Unwritten.TheVariants.{NoSheet, NoRoom}
use Rattle.layout.specs.Layout.{regs_word, slots_word, vregs_word, blocks_word, entry_word, opened_word}
use Rattle.loaded.specs.Loaded.{first_step, step_total, succ_total, sheet_of}
use Rattle.loaded.specs.declared.CopyKind.{CopyKind}
use Rattle.loaded.specs.declared.CopyKind.TheVariants.{Spill, Reload, Move}
use Rattle.writer.specs.declared.WriteVerdict.{WriteVerdict}

-- each of the n blocks from b on has its successors and its steps within the words
unfoldable pub blocks_fit : List ℕ → ℕ → ℕ → Bool
blocks_fit words b zero = true
blocks_fit words b (suc n) =
    leb (succ_total words b) max_succs && (leb (first_step words b + step_total words b) max_steps && blocks_fit words (b + 1) n)

-- the same as two facts of one block
pub record BlockFits (words : List ℕ) (b : ℕ) : Type 0 where
  pub succs : succ_total words b ≤ max_succs
  pub steps : first_step words b + step_total words b ≤ max_steps

unfoldable pub fits : List ℕ → Bool
fits words = leb words_size (length words) && (leb (get_or words opened_word 0) max_blocks && blocks_fit words 0 (get_or words opened_word 0))

-- the loaded form that the words hold, if they hold one
unfoldable pub form_of : List ℕ → Option Sheet
form_of words = cond (fits words) (some (sheet_of words)) none

-- words that hold no form hold none that a sheet gives
unfoldable pub form_outcome : Option Sheet → List ℕ → SheetOut
form_outcome none out = record { answer = Err NoSheet; out = out }
form_outcome (some S) out = sheet_outcome S out

-- over the C interface: 0 written, 1 no sheet gives the form, 2 the buffer is too short
unfoldable pub verdict_of : Result ℕ Unwritten → WriteVerdict
verdict_of (Ok n) = record { answer = 0; length = n }
verdict_of (Err NoSheet) = record { answer = 1; length = 0 }
verdict_of (Err NoRoom) = record { answer = 2; length = 0 }

pub record WriteExported (words before after : List ℕ) (r : WriteVerdict) : Type 0 where
  pub answer : r ≡ verdict_of (form_outcome (form_of words) before).answer
  pub buffer : after ≡ (form_outcome (form_of words) before).out

-- the record of the `F` line
abbrev pub function_in : List ℕ → Record
function_in words =
    function_record (get_or words regs_word 0) (get_or words slots_word 0) (get_or words vregs_word 0) (get_or words blocks_word 0) (get_or words entry_word 0)

-- the line of virtual name n, where its word is not 0
unfoldable pub typed_text : ℕ → ℕ → Bytes
typed_text n word = cond (eqb word 0) [] (record_text (typed_record n))

-- an operation's fields behind its inst, to the line's end
unfoldable pub groups_text : List Operand → List Operand → Bytes
groups_text uses defs = behind_tabs (digits (length uses) ∷ (operand_texts uses ++ (digits (length defs) ∷ operand_texts defs)))

-- the letter of a copy
unfoldable pub copy_letter : CopyKind → ℕ
copy_letter Spill = 83
copy_letter Reload = 76
copy_letter Move = 77
