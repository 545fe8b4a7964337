-- `write_sheet` meets its contract: by the answers of `fits` and of the reader, the text's length, and the room.
use native.Mathlib.Omega.{arith}
use mathlib.Core.Path.{sym, ◌∙◌}
use lib.ListN.{length-take}
use Rattle.writer.proofs.LawsSheet.{no_form, too_long, turned_away, no_room, text_laid}
use Rattle.writer.proofs.write_sheet.Goals as goal

pub returns-then-not-fits : goal.returns-then-not-fits
returns-then-not-fits c = no_form _ _ (sym c.fits.ensures ∙ c.if-not-fits.true)

pub write_text-length-requires : goal.write_text-length-requires
write_text-length-requires c = ((sym c.fits.ensures ∙ c.if-not-fits.false), omega arith)

pub returns-then-length-gt-MAX_SHEET : goal.returns-then-length-gt-MAX_SHEET
returns-then-length-gt-MAX_SHEET c = too_long _ _ (sym c.fits.ensures ∙ c.if-not-fits.false) c.write_text-length.ensures c.if-length-gt-MAX_SHEET.true

pub slice_bounds-is_read-end : goal.slice_bounds-is_read-end
slice_bounds-is_read-end c = simp length-take (omega arith)

pub returns-then-not-is_read : goal.returns-then-not-is_read
returns-then-not-is_read c = turned_away _ _ (sym c.fits.ensures ∙ c.if-not-fits.false) c.write_text-length.ensures c.if-length-gt-MAX_SHEET.false (omega arith) c.is_read.ensures
    c.if-not-is_read.true

pub returns-then-out-length : goal.returns-then-out-length
returns-then-out-length c = no_room _ _ (sym c.fits.ensures ∙ c.if-not-fits.false) c.write_text-length.ensures c.if-length-gt-MAX_SHEET.false (omega arith) c.is_read.ensures
    c.if-not-is_read.false c.if-out-length.true

pub slice_bounds-lay-end : goal.slice_bounds-lay-end
slice_bounds-lay-end c = simp length-take (omega arith)

pub lay-requires : goal.lay-requires
lay-requires c = simp length-take (omega (arith, c.if-out-length.false))

pub returns : goal.returns
returns c = text_laid _ _ (sym c.fits.ensures ∙ c.if-not-fits.false) c.write_text-length.ensures c.if-length-gt-MAX_SHEET.false (omega arith) c.is_read.ensures
    c.if-not-is_read.false c.if-out-length.false _ c.lay.ensures
