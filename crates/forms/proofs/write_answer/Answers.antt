-- The text is the part of the room that was written.
use Rattle.std.proofs.Common.{refl, sym, length-take-le}
use Rattle.writer.specs.Within.{form_within}
use Rattle.forms.proofs.write_answer.Goals as goal

pub slice_bounds-write-end-in-Ok : goal.slice_bounds-write-end-in-Ok
slice_bounds-write-end-in-Ok g c = form_within _ _ _ _ _ refl c.in-Ok.ensures

pub slice_bounds-write-end-in-Ok-2 : goal.slice_bounds-write-end-in-Ok-2
slice_bounds-write-end-in-Ok-2 g c = sym (length-take-le _ _ (form_within _ _ _ _ _ refl c.in-Ok.ensures))
