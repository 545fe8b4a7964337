-- `sealed::check_sealed` meets its contract: the line stands behind the report that `check` laid, which has at most its size.
use mathlib.Core.Path.{sym, ◌∙◌}
use Rattle.sealed.proofs.Laws.{turned_short, accepted_text, faulty_text, room_for_line, sealed_accepted, sealed_faulty, refused_sealed}
use Rattle.sealed.proofs.check_sealed.Goals as goal

pub returns-then-too_short : goal.returns-then-too_short
returns-then-too_short c = turned_short _ _ _ (sym c.too_short.ensures ∙ c.if-too_short.true)

pub write_seal-end-requires : goal.write_seal-end-requires
write_seal-end-requires c =
    let room = (sym c.too_short.ensures ∙ c.if-too_short.false) in
    room_for_line c.check-said.ensures room (accepted_text c.check-said.ensures room (rw c.in-Accepted.is at c.check-said.ensures.within) c.in-Accepted.is)

pub write_seal-end-requires-in-Faulty : goal.write_seal-end-requires-in-Faulty
write_seal-end-requires-in-Faulty c =
    let room = (sym c.too_short.ensures ∙ c.if-too_short.false) in
    room_for_line c.check-said.ensures room (faulty_text c.check-said.ensures room (rw c.in-Faulty.is at c.check-said.ensures.within) c.in-Faulty.is)

pub returns-in-Accepted : goal.returns-in-Accepted
returns-in-Accepted c =
    let room = (sym c.too_short.ensures ∙ c.if-too_short.false) in
    sealed_accepted c.check-said.ensures room c.write_seal-end.ensures
    (accepted_text c.check-said.ensures room (rw c.in-Accepted.is at c.check-said.ensures.within) c.in-Accepted.is)

pub returns-in-Faulty : goal.returns-in-Faulty
returns-in-Faulty c =
    let room = (sym c.too_short.ensures ∙ c.if-too_short.false) in
    sealed_faulty c.check-said.ensures room c.write_seal-end-in-Faulty.ensures
    (faulty_text c.check-said.ensures room (rw c.in-Faulty.is at c.check-said.ensures.within) c.in-Faulty.is)

pub returns-in-Refused : goal.returns-in-Refused
returns-in-Refused c =
    refused_sealed c.check-said.ensures (sym c.too_short.ensures ∙ c.if-too_short.false) c.in-Refused.is
